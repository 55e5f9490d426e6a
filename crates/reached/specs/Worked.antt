-- Lists of calls, for the examples of the crate settling.
use Rattle.std.specs.Prelude.{List, [], ◌∷◌, ℕ, replicate}
use Rattle.heartbeat.specs.declared.Rank.{Rank}
use Rattle.roles.specs.declared.Verb.TheVariants.{Start, Ready, Pass, Cut, Mend}
use Rattle.roles.specs.Roles.{role_number}
use Rattle.group.specs.declared.State.{State}
use Rattle.group.specs.Table.{table_of, fresh}
use Rattle.group.specs.Hearing.{place}
use Rattle.group.specs.Calls.{Call, verb, advance_to}

-- the servers of the examples: 1, 2 and 3, in the places 0, 1 and 2, of these priorities
abbrev pub ranked : ℕ → ℕ → ℕ → List Rank
ranked a b d =
    record { priority = a; identity = 1 }
    ∷ record { priority = b; identity = 2 }
    ∷ record { priority = d; identity = 3 }
    ∷ []

-- 3 is the highest and 1 the lowest
abbrev pub three_highest : List Rank
three_highest = ranked 10 20 30

-- 2 is the highest and 1 the lowest
abbrev pub two_highest : List Rank
two_highest = ranked 10 30 20

-- their roles by number: 3 is backup, 4 prospect, 5 primary
abbrev pub roles_of : State → List ℕ
roles_of c = role_number (place c 0).role ∷ role_number (place c 1).role ∷ role_number (place c 2).role ∷ []

-- a lent slice that is long enough
abbrev pub lent : List ℕ
lent = replicate 2000 0

-- all three get ready at once; if that is in frame 0 and only advances follow, the highest is
-- primary from frame 12 on
abbrev pub all_ready : List Call → List Call
all_ready ks =
    verb Start 1 0 lent
    ∷ verb Ready 1 0 lent
    ∷ verb Start 2 0 lent
    ∷ verb Ready 2 0 lent
    ∷ verb Start 3 0 lent
    ∷ verb Ready 3 0 lent
    ∷ ks

-- nobody is ready before frame 13
abbrev pub late_ready : List Call
late_ready = advance_to 13 lent ∷ all_ready []

-- a lower server is primary when the higher ones get ready
abbrev pub lower_beats : List Call
lower_beats =
    verb Start 1 0 lent
    ∷ verb Ready 1 0 lent
    ∷ advance_to 13 lent
    ∷ verb Start 2 0 lent
    ∷ verb Ready 2 0 lent
    ∷ verb Start 3 0 lent
    ∷ verb Ready 3 0 lent
    ∷ []

-- the group that needs all of 4 periods and 2 frames: with 3 unheard by 2, both are primary from
-- frame 12 on and beat in frame 13, where 3 passes to 1 and the link is mended
abbrev pub slowest : List Call
slowest = all_ready (advance_to 6 lent ∷ verb Cut 3 2 lent ∷ advance_to 13 lent ∷ verb Pass 3 1 lent ∷ verb Mend 3 2 lent ∷ [])

-- the primary passes to the lowest, which hears it in frame t + 1
abbrev pub passing : List Call
passing = all_ready (advance_to 13 lent ∷ verb Pass 3 1 lent ∷ [])

-- two primaries, and the cut link, from one of them to the other, mended in frame t
abbrev pub two_primaries : List Call
two_primaries = all_ready (advance_to 6 lent ∷ verb Cut 3 2 lent ∷ advance_to 13 lent ∷ verb Mend 3 2 lent ∷ [])

abbrev pub opened : List Rank → State
opened rs = fresh (table_of rs) 3
