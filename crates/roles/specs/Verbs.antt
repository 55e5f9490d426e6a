-- "The table of roles against verbs".
use Rattle.std.specs.Prelude.{Bool, true, false, List, [], ◌∷◌, ℕ, ltb, eqb, get_or, Result, Ok, Err}
use Rattle.lists.specs.Choice.{choose}
use Rattle.refusal.specs.Answer.{Answer, accepted, refused, number_of}
use Rattle.roles.specs.declared.Role.{Role}
use Rattle.roles.specs.declared.Role.TheVariants.{Down, Idle, Sync, Backup, Primary}
use Rattle.roles.specs.declared.Verb.{Verb}
use Rattle.roles.specs.declared.Verb.TheVariants.{Start, Ready, Unready, Pass, Crash, Restart, Cut, Mend}
use Rattle.roles.specs.declared.Event.{Event}
use Rattle.roles.specs.declared.Event.TheVariants.{Nothing, ToBackup, ToSync, ToIdle, ToDown, Passed}
use Rattle.roles.specs.Roles.{role_number, in_role_of}
use Rattle.refusal.specs.declared.Refusal.{Refusal}

-- a verb that takes a server from the role a to the role b; "12. Server down (.. the acting server
-- only)", "14. The role does not allow the verb."
unfoldable pub from : Role → Role → Role → Answer
from a b r = choose (in_role_of r Down) (refused 12) (choose (in_role_of r a) (accepted (role_number b ∷ [])) (refused 14))

-- what a verb makes of a server in the role r: the role that it enters, or keeps by `cut` and
-- `mend`, or a refusal
unfoldable pub enters : Verb → Role → Answer
-- "`start`: idle to sync. `ready`: sync to backup .. `unready`: backup to sync."
enters Start r = from Idle Sync r
enters Ready r = from Sync Backup r
enters Unready r = from Backup Sync r
-- "`pass a b`: a, being primary, .. goes to backup"
enters Pass r = from Primary Backup r
-- "`crash`: any role to down. `restart`: down to idle."; "13. `restart` of a server that is up."
enters Crash r = choose (in_role_of r Down) (refused 12) (accepted (role_number Down ∷ []))
enters Restart r = choose (in_role_of r Down) (accepted (role_number Idle ∷ [])) (refused 13)
-- "`cut a b`, `mend a b`: .. roles do not matter"
enters Cut r = accepted (role_number r ∷ [])
enters Mend r = accepted (role_number r ∷ [])

-- the event of entering a role that a verb leads to, by its number
unfoldable pub entering : ℕ → Event
entering k = choose (eqb k 0) ToDown (choose (eqb k 1) ToIdle (choose (eqb k 2) ToSync ToBackup))

-- what happens to the acting server of an allowed verb, k being the number of the role entered and
-- b the second identity
abbrev pub verb_event : Verb → ℕ → ℕ → Event
verb_event Start b k = entering k
verb_event Ready b k = entering k
verb_event Unready b k = entering k
-- "sends a heartbeat with BS = b and goes to backup, silence age 0"
verb_event Pass b k = Passed b
verb_event Crash b k = entering k
verb_event Restart b k = entering k
verb_event Cut b k = Nothing
verb_event Mend b k = Nothing

-- "`pass a b`", "`cut a b`, `mend a b`": verbs of two identities
abbrev pub paired : Verb → Bool
paired Start = false
paired Ready = false
paired Unready = false
paired Pass = true
paired Crash = false
paired Restart = false
paired Cut = true
paired Mend = true

-- what happens, if anything: a refused verb does nothing
unfoldable pub verb_happens : Verb → ℕ → Answer → Event
verb_happens v b a = choose (eqb a.number 0) (verb_event v b (get_or a.values 0 0)) Nothing

-- the number and the values of what a role allows: the number of the role
abbrev pub of_allowed : Result ℕ Refusal → Answer
of_allowed (Ok k) = accepted (k ∷ [])
of_allowed (Err r) = refused (number_of r)

-- ---- the table, as the code has it: the number of the role entered, or kept by `cut` and `mend`,
-- or that of the refusal

abbrev pub verb_number : Verb → ℕ
verb_number Start = 0
verb_number Ready = 1
verb_number Unready = 2
verb_number Pass = 3
verb_number Crash = 4
verb_number Restart = 5
verb_number Cut = 6
verb_number Mend = 7

abbrev pub table : List (List ℕ)
table =
    (12 ∷ 12 ∷ 12 ∷ 12 ∷ 12 ∷ 1 ∷ 0 ∷ 0 ∷ [])
    ∷ (2 ∷ 14 ∷ 14 ∷ 14 ∷ 0 ∷ 13 ∷ 1 ∷ 1 ∷ [])
    ∷ (14 ∷ 3 ∷ 14 ∷ 14 ∷ 0 ∷ 13 ∷ 2 ∷ 2 ∷ [])
    ∷ (14 ∷ 14 ∷ 2 ∷ 14 ∷ 0 ∷ 13 ∷ 3 ∷ 3 ∷ [])
    ∷ (14 ∷ 14 ∷ 14 ∷ 14 ∷ 0 ∷ 13 ∷ 4 ∷ 4 ∷ [])
    ∷ (14 ∷ 14 ∷ 14 ∷ 3 ∷ 0 ∷ 13 ∷ 5 ∷ 5 ∷ [])
    ∷ []

abbrev pub cell : ℕ → ℕ → ℕ
cell r v = get_or (get_or table r []) v 0

-- a cell as an answer
unfoldable pub of_cell : ℕ → Answer
of_cell n = choose (ltb n 12) (accepted (n ∷ [])) (refused n)
