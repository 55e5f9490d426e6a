-- A day on the fresh channel of a list of servers.
use Rattle.std.specs.Prelude.{List, [], ◌∷◌, ◌≡◌, ℕ, ◌/◌, ◌%◌, eqb, ltb, length}
use Rattle.lists.specs.Choice.{choose}
use Rattle.lists.specs.Splice.{splice}
use Rattle.group.specs.declared.Table.{Table}
use Rattle.group.specs.declared.State.{State}
use Rattle.group.specs.Outcome.{Outcome, channel_in, slice_in}
use Rattle.group.specs.Table.{empty, added, fresh_refusal, fresh}
use Rattle.group.specs.Verbs.{verb_outcome}
use Rattle.group.specs.Advance.{within_goes}
use Rattle.group.specs.Answers.{no_channel}
use Rattle.group.specs.Calls.{channel_after, numbers_of}
use Rattle.calls.specs.Encoding.{verb_at}
use Rattle.calls.specs.Running.{bytes_after, listed, list_refusal}

-- the table t with the servers of a list, an identity and a priority each, of which the lowest 16
-- and 8 bits count; one that is refused is left out
unfoldable pub table_from : Table → List ℕ → Table
table_from t [] = t
table_from t (i ∷ []) = t
table_from t (i ∷ p ∷ l) = table_from (added t (i % 65536) (p % 256)) l

abbrev pub table_of : List ℕ → Table
table_of l = table_from empty l

-- the step of the number n with a slice of so many bytes: a verb, or as many advances towards a
-- frame as fit. It is for measuring: no time is tested, and no number of a refusal is kept
unfoldable pub step_of : State → ℕ → ℕ → Outcome
step_of c n room =
    choose (ltb (n % 10) 8)
    (verb_outcome c (verb_at (n % 10)) (n / 10 % 65536) (n / 10 / 65536 % 65536))
    (within_goes c (n / 10 % 4294967296) room)

-- the state that it hands back, and the slice afterwards
abbrev pub state_one : State → ℕ → List ℕ → State
state_one c n d = channel_in c (step_of c n (length d)) (length d)

abbrev pub slice_one : State → ℕ → List ℕ → List ℕ
slice_one c n d = slice_in (step_of c n (length d)) d

pub record OneStep (c : State) (n : ℕ) (d : List ℕ) (x : State) (d' : List ℕ) : Type 0 where
  pub state : x ≡ state_one c n d
  pub slice : d' ≡ slice_one c n d

-- steps one after the other, each on what the one before handed back
unfoldable pub state_after : State → List ℕ → List ℕ → State
state_after c [] d = c
state_after c (n ∷ ns) d = state_after (state_one c n d) ns (slice_one c n d)

unfoldable pub slice_after : State → List ℕ → List ℕ → List ℕ
slice_after c [] d = d
slice_after c (n ∷ ns) d = slice_after (state_one c n d) ns (slice_one c n d)

pub record DayRuns (c : State) (ns d : List ℕ) (x : State) (d' : List ℕ) : Type 0 where
  pub state : x ≡ state_after c ns d
  pub slice : d' ≡ slice_after c ns d

-- the fresh channel; where it is refused, one with no server
abbrev pub opened : List ℕ → ℕ → State
opened servers n = choose (eqb (fresh_refusal (table_of servers) n) 0) (fresh (table_of servers) n) no_channel

pub record DayEnds (servers : List ℕ) (n : ℕ) (ns d : List ℕ) (r : ℕ) (d' : List ℕ) : Type 0 where
  pub frame : r ≡ (state_after (opened servers n) ns d).frame
  pub slice : d' ≡ slice_after (opened servers n) ns d

-- the calls that the numbers ks encode, on the fresh channel of the servers: the frame that they
-- end in, what each gets, and the bytes
pub record CallsEnd (servers : List ℕ) (n : ℕ) (ks d e : List ℕ) (r : ℕ) (d' e' : List ℕ) : Type 0 where
  pub frame :
      r ≡ (choose (eqb (list_refusal (table_of servers) n ks d e) 0) (channel_after (fresh (table_of servers) n) (listed (table_of servers) n ks d e)) no_channel).frame
  pub numbers : e' ≡ choose (eqb (list_refusal (table_of servers) n ks d e) 0) (splice e 0 (numbers_of (fresh (table_of servers) n) (listed (table_of servers) n ks d e))) e
  pub bytes : d' ≡ choose (eqb (list_refusal (table_of servers) n ks d e) 0) (bytes_after (fresh (table_of servers) n) d ks) d
