-- Bytes written into a lent slice.
use Rattle.std.specs.Prelude.{Bool, List, [], ◌∷◌, ◌≡◌, ℕ, ◌+◌, leb, length, Result, Ok, Err}
use Rattle.lists.specs.Choice.{choose}
use Rattle.lists.specs.Splice.{splice, fits}
use Rattle.refusal.specs.Answer.{Answer, accepted, refused, number_of}
use Rattle.text.specs.Digits.{digits}
use Rattle.text.specs.Trips.{Trips}
use Rattle.refusal.specs.declared.Refusal.{Refusal}

-- the number and the values of a writer's answer: where it is accepted, the place after what it
-- wrote
abbrev pub of_written : Result ℕ Refusal → Answer
of_written (Ok at) = accepted (at ∷ [])
of_written (Err r) = refused (number_of r)

-- whether a slice of l bytes has room for n of them from the place `at` on
abbrev pub room_for : ℕ → ℕ → ℕ → Bool
room_for l at n = leb (at + n) l

-- "9. The lent output slice is shorter than what the call would otherwise write." A writer takes a
-- place in the slice, so what counts is the slice from that place on. A place beyond the slice's
-- end gets 9 even if nothing is to be written: document 01 has no places, and is silent on it
unfoldable pub writing : List ℕ → ℕ → List ℕ → Answer
writing d at w = choose (fits d at w) (accepted ((at + length w) ∷ [])) (refused 9)

-- the slice d after such a call: "writes to no lent slice" where it is refused
unfoldable pub wrote : List ℕ → ℕ → List ℕ → List ℕ
wrote d at w = choose (fits d at w) (splice d at w) d

-- A call that writes the bytes w into the slice d, at the place `at`: r is its answer, and d' the
-- slice afterwards.
pub record Writes (d : List ℕ) (at : ℕ) (w : List ℕ) (r : Result ℕ Refusal) (d' : List ℕ) : Type 0 where
  pub answer : of_written r ≡ writing d at w
  pub slice : d' ≡ wrote d at w

-- A call that writes the digits of n, and what holds of all numbers written and read.
pub record WritesNumber (d : List ℕ) (at n : ℕ) (r : Result ℕ Refusal) (d' : List ℕ) : Type 0 where
  pub writes : Writes d at (digits n) r d'
  pub trips : Trips

-- A call that is refused with the number k unless ok holds, and otherwise writes w as above.
pub record WritesIf (ok : Bool) (k : ℕ) (d : List ℕ) (at : ℕ) (w : List ℕ) (r : Result ℕ Refusal) (d' : List ℕ) : Type 0 where
  pub answer : of_written r ≡ choose ok (writing d at w) (refused k)
  pub slice : d' ≡ choose ok (wrote d at w) d

-- A call that goes on from p, the answer of the writer before it: it writes w at the place where
-- that one ended. After a refusal it writes nothing and answers that refusal again.
abbrev pub writing_on : List ℕ → (Result ℕ Refusal) → List ℕ → Answer
writing_on d (Ok at) w = writing d at w
writing_on d (Err k) w = refused (number_of k)

abbrev pub wrote_on : List ℕ → (Result ℕ Refusal) → List ℕ → List ℕ
wrote_on d (Ok at) w = wrote d at w
wrote_on d (Err k) w = d

pub record WritesOn (d : List ℕ) (p : Result ℕ Refusal) (w : List ℕ) (r : Result ℕ Refusal) (d' : List ℕ) : Type 0 where
  pub answer : of_written r ≡ writing_on d p w
  pub slice : d' ≡ wrote_on d p w
