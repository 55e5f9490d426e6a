-- A field read as a number.
use Rattle.std.specs.Prelude.{Bool, false, not, ◌&&◌, List, [], ◌∷◌, ℕ, ◌+◌, ◌-◌, ◌*◌, leb, eqb, Result, Ok, Err}
use Rattle.lists.specs.Choice.{choose}
use Rattle.lists.specs.Lists.{every}
use Rattle.refusal.specs.Answer.{Answer, accepted, refused, number_of}
use Rattle.refusal.specs.declared.Refusal.{Refusal}

-- the number and the values of a reader's answer
abbrev pub of_number : Result ℕ Refusal → Answer
of_number (Ok n) = accepted (n ∷ [])
of_number (Err r) = refused (number_of r)

-- one of the bytes 0 to 9
abbrev pub is_digit : ℕ → Bool
is_digit x = leb 48 x && leb x 57

-- the number that the digits s write after those of n
abbrev pub value_from : ℕ → List ℕ → ℕ
value_from n [] = n
value_from n (x ∷ s) = value_from (n * 10 + (x - 48)) s

unfoldable pub value : List ℕ → ℕ
value s = value_from 0 s

-- "most significant digit first with no leading zero .. zero is the one digit 0"
unfoldable pub well_written : List ℕ → Bool
well_written [] = false
well_written (x ∷ []) = is_digit x
well_written (x ∷ y ∷ s) = not (eqb x 48) && every is_digit (x ∷ y ∷ s)

-- "2. A number badly written or out of range.": the range is from lo to hi, and is empty where lo
-- is greater
unfoldable pub read_number : ℕ → ℕ → List ℕ → Answer
read_number lo hi s = choose (well_written s && (leb lo (value s) && leb (value s) hi)) (accepted (value s ∷ [])) (refused 2)
