-- What private functions answer, here and in the crates above. Nothing is promised here.
use Rattle.std.specs.Prelude.{◌≡◌, Bool, true, false, ◌&&◌, List, [], ◌∷◌, ℕ, ◌+◌, ◌-◌, ◌*◌, ◌≤◌, leb, eqb, length, Result}
use Rattle.lists.specs.Choice.{choose}
use Rattle.lists.specs.Lists.{every}
use Rattle.lists.specs.Splice.{splice}
use Rattle.refusal.specs.Answer.{Answer, accepted, refused}
use Rattle.text.specs.Number.{is_digit, value_from}
use Rattle.text.specs.Write.{of_written, writing}
use Rattle.refusal.specs.declared.Refusal.{Refusal}

-- no byte at all, or a 0 before another byte
unfoldable pub bad_start : List ℕ → Bool
bad_start [] = true
bad_start (x ∷ []) = false
bad_start (x ∷ y ∷ s) = eqb x 48

-- the digits s after those of n, where their number is at most hi
unfoldable pub read_from : ℕ → ℕ → List ℕ → Answer
read_from hi n s = choose (every is_digit s && leb (value_from n s) hi) (accepted (value_from n s ∷ [])) (refused 2)

-- one digit more
unfoldable pub read_digit : ℕ → ℕ → ℕ → Answer
read_digit hi n x = choose (is_digit x && leb (n * 10 + (x - 48)) hi) (accepted ((n * 10 + (x - 48)) ∷ [])) (refused 2)

-- a number that is not below the least
unfoldable pub at_least : ℕ → ℕ → Answer
at_least lo n = choose (leb lo n) (accepted (n ∷ [])) (refused 2)

-- what a writer that writes w in pieces leaves: the answer of w, and where all of w fits, w at its
-- place and nothing else changed. Where it does not fit some pieces may stand there, so who calls
-- it has seen before that it fits
pub record Pieces (d : List ℕ) (at : ℕ) (w : List ℕ) (r : Result ℕ Refusal) (d' : List ℕ) : Type 0 where
  pub answer : of_written r ≡ writing d at w
  pub slice : at + length w ≤ length d → d' ≡ splice d at w
  pub kept : length d' ≡ length d
