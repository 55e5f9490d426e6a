-- Writing and reading undo each other. The contract of `write_number` has both laws (`Trips`,
-- below); the proof is `trips` of proofs/Trips.antt.
use Rattle.std.specs.Prelude.{List, [], ◌∷◌, ◌≡◌, ℕ, ◌≤◌}
use Rattle.refusal.specs.Answer.{accepted}
use Rattle.text.specs.Digits.{digits}
use Rattle.text.specs.Number.{read_number}

-- Every number, however large, reads back from its digits, with any bounds that allow it.
abbrev pub NumberReadsBack : Type 0
NumberReadsBack = (lo hi n : ℕ) → lo ≤ n → n ≤ hi → read_number lo hi (digits n) ≡ accepted (n ∷ [])

-- What is accepted as a number is what that number is written as, byte for byte.
abbrev pub NumberWritesBack : Type 0
NumberWritesBack = (lo hi n : ℕ) (s : List ℕ) → read_number lo hi s ≡ accepted (n ∷ []) → digits n ≡ s

-- both trips of a number
pub record Trips : Type 0 where
  pub read : NumberReadsBack
  pub written : NumberWritesBack
