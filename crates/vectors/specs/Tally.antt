-- How many agree, of days or of pairs.
use Rattle.std.specs.Prelude.{ℕ, ◌+◌, ◌≤◌, true, false, Ok, Err}
use Rattle.vectors.specs.Found.{Found}
use Rattle.vectors.specs.declared.Tally.{Tally}

-- 1 for one that agrees
abbrev pub agreeing : Found → ℕ
agreeing (Ok _) = 1
agreeing (Err _) = 0

abbrev pub beginning : ℕ → Tally
beginning at = record { at = at; agree = 0; repeated = 0; good = true }

-- one more, of which f is found; 1 where it has a repeated part, else 0
abbrev pub counted : Tally → Found → ℕ → ℕ → Tally
counted t f end repeats = record { at = end; agree = t.agree + agreeing f; repeated = t.repeated + repeats; good = true }

-- the next is not well written
abbrev pub stopped : Tally → Tally
stopped t = record { at = t.at; agree = t.agree; repeated = t.repeated; good = false }

-- after k of them, in a file of n bytes
pub record Counted (n k : ℕ) (t : Tally) : Type 0 where
  pub read : t.at ≤ n
  pub agree : t.agree ≤ k
  pub repeated : t.repeated ≤ k
