-- What private functions answer. Nothing is promised here.
use Rattle.std.specs.Prelude.{◌≡◌, ℕ, ◌-◌, ◌≤◌, ◌<◌, Result, Ok, Option, Some, None}
use Rattle.refusal.specs.declared.Refusal.{Refusal}

-- bytes that fit into what is left
pub record Spends (p : Result ℕ Refusal) (left : ℕ) (r : Option ℕ) : Type 0 where
  pub so : (n : ℕ) → p ≡ Ok n → n ≤ left → r ≡ Some (left - n)
  pub not : (n : ℕ) → p ≡ Ok n → left < n → r ≡ None
