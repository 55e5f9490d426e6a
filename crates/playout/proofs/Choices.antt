-- Choices seen through a function, and by a number. Assumes nothing.
use mathlib.Core.Bool.{Bool, true, false}
use mathlib.Core.Path.{◌≡◌, refl, sym, ◌∙◌}
use Prim.Native.Nat.{ℕ}
use borrow.Author.Tests.{eq-eqb, ne_eqb}
use lib.Dec.{eqb}
use Rattle.lists.specs.Choice.{choose}
use Rattle.lists.proofs.Cases.{on, equal, chosen, other}

pub through : {A B : Type 0} (f : A → B) (t : Bool) (a b : A) → f (choose t a b) ≡ choose t (f a) (f b)
unfolding choose
through f true a b = refl
through f false a b = refl

-- what is accepted, and what is refused
pub by_number : {A : Type 0} (n : ℕ) {x a b : A} → (n ≡ 0 → x ≡ a) → ((n ≡ 0 → ⊥) → x ≡ b) → x ≡ choose (eqb n 0) a b
by_number n f g = on (equal n 0) (λ e. f e ∙ sym (chosen _ (eq-eqb n 0 e))) (λ e. g e ∙ sym (other _ (ne_eqb n 0 e)))
