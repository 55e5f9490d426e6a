-- Whether some number below n passes the test p. Assumes nothing.
use mathlib.Core.Path.{◌≡◌, refl, subst}
use mathlib.Core.Logic.{⊎_elim}
use mathlib.Core.Bool.{Bool, true, false, ◌||◌}
use Prim.Native.Nat.{ℕ, zero, suc, ◌<◌}
use native.Mathlib.Nat.{not-suc-le-zero, le_of_suc-le-suc, eq-or-lt_of_le}
use Rattle.lists.specs.Lists.{any_below}
use Rattle.lists.proofs.Cases.{clash, refuted}

or_right : (a b : Bool) → b ≡ true → (a || b) ≡ true
or_right true b e = refl
or_right false b e = e

or_left : (a b : Bool) → a ≡ true → (a || b) ≡ true
or_left a b e = rw e

or_none : (a b : Bool) → a ≡ false → b ≡ false → (a || b) ≡ false
or_none a b e h = rw e h

found : (p : ℕ → Bool) (n i : ℕ) → i < n → p i ≡ true → any_below n p ≡ true
unfolding any_below
found p zero i h e = absurd (not-suc-le-zero h)
found p (suc n) i h e =
    ⊎_elim
    (λ q. or_right (any_below n p) (p n) (subst (λ (k : ℕ). p k ≡ true) q e))
    (λ l. or_left (any_below n p) (p n) (found p n i l e))
    (eq-or-lt_of_le (le_of_suc-le-suc h))

-- where none passes, no number below the limit does
pub none_below : (p : ℕ → Bool) (n i : ℕ) → any_below n p ≡ false → i < n → p i ≡ false
none_below p n i e h = refuted (p i) (λ q. clash (found p n i h q) e)
