-- `same` says that two lists are equal. Assumes nothing.
use mathlib.Core.Bool.{true}
use mathlib.Core.Path.{◌≡◌, refl, ap₂}
use mathlib.Core.List.{List, [], ◌∷◌}
use Prim.Native.Nat.{ℕ}
use borrow.Author.Tests.{eq-eqb, eqb-true}
use lib.Dec.{eqb}
use Rattle.lists.specs.Lists.{same}
use Rattle.lists.proofs.Cases.{clash, fst_true, snd_true}

pub same_refl : (s : List ℕ) → same s s ≡ true
unfolding same
same_refl [] = refl
same_refl (x ∷ s) = rw (eq-eqb x x refl) (same_refl s)

pub same-equal : (s w : List ℕ) → same s w ≡ true → s ≡ w
unfolding same
same-equal [] [] e = refl
same-equal [] (y ∷ w) e = absurd (clash e refl)
same-equal (x ∷ s) [] e = absurd (clash e refl)
same-equal (x ∷ s) (y ∷ w) e =
    ap₂ (λ (a : ℕ) (l : List ℕ). a ∷ l) (eqb-true x y (fst_true (eqb x y) (same s w) e)) (same-equal s w (snd_true (eqb x y) (same s w) e))
