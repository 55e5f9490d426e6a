-- An array filled by what a function says of each place. Assumes nothing.
use mathlib.Core.Path.{◌≡◌, sym, subst}
use mathlib.Core.List.{List}
use mathlib.Core.Logic.{⊎_elim}
use Prim.Native.Nat.{ℕ, zero, suc, ◌+◌, ◌≤◌, ◌<◌}
use native.Mathlib.Omega.{arith}
use lib.ListN.{get_or}
use denote.Param.Members.{Mut, Called}
use Rattle.std.specs.Array.{IsFromFnResultFrom}
use Rattle.lists.proofs.Cases.{equal}

-- what holds of each answer holds of each element, where a call leaves the function as it was
module _ {F B : Type 0} (g : Mut F (ℕ × Unit {0}) B) (f : F) (P : ℕ → B → Type 0) where
  pub filled_from :
      ((i : ℕ) (y : B) (q : F) → Called g f (i, tt) y q → (q ≡ f) × P i y) →
      (l : List B) (i n : ℕ) (h : F) → h ≡ f → IsFromFnResultFrom g h l i n → (k : ℕ) (d : B) → i ≤ k → k < i + n → P k (get_or l k d)
  filled_from one l i zero h e r k d a b = absurd (omega arith)
  filled_from one l i (suc n) h e r k d a b =
      let o = one i r.1 r.0 (subst (λ (x : F). Called g x (i, tt) r.1 r.0) e r.3) in
      ⊎_elim
      (λ q. rw q (subst (λ (y : B). P i y) (sym (r.2.1 d)) o.1))
      (λ q. filled_from one l (i + 1) n r.0 o.0 r.4 k d (after q) (omega arith))
      (equal k i)
    where
      after : (k ≡ i → ⊥) → i + 1 ≤ k
      after q = omega arith
