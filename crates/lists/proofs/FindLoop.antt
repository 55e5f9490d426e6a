-- A loop that looks for the first of the n elements of l that passes the test p. Assumes nothing.
--     begin: no turn made; miss: element i does not pass; hit: it does; none: the loop is over
use mathlib.Core.Path.{◌≡◌, ap}
use mathlib.Core.Bool.{Bool, true, false}
use mathlib.Core.List.{List, [], ◌∷◌}
use Prim.Native.Nat.{ℕ, zero, suc, ◌+◌, ◌<◌, ◌≤◌}
use native.Mathlib.Nat.{not-suc-le-zero, le_of_suc-le-suc}
use native.Mathlib.Numerals.{add-one}
use native.Mathlib.Omega.{arith}
use lib.ListN.{length, drop, get_or, drop_of_length-le}
use Rattle.lists.specs.Lists.{index_where}
use Rattle.lists.proofs.Cases.{chosen, other}

module _ {A : Type 0} (p : A → Bool) where
  here : (l : List A) (i : ℕ) (d : A) → i < length l → p (get_or l i d) ≡ true → index_where p (drop i l) ≡ 0
  here [] i d h e = absurd (not-suc-le-zero h)
  here (x ∷ l) zero d h e = chosen _ e
  here (x ∷ l) (suc i) d h e = here l i d (le_of_suc-le-suc h) e

  past : (l : List A) (i : ℕ) (d : A) → i < length l → p (get_or l i d) ≡ false → index_where p (drop i l) ≡ suc (index_where p (drop (suc i) l))
  past [] i d h e = absurd (not-suc-le-zero h)
  past (x ∷ l) zero d h e = other _ e
  past (x ∷ l) (suc i) d h e = past l i d (le_of_suc-le-suc h) e

-- none of the first i passes
pub record Missed {A : Type 0} (p : A → Bool) (l : List A) (n i : ℕ) : Type 0 where
  pub long : length l ≡ n
  pub so_far : index_where p l ≡ i + index_where p (drop i l)

module _ {A : Type 0} {p : A → Bool} where
  pub begin : {l : List A} {n : ℕ} → length l ≡ n → Missed p l n 0
  begin {l} e = record { long = e; so_far = omega arith }

  pub miss : {l : List A} {n i : ℕ} (d : A) → Missed p l n i → i < n → p (get_or l i d) ≡ false → Missed p l n (i + 1)
  miss {l} {n} {i} d v h e =
      record { long = v.long; so_far = rw add-one (omega (arith, v.so_far, past p l i d (rw v.long h) e)) }

  pub hit : {l : List A} {n i : ℕ} (d : A) → Missed p l n i → i < n → p (get_or l i d) ≡ true → i ≡ index_where p l
  hit {l} {n} {i} d v h e = omega (arith, v.so_far, here p l i d (rw v.long h) e)

  pub none : {l : List A} {n i : ℕ} → Missed p l n i → n ≤ i → i ≡ index_where p l
  none {l} {n} {i} v h =
      let k : length l ≤ i = rw v.long h in
      omega (arith, v.so_far, ap (index_where p) (drop_of_length-le l k))
