-- A loop that replaces each of the n elements of l by what f says of its place and of it, one a
-- turn. Assumes nothing.
use mathlib.Core.Path.{◌≡◌, refl, sym, ap, ap₂, ◌∙◌}
use mathlib.Core.List.{List, [], ◌∷◌, ◌++◌}
use Prim.Native.Nat.{ℕ, zero, suc, ◌+◌, ◌<◌, ◌≤◌}
use native.Mathlib.Nat.{not-suc-le-zero, le_of_suc-le-suc, add-zero, zero-add, add-suc, suc-add}
use native.Mathlib.Numerals.{add-one}
use native.Mathlib.Omega.{arith}
use lib.ListN.{length, take, drop, set, get_or}
use Rattle.lists.specs.Lists.{map_from}

module _ {A : Type 0} (f : ℕ → A → A) where
  -- the first i replaced, the first place being k
  abbrev pub replaced : ℕ → ℕ → List A → List A
  replaced k i l = take i (map_from k f l) ++ drop i l

  store : (l : List A) (k i : ℕ) (d : A) → i < length l → set (replaced k i l) i (f (k + i) (get_or l i d)) ≡ replaced k (suc i) l
  store [] k i d h = absurd (not-suc-le-zero h)
  store (x ∷ l) k zero d h = ap (λ (n : ℕ). f n x ∷ l) (add-zero k)
  store (x ∷ l) k (suc i) d h =
      ap (λ (t : List A). f k x ∷ t)
      (ap (λ (n : ℕ). set (replaced (suc k) i l) i (f n (get_or l i d))) (add-suc k i ∙ sym (suc-add k i)) ∙ store l (suc k) i d (le_of_suc-le-suc h))

  full : (l : List A) (k i : ℕ) → length l ≤ i → replaced k i l ≡ map_from k f l
  full [] k zero h = refl
  full [] k (suc i) h = refl
  full (x ∷ l) k zero h = absurd (not-suc-le-zero h)
  full (x ∷ l) k (suc i) h = ap (λ (t : List A). f k x ∷ t) (full l (suc k) i (le_of_suc-le-suc h))

  still : (l : List A) (k i : ℕ) (d : A) → i < length l → get_or (replaced k i l) i d ≡ get_or l i d
  still [] k i d h = absurd (not-suc-le-zero h)
  still (x ∷ l) k zero d h = refl
  still (x ∷ l) k (suc i) d h = still l (suc k) i d (le_of_suc-le-suc h)

  rest : (l : List A) (k i : ℕ) (d : A) → ((j : ℕ) → i ≤ j → j < length l → f (k + j) (get_or l j d) ≡ get_or l j d) → replaced k i l ≡ map_from k f l
  rest [] k zero d h = refl
  rest [] k (suc i) d h = refl
  rest (x ∷ l) k zero d h =
      ap₂ (λ (y : A) (t : List A). y ∷ t) (sym (h 0 (omega arith) (omega arith)) ∙ ap (λ (n : ℕ). f n x) (add-zero k))
      (rest l (suc k) zero d (λ j a b. ap (λ (n : ℕ). f n (get_or l j d)) (suc-add k j ∙ sym (add-suc k j)) ∙ h (suc j) (omega arith) (omega arith)))
  rest (x ∷ l) k (suc i) d h =
      ap (λ (t : List A). f k x ∷ t)
      (rest l (suc k) i d (λ j a b. ap (λ (n : ℕ). f n (get_or l j d)) (suc-add k j ∙ sym (add-suc k j)) ∙ h (suc j) (omega arith) (omega arith)))

-- m is l with its first i elements replaced
pub record Mapped {A : Type 0} (f : ℕ → A → A) (l : List A) (n i : ℕ) (m : List A) : Type 0 where
  pub long : length l ≡ n
  pub so_far : m ≡ replaced f 0 i l

module _ {A : Type 0} {f : ℕ → A → A} where
  pub begin : {l : List A} {n : ℕ} → length l ≡ n → Mapped f l n 0 l
  begin e = record { long = e; so_far = refl }

  pub turn : {l m : List A} {n i : ℕ} {x : A} (d : A) → Mapped f l n i m → i < n → x ≡ f i (get_or l i d) → Mapped f l n (i + 1) (set m i x)
  turn {l} {m} {n} {i} {x} d v h q =
      record {
        long = v.long;
        so_far =
            rw (q, v.so_far, add-one)
            (ap (λ (k : ℕ). set (replaced f 0 i l) i (f k (get_or l i d))) (sym (zero-add i)) ∙ store f l 0 i d (rw v.long h));
      }

  pub end : {l m : List A} {n i : ℕ} → Mapped f l n i m → n ≤ i → m ≡ map_from 0 f l
  end {l} {m} {n} {i} v h = v.so_far ∙ full f l 0 i (rw v.long h)

  -- what is not replaced yet is as it was
  pub ahead : {l m : List A} {n i : ℕ} (d : A) → Mapped f l n i m → i < n → get_or m i d ≡ get_or l i d
  ahead {l} {m} {n} {i} d v h = ap (λ (x : List A). get_or x i d) v.so_far ∙ still f l 0 i d (rw v.long h)

  -- the loop may end early where f changes none of the rest
  pub end-early : {l m : List A} {n i : ℕ} (d : A) → Mapped f l n i m → ((k : ℕ) → i ≤ k → k < n → f k (get_or l k d) ≡ get_or l k d) → m ≡ map_from 0 f l
  end-early {l} {m} {n} {i} d v h = v.so_far ∙ rest f l 0 i d (λ k a b. ap (λ (x : ℕ). f x (get_or l k d)) (zero-add k) ∙ h k a (rw v.long at b))
