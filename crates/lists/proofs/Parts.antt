-- Laws of `up_to` and `split_on`: what code that looks for the next c goes by. Assumes nothing.
use mathlib.Core.Bool.{Bool, true, false}
use mathlib.Core.Path.{◌≡◌, refl, sym, ap, ◌∙◌}
use mathlib.Core.List.{List, [], ◌∷◌}
use mathlib.Core.Logic.{⊎_elim}
use Prim.Native.Nat.{ℕ, zero, suc, ◌≤◌, ◌<◌, ◌+◌, ◌-◌}
use native.Mathlib.Omega.{arith}
use native.Mathlib.Numerals.{add-one}
use borrow.Author.Tests.{eq-eqb, ne_eqb}
use lib.Dec.{eqb}
use lib.ListN.{length, take, drop, get_or, drop_of_length-le, length-drop}
use lib.Seq.{drop-cons, take_all}
use Rattle.lists.specs.Lists.{on_first, split_on, up_to}
use Rattle.lists.proofs.Cases.{equal, less, chosen, other}

module _ (c : ℕ) where
  pub here : (x : ℕ) (s : List ℕ) → x ≡ c → up_to c (x ∷ s) ≡ 0
  unfolding up_to
  here x s e = chosen _ (eq-eqb x c e)

  pub later : (x : ℕ) (s : List ℕ) → (x ≡ c → ⊥) → up_to c (x ∷ s) ≡ suc (up_to c s)
  unfolding up_to
  later x s e = other _ (ne_eqb x c e)

  pub split-here : (x : ℕ) (s : List ℕ) → x ≡ c → split_on c (x ∷ s) ≡ [] ∷ split_on c s
  unfolding split_on
  split-here x s e = rw (eq-eqb x c e, split_on)

  pub split-later : (x : ℕ) (s : List ℕ) → (x ≡ c → ⊥) → split_on c (x ∷ s) ≡ on_first x (split_on c s)
  unfolding split_on
  split-later x s e = rw (ne_eqb x c e, split_on)

  pub up_to_le : (s : List ℕ) → up_to c s ≤ length s
  unfolding up_to
  up_to_le [] = omega arith
  up_to_le (x ∷ s) = ⊎_elim (λ e. omega (arith, here x s e)) (λ e. omega (arith, later x s e, up_to_le s)) (equal x c)

  -- no c: one part
  pub split-last : (s : List ℕ) → length s ≤ up_to c s → split_on c s ≡ s ∷ []
  unfolding split_on
  split-last [] h = refl
  split-last (x ∷ s) h =
      ⊎_elim
      (λ e. absurd (omega (arith, here x s e)))
      (λ e. split-later x s e ∙ ap (on_first x) (split-last s (omega (arith, later x s e))))
      (equal x c)

  -- the first of several parts
  pub split-more : (s : List ℕ) → up_to c s < length s → split_on c s ≡ take (up_to c s) s ∷ split_on c (drop (suc (up_to c s)) s)
  split-more [] h = absurd (omega arith)
  split-more (x ∷ s) h =
      ⊎_elim
      (λ e. rw (here x s e) (split-here x s e))
      (λ e. rw (later x s e) (split-later x s e ∙ ap (on_first x) (split-more s (omega (arith, later x s e)))))
      (equal x c)

  split-none : (k : ℕ) → get_or (split_on c []) k [] ≡ []
  unfolding split_on
  split-none zero = refl
  split-none (suc k) = refl

  -- part 0, and part k + 1 as part k of the rest
  pub first_part : (s : List ℕ) → take (up_to c s) s ≡ get_or (split_on c s) 0 []
  first_part s =
      ⊎_elim
      (λ h. sym (ap (λ (l : List (List ℕ)). get_or l 0 []) (split-more s h)))
      (λ h. take_all (up_to c s) s h ∙ sym (ap (λ (l : List (List ℕ)). get_or l 0 []) (split-last s h)))
      (less (up_to c s) (length s))

  pub next-part : (s : List ℕ) (k : ℕ) → get_or (split_on c (drop (suc (up_to c s)) s)) k [] ≡ get_or (split_on c s) (suc k) []
  next-part s k =
      ⊎_elim
      (λ h. sym (ap (λ (l : List (List ℕ)). get_or l (suc k) []) (split-more s h)))
      (λ h.
      let h' : length s ≤ suc (up_to c s) = omega arith in
      ap (λ (l : List ℕ). get_or (split_on c l) k []) (drop_of_length-le s h')
      ∙ split-none k
      ∙ sym (ap (λ (l : List (List ℕ)). get_or l (suc k) []) (split-last s h)))
      (less (up_to c s) (length s))

  -- where there is no c, nothing comes after it
  pub none_after : (s : List ℕ) → length s ≤ up_to c s → drop (up_to c s) s ≡ drop (suc (up_to c s)) s
  none_after s h = let k : length s ≤ suc (up_to c s) = omega arith in drop_of_length-le s h ∙ sym (drop_of_length-le s k)

  on_first_length : (x : ℕ) (l : List (List ℕ)) → 1 ≤ length l → length (on_first x l) ≡ length l
  on_first_length x [] h = absurd (omega arith)
  on_first_length x (y ∷ l) h = refl

  on_first_some : (x : ℕ) (l : List (List ℕ)) → 1 ≤ length (on_first x l)
  on_first_some x [] = omega arith
  on_first_some x (y ∷ l) = omega arith

  some-part : (t : Bool) (x : ℕ) (l : List (List ℕ)) → 1 ≤ length {A = List ℕ} (elim t [ true ↦ [] ∷ l | false ↦ on_first x l ])
  some-part true x l = omega arith
  some-part false x l = on_first_some x l

  pub split-some : (s : List ℕ) → 1 ≤ length (split_on c s)
  unfolding split_on
  split-some [] = omega arith
  split-some (x ∷ s) = some-part (eqb x c) x (split_on c s)

  -- how many parts there are, an element at a time
  pub count-end : (s : List ℕ) (i : ℕ) → length s ≤ i → length (split_on c (drop i s)) ≡ 1
  unfolding split_on
  count-end s i h = ap (λ (l : List ℕ). length (split_on c l)) (drop_of_length-le s h)

  pub count-here : (s : List ℕ) (i : ℕ) → i < length s → get_or s i 0 ≡ c → length (split_on c (drop i s)) ≡ length (split_on c (drop (i + 1) s)) + 1
  count-here s i h e =
      rw (add-one, add-one) (ap (λ (l : List ℕ). length (split_on c l)) (drop-cons s i 0 h) ∙ ap length (split-here (get_or s i 0) (drop (suc i) s) e))

  pub count-later : (s : List ℕ) (i : ℕ) → i < length s → (get_or s i 0 ≡ c → ⊥) → length (split_on c (drop i s)) ≡ length (split_on c (drop (i + 1) s))
  count-later s i h e =
      rw add-one
      (ap (λ (l : List ℕ). length (split_on c l)) (drop-cons s i 0 h)
      ∙ ap length (split-later (get_or s i 0) (drop (suc i) s) e)
      ∙ on_first_length (get_or s i 0) (split_on c (drop (suc i) s)) (split-some (drop (suc i) s)))

-- a part of a slice that goes to its end
pub part-rest : (s : List ℕ) (n : ℕ) → take (length s - n) (drop n s) ≡ drop n s
part-rest s n = take_all (length s - n) (drop n s) (omega (arith, length-drop n s))
