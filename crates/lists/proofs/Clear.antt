-- Lists without c, joined by c: where the first c stands, and what the parts are. Assumes nothing.
use mathlib.Core.Bool.{Bool, true, not}
use mathlib.Core.Path.{◌≡◌, refl, ap, ◌∙◌}
use mathlib.Core.List.Memᴰ
use mathlib.Core.List.{List, [], ◌∷◌, ◌++◌, Memᴰ}
use Prim.Native.Nat.{ℕ, zero, suc, ◌<◌}
use native.Mathlib.Omega.{arith}
use borrow.Author.Tests.{eqb-false, not-true}
use lib.Dec.{eqb}
use lib.ListN.{length, get_or}
use Rattle.lists.specs.Lists.{every, on_first, split_on, up_to}
use Rattle.lists.proofs.Cases.{on, and_true, fst_true, snd_true}
use Rattle.lists.proofs.Parts.{here, later, split-here, split-later}

-- what passes in each of two lists passes in both joined
pub every_append : {A : Type 0} (p : A → Bool) (a b : List A) → every p a ≡ true → every p b ≡ true → every p (a ++ b) ≡ true
every_append p [] b e f = f
every_append p (x ∷ a) b e f = and_true (fst_true (p x) (every p a) e) (every_append p a b (snd_true (p x) (every p a) e) f)

pub every_front : {A : Type 0} (p : A → Bool) (a b : List A) → every p (a ++ b) ≡ true → every p a ≡ true
every_front p [] b e = refl
every_front p (x ∷ a) b e = and_true (fst_true (p x) (every p (a ++ b)) e) (every_front p a b (snd_true (p x) (every p (a ++ b)) e))

pub every_back : {A : Type 0} (p : A → Bool) (a b : List A) → every p (a ++ b) ≡ true → every p b ≡ true
every_back p [] b e = e
every_back p (x ∷ a) b e = every_back p a b (snd_true (p x) (every p (a ++ b)) e)

-- a test that passes less often
pub every_weaker : {A : Type 0} (p q : A → Bool) → ((x : A) → p x ≡ true → q x ≡ true) → (a : List A) → every p a ≡ true → every q a ≡ true
every_weaker p q h [] e = refl
every_weaker p q h (x ∷ a) e = and_true (h x (fst_true (p x) (every p a) e)) (every_weaker p q h a (snd_true (p x) (every p a) e))

-- what every element passes, the one at place i passes
pub every-at : {A : Type 0} (p : A → Bool) (l : List A) (i : ℕ) (d : A) → every p l ≡ true → i < length l → p (get_or l i d) ≡ true
every-at p [] i d e h = absurd (omega arith)
every-at p (x ∷ l) zero d e h = fst_true (p x) (every p l) e
every-at p (x ∷ l) (suc i) d e h = every-at p l i d (snd_true (p x) (every p l) e) (omega arith)

-- what every element passes, each does
pub every_mem : {A : Type 0} (p : A → Bool) (l : List A) {x : A} → every p l ≡ true → Memᴰ x l → p x ≡ true
every_mem p [] e m = absurd (Memᴰ.not-nil m)
every_mem p (y ∷ l) e m = on (Memᴰ.cases_cons m) (λ q. rw q (fst_true (p y) (every p l) e)) (λ q. every_mem p l (snd_true (p y) (every p l) e) q)

-- a test that each element passes
pub every_of : {A : Type 0} (p : A → Bool) (l : List A) → ((x : A) → Memᴰ x l → p x ≡ true) → every p l ≡ true
every_of p [] f = refl
every_of p (x ∷ l) f = and_true (f x (Memᴰ.head refl)) (every_of p l (λ y m. f y (Memᴰ.tail m)))

-- no element is c
pub record Clear (c : ℕ) (s : List ℕ) : Type 0 where
  pub none : every (λ x. not (eqb x c)) s ≡ true

pub clear_append : {c : ℕ} {a b : List ℕ} → Clear c a → Clear c b → Clear c (a ++ b)
clear_append {c} {a} {b} p q = record { none = every_append (λ x. not (eqb x c)) a b p.none q.none }

module _ {c : ℕ} where
  other-first : (x : ℕ) (a : List ℕ) → Clear c (x ∷ a) → x ≡ c → ⊥
  other-first x a p = eqb-false x c (not-true (eqb x c) (fst_true (not (eqb x c)) (every (λ y. not (eqb y c)) a) p.none))

  clear_rest : (x : ℕ) (a : List ℕ) → Clear c (x ∷ a) → Clear c a
  clear_rest x a p = record { none = snd_true (not (eqb x c)) (every (λ y. not (eqb y c)) a) p.none }

  pub up_to_clear : (a b : List ℕ) → Clear c a → up_to c (a ++ (c ∷ b)) ≡ length a
  up_to_clear [] b p = here c c b refl
  up_to_clear (x ∷ a) b p = later c x (a ++ (c ∷ b)) (other-first x a p) ∙ ap suc (up_to_clear a b (clear_rest x a p))

  pub split_clear : (a b : List ℕ) → Clear c a → split_on c (a ++ (c ∷ b)) ≡ a ∷ split_on c b
  split_clear [] b p = split-here c c b refl
  split_clear (x ∷ a) b p = split-later c x (a ++ (c ∷ b)) (other-first x a p) ∙ ap (on_first x) (split_clear a b (clear_rest x a p))

  pub split-whole : (a : List ℕ) → Clear c a → split_on c a ≡ a ∷ []
  unfolding split_on
  split-whole [] p = refl
  split-whole (x ∷ a) p = split-later c x a (other-first x a p) ∙ ap (on_first x) (split-whole a (clear_rest x a p))
