-- Cases on a test and on two numbers, and a choice whose test is known. Assumes nothing.
use mathlib.Core.Path.{◌≡◌, refl, sym, ◌∙◌}
use mathlib.Core.Bool.{Bool, true, false, not, ◌&&◌, ◌||◌}
use mathlib.Core.List.{List, map}
use mathlib.Core.Logic.{◌⊎◌, inl, inr}
use Prim.Native.Nat.{ℕ, ◌<◌, ◌≤◌}
use native.Mathlib.Omega.{arith}
use borrow.Author.Tests.{ltb-true, ltb-false, eqb-true, eqb-false, lt-ltb, le-ltb, le-leb, lt-leb, eq-eqb, ne_eqb}
use lib.Dec.{ltb, eqb}
use lib.ListN.{length, length-map}
use Rattle.lists.specs.Choice.{choose}

-- a test holds or fails
pub tested : (t : Bool) → (t ≡ true) ⊎ (t ≡ false)
tested true = inl refl
tested false = inr refl

-- by cases: what is known comes first, so that the cases' hypotheses have their types
pub on : {A B C : Type 0} → A ⊎ B → (A → C) → (B → C) → C
on (inl a) f g = f a
on (inr b) f g = g b

-- a test that both holds and fails
pub clash : {t : Bool} → t ≡ true → t ≡ false → ⊥
clash p q = let z : ◌≡◌ {A = ℕ} 0 1 = cc in omega arith

-- a test that does not hold fails
pub refuted : (t : Bool) → ¬ (t ≡ true) → t ≡ false
refuted true h = absurd (h refl)
refuted false h = refl

-- a test turned round
pub not_so : (t : Bool) → not t ≡ true → t ≡ false
not_so true e = sym e
not_so false e = refl

pub not_some : (t : Bool) → not t ≡ false → t ≡ true
not_some true e = refl
not_some false e = sym e

-- a is below b, or not
pub less : (a b : ℕ) → (a < b) ⊎ (b ≤ a)
less a b = on (tested (ltb a b)) (λ e. inl (ltb-true a b e)) (λ e. inr (ltb-false a b e))

-- a is b, or not
pub equal : (a b : ℕ) → (a ≡ b) ⊎ (a ≡ b → ⊥)
equal a b = on (tested (eqb a b)) (λ e. inl (eqb-true a b e)) (λ e. inr (eqb-false a b e))

-- tests of numbers whose answer is known, for simp
pub ruleset tests = (lt-ltb, le-ltb, le-leb, lt-leb, eq-eqb, ne_eqb)

pub chosen : {A : Type 0} {t : Bool} {a : A} (b : A) → t ≡ true → choose t a b ≡ a
unfolding choose
chosen {A} {t} {a} b e = rw (e, choose)

pub other : {A : Type 0} {t : Bool} {b : A} (a : A) → t ≡ false → choose t a b ≡ b
unfolding choose
other {A} {t} {b} a e = rw (e, choose)

-- what holds of each side where it is chosen holds of the choice
pub by_choice : {A : Type 0} (P : A → Type 0) (t : Bool) {a b : A} → (t ≡ true → P a) → (t ≡ false → P b) → P (choose t a b)
unfolding choose
by_choice P true f g = f refl
by_choice P false f g = g refl

-- what holds of a choice and not of its first side holds of the second, and the test fails
pub not_first : {A : Type 0} (P : A → Type 0) (t : Bool) {a b : A} → P (choose t a b) → ¬ P a → (t ≡ false) × P b
unfolding choose
not_first P true e h = absurd (h e)
not_first P false e h = (refl, e)

-- a choice between the same
pub same_choice : {A : Type 0} (t : Bool) (a : A) → choose t a a ≡ a
unfolding choose
same_choice true a = refl
same_choice false a = refl

-- a test as a number: at most 1, and it tells the test
pub bit-small : (t : Bool) → choose t 1 0 ≤ 1
unfolding choose
bit-small true = omega arith
bit-small false = omega arith

pub bit-back : (t : Bool) → eqb (choose t 1 0) 1 ≡ t
unfolding choose
bit-back true = refl
bit-back false = refl

-- both tests hold, or one of them fails
pub and_true : {a b : Bool} → a ≡ true → b ≡ true → (a && b) ≡ true
and_true {a} {b} e h = rw e h

pub and_left : {a : Bool} (b : Bool) → a ≡ false → (a && b) ≡ false
and_left {a} b e = rw e

pub and_right : (a : Bool) {b : Bool} → b ≡ false → (a && b) ≡ false
and_right true e = e
and_right false e = refl

-- what a conjunction that holds says of each side
pub fst_true : (a b : Bool) → (a && b) ≡ true → a ≡ true
fst_true true b e = refl
fst_true false b e = e

pub snd_true : (a b : Bool) → (a && b) ≡ true → b ≡ true
snd_true true b e = e
snd_true false b e = absurd (clash e refl)

-- one of two tests holds, or both fail
pub or-true : (a b : Bool) → (a || b) ≡ true → (a ≡ true) ⊎ (b ≡ true)
or-true true b e = inl refl
or-true false b e = inr e

pub or_false : (a b : Bool) → (a || b) ≡ false → (a ≡ false) × (b ≡ false)
or_false true b e = absurd (clash refl e)
or_false false b e = (refl, e)

-- for `search (needs, length_mapped)`: the length of a field that is an array of structs
pub length_mapped : {X Y : Type 0} (f : X → Y) (l : List X) (n : ℕ) → length (map f l) ≡ n → length l ≡ n
length_mapped f l n e = sym (length-map l f) ∙ e
