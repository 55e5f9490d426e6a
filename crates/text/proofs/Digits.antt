-- Laws of `digits`: its two cases, and how many there are; and of one digit. Assumes nothing.
use mathlib.Core.Bool.{true}
use mathlib.Core.Path.{◌≡◌, refl, sym, ap, ◌∙◌}
use mathlib.Core.List.{List, [], ◌∷◌, ◌++◌}
use mathlib.Core.Logic.{⊎_elim}
use Prim.Native.Nat.{ℕ, zero, suc, ◌+◌, ◌*◌, ◌/◌, ◌^◌, ◌≤◌, ◌<◌}
use native.Mathlib.Omega.{arith}
use native.Mathlib.Nat.{pow-suc}
use borrow.Author.Tests.{lt-ltb, le-ltb, le-leb, leb-true}
use lib.Dec.{leb}
use lib.ListN.{length, length-append}
use Rattle.lists.proofs.Cases.{less, and_true, fst_true, snd_true}
use Rattle.text.specs.Digits.{last_digit, digits_up_to, digits}
use Rattle.text.specs.Number.{is_digit}

last : (k n : ℕ) → n < 10 → digits_up_to k n ≡ last_digit n ∷ []
last zero n h = refl
last (suc k) n h = rw (lt-ltb n 10 h, digits_up_to)

more : (k n : ℕ) → 10 ≤ n → digits_up_to (suc k) n ≡ digits_up_to k (n / 10) ++ (last_digit n ∷ [])
more k n h = rw (le-ltb n 10 h, digits_up_to)

-- any bound from n on gives the same digits
enough : (j k n : ℕ) → n ≤ j → n ≤ k → digits_up_to j n ≡ digits_up_to k n
enough zero k n h l = sym (last k n (omega arith))
enough (suc j) zero n h l = last (suc j) n (omega arith)
enough (suc j) (suc k) n h l =
    ⊎_elim
    (λ s. last (suc j) n s ∙ sym (last (suc k) n s))
    (λ s.
    more j n s
    ∙ ap (λ (ds : List ℕ). ds ++ (last_digit n ∷ [])) (enough j k (n / 10) (omega arith) (omega arith))
    ∙ sym (more k n s))
    (less n 10)

pub digits-one : (n : ℕ) → n < 10 → digits n ≡ last_digit n ∷ []
unfolding digits
digits-one n h = last n n h

pub digits_more : (n : ℕ) → 10 ≤ n → digits n ≡ digits (n / 10) ++ (last_digit n ∷ [])
unfolding digits
digits_more n h =
    enough n (suc n) n (omega arith) (omega arith)
    ∙ more n n h
    ∙ ap (λ (ds : List ℕ). ds ++ (last_digit n ∷ [])) (enough n (n / 10) (n / 10) (omega arith) (omega arith))

pub length-one : (n : ℕ) → n < 10 → length (digits n) ≡ 1
length-one n h = ap length (digits-one n h)

pub length_more : (n : ℕ) → 10 ≤ n → length (digits n) ≡ length (digits (n / 10)) + 1
length_more n h = ap length (digits_more n h) ∙ length-append (digits (n / 10)) (last_digit n ∷ [])

-- a number below the k + 1st power of ten has at most k + 1 digits
pub digits-few : (k n : ℕ) → n < 10 ^ suc k → length (digits n) ≤ suc k
digits-few zero n h = omega (arith, length-one n (omega arith))
digits-few (suc k) n h =
    ⊎_elim
    (λ s. omega (arith, length-one n s))
    (λ s. omega (arith, length_more n s, digits-few k (n / 10) (tenth n (10 ^ suc k) (rw pow-suc at h))))
    (less n 10)
  where
    tenth : (n p : ℕ) → n < p * 10 → n / 10 < p
    tenth n p h = omega arith

-- a number of 64 bits has at most 20
pub width_few : {r : ℕ} (n : ℕ) → r ≡ length (digits n) → n < 2 ^ 64 → r ≤ 20
width_few n e h = omega (arith, digits-few 19 n (omega arith))

-- the byte of a digit passes the test, and what passes is one of these bytes
pub digit-passes : (d : ℕ) → d < 10 → is_digit (48 + d) ≡ true
digit-passes d h = and_true (le-leb 48 (48 + d) (omega arith)) (le-leb (48 + d) 57 (omega arith))

pub digit-least : (x : ℕ) → is_digit x ≡ true → 48 ≤ x
digit-least x e = leb-true 48 x (fst_true (leb 48 x) (leb x 57) e)

pub digit-most : (x : ℕ) → is_digit x ≡ true → x ≤ 57
digit-most x e = leb-true x 57 (snd_true (leb 48 x) (leb x 57) e)
