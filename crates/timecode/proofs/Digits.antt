-- Two digits: what the tests on them say, and their number, there and back. Assumes nothing.
use mathlib.Core.Bool.{Bool, true, ◌&&◌, and_assoc}
use mathlib.Core.List.{List}
use mathlib.Core.Path.{◌≡◌, sym, ap, ◌∙◌}
use Prim.Native.Nat.{ℕ, suc, ◌+◌, ◌/◌, ◌%◌, ◌<◌}
use native.Mathlib.Numerals.{add-one}
use native.Mathlib.Omega.{arith}
use borrow.Author.Tests.{ltb-true, lt-ltb}
use lib.Dec.{ltb}
use lib.ListN.{length, get_or}
use Rattle.lists.proofs.Cases.{and_true, fst_true, snd_true}
use Rattle.text.specs.Number.{is_digit}
use Rattle.text.proofs.Digits.{digit-passes, digit-least, digit-most}
use Rattle.timecode.specs.Label.{two}
use Rattle.timecode.specs.Read.{two_at, two_below}
use Rattle.timecode.specs.Steps.{Digit, Digits, Below}

-- for `search`: each test of a conjunction that holds
pub ruleset parts = (fst_true, snd_true)

-- a byte that passes the test is a digit
digit : (x : ℕ) → is_digit x ≡ true → Digit x
digit x e = record { low = digit-least x e; high = digit-most x e }

-- the two bytes at place k pass the test
abbrev pub are_digits : List ℕ → ℕ → Bool
are_digits s k = is_digit (get_or s k 0) && is_digit (get_or s (k + 1) 0)

module _ (s : List ℕ) (k : ℕ) where
  pub digits : k + 1 < length s → are_digits s k ≡ true → Digits s k
  digits h e = record { within = h; tens = digit _ (search parts); ones = digit _ (search parts) }

  -- the two bytes are tested first, then their number
  pub digits-first : (m : ℕ) → two_below s k m ≡ (are_digits s k && ltb (two_at s k) m)
  unfolding two_below
  digits-first m = rw add-one (sym (and_assoc (is_digit (get_or s k 0)) (is_digit (get_or s (suc k) 0)) (ltb (two_at s k) m)))

  pub below : (m : ℕ) → k + 1 < length s → two_below s k m ≡ true → Below s k m
  below m h e =
      let f : (are_digits s k && ltb (two_at s k) m) ≡ true = sym (digits-first m) ∙ e in
      record { digits = digits h (search parts); below = ltb-true _ _ (search parts) }

  -- the number of two digits is written as those digits
  pub tens-back : Digits s k → 48 + two_at s k / 10 % 10 ≡ get_or s k 0
  tens-back p = omega (arith, ap (λ (j : ℕ). get_or s j 0) (add-one k))

  pub ones-back : Digits s k → 48 + two_at s k % 10 ≡ get_or s (suc k) 0
  ones-back p = omega (arith, ap (λ (j : ℕ). get_or s j 0) (add-one k))

-- the two digits of n are read as n
pub two-reads : (n : ℕ) → n < 100 → two_at (two n) 0 ≡ n
two-reads n h = omega arith

pub two-passes : (n m : ℕ) → n < 100 → n < m → two_below (two n) 0 m ≡ true
unfolding two_below
two-passes n m h g =
    and_true (digit-passes (n / 10 % 10) (omega arith))
    (and_true (digit-passes (n % 10) (omega arith)) (lt-ltb (two_at (two n) 0) m (rw (two-reads n h) g)))
