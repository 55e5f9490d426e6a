-- The line of an input refusal. Assumes nothing.
use mathlib.Core.Path.{◌≡◌, refl}
use mathlib.Core.List.{◌++◌, append_assoc}
use Prim.Native.Nat.{ℕ, ◌+◌}
use native.Mathlib.Omega.{arith}
use lib.ListN.{length, length-append}
use Rattle.text.specs.Words.{bytes}
use Rattle.text.specs.Digits.{digits}
use Rattle.day.specs.Sheet.{input_refusal}

pub refusal-pieces : (k n : ℕ) → (((bytes "line\t" ++ digits k) ++ bytes "\trefused-") ++ digits n) ++ bytes "\n" ≡ input_refusal k n
unfolding input_refusal
refusal-pieces k n = simp append_assoc refl

pub refusal-long : (k n : ℕ) → length (input_refusal k n) ≡ length (digits k) + length (digits n) + 15
unfolding input_refusal
refusal-long k n = simp length-append (omega arith)
