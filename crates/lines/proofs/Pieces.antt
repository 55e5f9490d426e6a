-- Lines: their pieces and their length. Assumes nothing.
use mathlib.Core.Path.{◌≡◌, refl}
use mathlib.Core.List.{List, ◌++◌, append_assoc}
use Prim.Native.Nat.{ℕ, ◌+◌, ◌≤◌, ◌<◌, ◌^◌}
use native.Mathlib.Omega.{arith}
use lib.Dec.{lit≤}
use lib.ListN.{length, length-append}
use Rattle.text.specs.Digits.{digits}
use Rattle.text.specs.Words.{bytes}
use Rattle.text.proofs.Digits.{digits-few}
use Rattle.timecode.specs.Label.{label}
use Rattle.roles.specs.declared.Word.{Word}
use Rattle.roles.specs.declared.Word.TheVariants as word
use Rattle.roles.specs.Words.{word_bytes}
use Rattle.lines.specs.Lines.{line, refused_word}

-- an identity, or a number below it, has few digits
pub few : {r : ℕ} (n : ℕ) → r ≡ length (digits n) → n < 2 ^ 16 → r ≤ 20
few n e h = omega (arith, digits-few 19 n (omega arith))

-- how long a line is
pub line-long : (t i : ℕ) (w : List ℕ) → length (line t i w) ≡ length (digits i) + length w + 14
unfolding line label
line-long t i w = simp length-append (omega arith)

-- no word is longer than 8
pub word_short : (w : Word) → length (word_bytes w) ≤ 8
word_short word.Sync = lit≤ tt
word_short word.Backup = lit≤ tt
word_short word.Prospect = lit≤ tt
word_short word.Primary = lit≤ tt
word_short word.Idle = lit≤ tt
word_short word.Down = lit≤ tt
word_short word.Beat = lit≤ tt
word_short word.Reveal = lit≤ tt
word_short word.Pass = lit≤ tt
word_short word.Lower = lit≤ tt
word_short word.Cut = lit≤ tt
word_short word.Mended = lit≤ tt

-- the pieces of the line of a refusal
pub refused-pieces : (t i n : ℕ) → ((((label t ++ bytes "\t") ++ digits i) ++ bytes "\trefused-") ++ digits n) ++ bytes "\n" ≡ line t i (refused_word n)
unfolding line
refused-pieces t i n = simp append_assoc refl
