-- The lines of the input, from the first byte on. Assumes nothing.
use mathlib.Core.Path.{◌≡◌, refl}
use mathlib.Core.List.{List, [], ◌∷◌}
use Prim.Native.Nat.{ℕ}
use borrow.Author.Tests.{ne_eqb}
use Rattle.lists.specs.Lists.{on_first}
use Rattle.day.specs.Read.{lines_in}

pub lines-feed : (s : List ℕ) → lines_in (10 ∷ s) ≡ (10 ∷ []) ∷ lines_in s
unfolding lines_in
lines-feed s = refl

pub lines_byte : (x : ℕ) (s : List ℕ) → (x ≡ 10 → ⊥) → lines_in (x ∷ s) ≡ on_first x (lines_in s)
unfolding lines_in
lines_byte x s h = rw (ne_eqb x 10 h, lines_in)
