-- The end of the input. Assumes nothing.
use mathlib.Core.Bool.{Bool, true, false, not, ◌&&◌, ◌||◌}
use mathlib.Core.Path.{◌≡◌, refl, sym, ap, ◌∙◌}
use mathlib.Core.List.{List, [], ◌∷◌}
use Prim.Native.Nat.{ℕ, ◌<◌}
use native.Mathlib.Omega.{arith}
use lib.ListN.{length}
use Rattle.lists.proofs.Cases.{tested, on, clash, chosen, other, or_false}
use Rattle.day.specs.Read.{lines_in}
use Rattle.day.specs.Day.{Stage, Day}
use Rattle.day.specs.Sheet.{input_refusal, finish, sheet_from}
use Rattle.feeding.specs.Fed.{Fed, whole_line, closed, waits, before, remaining}
use Rattle.feeding.specs.Moves.{nothing, ended, last_lines, last_move}
use Rattle.feeding.proofs.Lines.{before-none, no_feed}
use Rattle.feeding.proofs.Remaining.{left_over, left-on, left-part, sheet-wrong}

-- a line under way has no line feed
pub line-last : (k : ℕ) (g : Stage) (l : List ℕ) → 0 < length l → last_lines k g l ≡ input_refusal k 1
line-last k g [] h = absurd (omega arith)
line-last k g (x ∷ l) h = refl

pub none_last : (k : ℕ) (g : Stage) (l : List ℕ) → length l ≡ 0 → last_lines k g l ≡ finish k g
none_last k g [] e = refl
none_last k g (x ∷ l) e = absurd (omega arith)

pub last-closed : (f : Fed) → closed f ≡ true → nothing f ≡ last_move f
unfolding last_move
last-closed f e = sym (chosen _ e)

pub last_open : (f : Fed) {w : List ℕ} → closed f ≡ false → last_lines f.number f.day.stage f.line ≡ w → record { lines = w; fed = ended f } ≡ last_move f
unfolding last_move
last_open f {w} e q = sym (other _ e ∙ ap (λ (x : List ℕ). record { lines = x; fed = ended f }) q)

-- ---- the law

none_left : (k : ℕ) (d : Day) (l : List ℕ) → whole_line l ≡ false → sheet_from k d (before l (lines_in [])) ≡ last_lines k d.stage l
unfolding before lines_in sheet_from
none_left k d [] e = refl
none_left k d (x ∷ l) e = ap (sheet_from k d) (before-none x l) ∙ sheet-wrong k d (x ∷ l) [] (no_feed (x ∷ l) e)

open_left : (f : Fed) → closed f ≡ false → remaining f [] ≡ last_lines f.number f.day.stage f.line
open_left f e =
    let p = or_false f.over (whole_line f.line) e in
    left-on f [] p.0 ∙ ap (sheet_from f.number f.day) (left-part f.line [] p.1) ∙ none_left f.number f.day f.line p.1

pub not-waiting : (o l : Bool) → (not o && l) ≡ false → (o || l) ≡ true → o ≡ true
not-waiting true l p q = refl
not-waiting false l p q = absurd (clash q p)

pub last-left : (f : Fed) → waits f ≡ false → remaining f [] ≡ (last_move f).lines
unfolding last_move
last-left f e =
    on (tested (closed f))
    (λ t. rw (chosen _ t) (left_over f [] (not-waiting f.over (whole_line f.line) e t)))
    (λ t. rw (other _ t) (open_left f t))
