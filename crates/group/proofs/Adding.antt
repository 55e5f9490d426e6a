-- k frames and then m are k + m. Assumes nothing.
use mathlib.Core.Path.{◌≡◌, sym, ap, ◌∙◌}
use mathlib.Core.List.{List, ◌++◌, append_assoc}
use Prim.Native.Nat.{ℕ, zero, suc, ◌+◌}
use native.Mathlib.Nat.{zero-add, suc-add}
use Rattle.group.specs.declared.State.{State}
use Rattle.group.specs.Frame.{advanced, frame_lines}
use Rattle.group.specs.Advance.{advanced_by, lines_by}

pub advanced_add : (k m : ℕ) (c : State) → advanced_by (k + m) c ≡ advanced_by m (advanced_by k c)
unfolding advanced_by
advanced_add zero m c = ap (λ (n : ℕ). advanced_by n c) (zero-add m)
advanced_add (suc k) m c = ap (λ (n : ℕ). advanced_by n c) (suc-add k m) ∙ advanced_add k m (advanced c)

pub lines_add : (k m : ℕ) (c : State) → lines_by (k + m) c ≡ lines_by k c ++ lines_by m (advanced_by k c)
unfolding advanced_by lines_by
lines_add zero m c = ap (λ (n : ℕ). lines_by n c) (zero-add m)
lines_add (suc k) m c =
    ap (λ (n : ℕ). lines_by n c) (suc-add k m) ∙ ap (λ (l : List ℕ). frame_lines c ++ l) (lines_add k m (advanced c))
    ∙ sym (append_assoc (frame_lines c) (lines_by k (advanced c)) _)
