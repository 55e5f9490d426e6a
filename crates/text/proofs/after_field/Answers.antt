use mathlib.Core.Path.{ap, ◌∙◌}
use Prim.Native.Nat.{ℕ, suc, ◌+◌}
use native.Mathlib.Numerals.{add-one}
use native.Mathlib.Omega.{arith}
use lib.ListN.{drop}
use Rattle.lists.proofs.Parts.{up_to_le, none_after, part-rest}
use Rattle.text.proofs.after_field.Goals as goal

pub slice_bounds-result-count-else-tab-s : goal.slice_bounds-result-count-else-tab-s
slice_bounds-result-count-else-tab-s c = omega (arith, up_to_le 9 c.args.s.now, c.find-tab.ensures)

pub slice_bounds-result-start-else-tab-s : goal.slice_bounds-result-start-else-tab-s
slice_bounds-result-start-else-tab-s c = omega (arith, up_to_le 9 c.args.s.now, c.find-tab.ensures)

pub returns-then-tab-s : goal.returns-then-tab-s
returns-then-tab-s c =
    let s = c.args.s.now in
    let e = c.find-tab in
    part-rest s (e.result + 1) ∙ rw add-one (ap (λ (n : ℕ). drop (suc n) s) e.ensures)

pub returns-else-tab-s : goal.returns-else-tab-s
returns-else-tab-s c =
    let s = c.args.s.now in
    let e = c.find-tab in
    part-rest s e.result ∙ ap (λ (n : ℕ). drop n s) e.ensures ∙ none_after 9 s (omega (arith, e.ensures, c.if-tab-s.false))
