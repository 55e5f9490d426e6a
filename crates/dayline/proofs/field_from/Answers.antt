use mathlib.Core.Path.{ap, ◌∙◌}
use Prim.Native.Nat.{ℕ, suc, ◌+◌}
use native.Mathlib.Numerals.{add-one}
use native.Mathlib.Omega.{arith}
use lib.ListN.{drop}
use Rattle.lists.proofs.Parts.{up_to_le, none_after, part-rest}
use Rattle.dayline.proofs.field_from.Goals as goal

pub slice_bounds-result-count-else-tab-s : goal.slice_bounds-result-count-else-tab-s
slice_bounds-result-count-else-tab-s c = omega (arith, up_to_le 9 c.args.s.now, c.requires)

pub slice_bounds-result-start-else-tab-s : goal.slice_bounds-result-start-else-tab-s
slice_bounds-result-start-else-tab-s c = omega (arith, slice_bounds-result-count-else-tab-s c)

pub returns-then-tab-s : goal.returns-then-tab-s
returns-then-tab-s c =
    let s = c.args.s.now in
    part-rest s (c.args.tab + 1) ∙ rw add-one (ap (λ (n : ℕ). drop (suc n) s) c.requires)

pub returns-else-tab-s : goal.returns-else-tab-s
returns-else-tab-s c =
    let s = c.args.s.now in
    let e = c.requires in
    part-rest s c.args.tab ∙ ap (λ (n : ℕ). drop n s) e ∙ none_after 9 s (omega (arith, e, c.if-tab-s.false))
