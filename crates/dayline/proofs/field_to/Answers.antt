use mathlib.Core.Path.{◌≡◌, ap, ◌∙◌}
use Prim.Native.Nat.{ℕ, ◌-◌}
use native.Mathlib.Omega.{arith}
use lib.ListN.{take}
use Rattle.lists.specs.Lists.{up_to}
use Rattle.lists.proofs.Parts.{up_to_le, first_part}
use Rattle.dayline.proofs.field_to.Goals as goal

pub slice_bounds-result-end : goal.slice_bounds-result-end
slice_bounds-result-end c = omega (arith, up_to_le 9 c.args.s.now, c.requires)

pub returns : goal.returns
returns c =
    let s = c.args.s.now in
    let e : c.args.tab - 0 ≡ up_to 9 s = omega (arith, c.requires) in
    ap (λ (n : ℕ). take n s) e ∙ first_part 9 s
