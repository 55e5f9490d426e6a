use Rattle.std.proofs.Common.{sym, arith, length-take-le}
use Rattle.lists.proofs.Parts.{up_to_le}
use Rattle.asked.proofs.first_line.Goals as goal

pub slice_bounds-result-end : goal.slice_bounds-result-end
slice_bounds-result-end c = sym (length-take-le _ _ (omega (arith, up_to_le 10 c.args.s.now, c.find-end.ensures)))
