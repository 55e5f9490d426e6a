use Rattle.std.proofs.Common.{arith}
use Rattle.lists.proofs.Parts.{up_to_le}
use Rattle.asked.proofs.after_line.Goals as goal

pub after-requires : goal.after-requires
after-requires c = omega (arith, up_to_le 10 c.args.s.now, c.find.ensures)
