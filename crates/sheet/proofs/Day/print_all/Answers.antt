use Rattle.std.proofs.Common.{rules}
use Rattle.printer.proofs.Answering.{used-within}
use Rattle.sheet.proofs.Day.print_all.Goals as goal

pub overflow_add-used : goal.overflow_add-used
overflow_add-used g c = search (rules, used-within c.print-printed.ensures.prints)

pub loop-preserved : goal.loop-preserved
loop-preserved g c = search (rules, used-within c.print-printed.ensures.prints)
