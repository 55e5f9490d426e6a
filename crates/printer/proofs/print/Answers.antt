use mathlib.Core.List.{[]}
use Rattle.printer.proofs.Answering.{answered_in}
use Rattle.printer.proofs.print.Goals as goal

pub returns : goal.returns
returns c = answered_in c.run-ran.ensures (c.over.ensures [] [] [])
