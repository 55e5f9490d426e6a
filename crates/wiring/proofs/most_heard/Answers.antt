use mathlib.Core.Path.{refl}
use Rattle.wiring.proofs.Few.{few_are_sent, few_are_heard}
use Rattle.wiring.proofs.most_heard.Goals as goal

pub returns : goal.returns
returns c = record { figure = refl; sent = few_are_sent; few = few_are_heard }
