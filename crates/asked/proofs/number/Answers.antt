use Rattle.asked.proofs.Numbers.{number_is, number_not}
use Rattle.asked.proofs.number.Goals as goal

pub returns-in-Ok-clause-value : goal.returns-in-Ok-clause-value
returns-in-Ok-clause-value c = (number_is _ _ c.read_number.ensures _ c.in-Ok.is).0

pub returns-in-Ok-clause-n_le_greatest : goal.returns-in-Ok-clause-n_le_greatest
returns-in-Ok-clause-n_le_greatest c = (number_is _ _ c.read_number.ensures _ c.in-Ok.is).1

pub returns-in-Err-clause-value : goal.returns-in-Err-clause-value
returns-in-Err-clause-value c = number_not _ _ c.read_number.ensures _ c.in-Err.is
