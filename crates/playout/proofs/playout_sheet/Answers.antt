use Rattle.playout.proofs.Writings.{puts}
use Rattle.playout.proofs.playout_sheet.Goals as goal

pub returns : goal.returns
returns c = puts c.sheet.ensures c.written_of.ensures
