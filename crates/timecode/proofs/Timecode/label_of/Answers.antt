use Rattle.timecode.proofs.Labels.{label-pairs}
use Rattle.timecode.proofs.Timecode.label_of.Goals as goal

pub returns : goal.returns
returns c = label-pairs _ c.pair-h.ensures c.pair-m.ensures c.pair-s.ensures c.pair-f.ensures
