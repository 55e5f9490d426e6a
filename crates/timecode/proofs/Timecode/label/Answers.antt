use Rattle.timecode.proofs.Trips.{trips}
use Rattle.timecode.proofs.Timecode.label.Goals as goal

pub returns : goal.returns
returns c = record { label = c.label_of.ensures; trips = trips }
