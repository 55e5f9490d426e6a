use mathlib.Core.Path.{ap}
use mathlib.Core.Bool.{Bool, not, ◌&&◌}
use Rattle.feed.proofs.Feed.waits.Goals as goal

pub returns : goal.returns
returns c w k = let a = c.args in ap (λ (t : Bool). not a.self.over && t) c.is_whole.ensures
