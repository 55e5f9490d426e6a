use mathlib.Core.Path.{refl}
use Rattle.feed.proofs.Leaving.{passes_kept}
use Rattle.feed.proofs.Making.{does-put}
use Rattle.feed.proofs.Feed.stop.Goals as goal

pub returns : goal.returns
returns c w k l = does-put l w k c.write_refusal-written.ensures c.put.ensures (passes_kept refl refl refl refl refl)
