use mathlib.Core.Bool.{false}
use mathlib.Core.Path.{refl, ap}
use Rattle.periods.specs.declared.Period.{Period}
use Rattle.feed.specs.declared.Stage.TheVariants.{AtPeriod}
use Rattle.feeding.proofs.Laws.{laws}
use Rattle.feed.proofs.Feed.begin.Goals as goal

pub returns : goal.returns
returns c = record { out = c.write_bytes-written.ensures; feed = ap (λ (p : Period). record { over = false; number = 1; length = 0; stage = AtPeriod; frame = 0; period = p }) c.shortest-period.ensures; fed = λ l w k. refl; laws = laws }
