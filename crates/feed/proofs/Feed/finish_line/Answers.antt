use mathlib.Core.Path.{refl}
use Rattle.day.specs.Day.{Day}
use Rattle.day.specs.Sheet.{finish}
use Rattle.feeding.specs.Moves.{ended}
use Rattle.feed.specs.Answers.{fed_of}
use Rattle.feed.proofs.Leaving.{passes_kept}
use Rattle.feed.proofs.Making.{does-none}
use Rattle.feed.proofs.Staging.{does_at}
use Rattle.feed.proofs.Feed.finish_line.Goals as goal

pub returns-in-AtPeriod : goal.returns-in-AtPeriod
returns-in-AtPeriod c w k l = let a = c.args in does_at a.self c.in-AtPeriod.is l w k (λ (d : Day). record { lines = finish a.self.number d.stage; fed = ended (fed_of a.self l w k) }) (c.stop.ensures w k l)

pub returns-in-AtServers : goal.returns-in-AtServers
returns-in-AtServers c w k l = let a = c.args in does_at a.self c.in-AtServers.is l w k (λ (d : Day). record { lines = finish a.self.number d.stage; fed = ended (fed_of a.self l w k) }) (c.stop-in-AtServers.ensures w k l)

pub returns-in-AtEntries : goal.returns-in-AtEntries
returns-in-AtEntries c w k l = let a = c.args in does_at a.self c.in-AtEntries.is l w k (λ (d : Day). record { lines = finish a.self.number d.stage; fed = ended (fed_of a.self l w k) }) (c.stop-in-AtEntries.ensures w k l)

pub returns-in-AtClose : goal.returns-in-AtClose
returns-in-AtClose c w k l = let a = c.args in does_at a.self c.in-AtClose.is l w k (λ (d : Day). record { lines = finish a.self.number d.stage; fed = ended (fed_of a.self l w k) }) (does-none refl (passes_kept refl refl refl refl refl))
