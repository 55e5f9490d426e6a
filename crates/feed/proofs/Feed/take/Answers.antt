use Rattle.feed.proofs.Feed.take.Goals as goal

pub returns : goal.returns
returns c w k = c.fill-filled.ensures w k
