use Rattle.feed.specs.Answers.{channel_of, fed_of}
use Rattle.feed.proofs.Making.{does_as}
use Rattle.feed.proofs.Staging.{add_so, add_not, added-table}
use Rattle.feed.proofs.Feed.add_to.Goals as goal

pub listed-requires : goal.listed-requires
listed-requires c =
    let a = c.args in
    (c.requires.0, added-table a.table a.identity a.priority c.add-added.ensures c.in-Ok.is)

pub returns-in-Ok : goal.returns-in-Ok
returns-in-Ok c l =
    let a = c.args in
    let w = a.words.now in
    let k = a.whole.now in
    does_as
    (add_so (fed_of a.self l w k) (channel_of a.self w k) a.identity a.priority c.requires.1 c.add-added.ensures c.in-Ok.is)
    (c.listed.ensures a.out.now l)

pub returns-in-Err : goal.returns-in-Err
returns-in-Err c l =
    let a = c.args in
    let w = a.words.now in
    let k = a.whole.now in
    does_as
    (add_not (fed_of a.self l w k) (channel_of a.self w k) a.identity a.priority c.requires.1 c.add-added.ensures c.in-Err.is)
    (c.stop.ensures w k l)
