use mathlib.Core.Path.{ap, ◌∙◌}
use Rattle.group.specs.declared.Table.{Table}
use Rattle.feed.specs.Answers.{channel_of, fed_of}
use Rattle.feed.proofs.Making.{does_as}
use Rattle.feed.proofs.Staging.{is-taken, add_to_none}
use Rattle.feed.proofs.Feed.add.Goals as goal

pub add_to-requires : goal.add_to-requires
add_to-requires c =
    let t = is-taken c.of-made.ensures c.in-Ok.is in
    (c.requires, ap (λ (x : Table). x.servers) t ∙ c.servers_of.ensures)

pub returns-in-Err : goal.returns-in-Err
returns-in-Err c l =
    let a = c.args in
    let w = a.words.now in
    let k = a.whole.now in
    does_as
    (add_to_none (fed_of a.self l w k) (channel_of a.self w k) a.identity a.priority c.servers_of.ensures c.of-made.ensures c.in-Err.is)
    (c.stop.ensures w k l)
