use Rattle.day.specs.Day.{Day, period_effect}
use Rattle.feeding.specs.Moves.{effect_move}
use Rattle.feed.specs.Answers.{fed_of}
use Rattle.feed.proofs.Staging.{does_at}
use Rattle.feed.proofs.Feed.set_period.Goals as goal

pub returns-in-AtPeriod : goal.returns-in-AtPeriod
returns-in-AtPeriod c l =
    let a = c.args in
    let w = a.words.now in
    let k = a.whole.now in
    does_at a.self c.in-AtPeriod.is l w k (λ (d : Day). effect_move (fed_of a.self l w k) (period_effect d.stage a.period)) (c.first_line.ensures l)

pub returns-in-AtServers : goal.returns-in-AtServers
returns-in-AtServers c l =
    let a = c.args in
    let w = a.words.now in
    let k = a.whole.now in
    does_at a.self c.in-AtServers.is l w k (λ (d : Day). effect_move (fed_of a.self l w k) (period_effect d.stage a.period)) (c.stop.ensures w k l)

pub returns-in-AtEntries : goal.returns-in-AtEntries
returns-in-AtEntries c l =
    let a = c.args in
    let w = a.words.now in
    let k = a.whole.now in
    does_at a.self c.in-AtEntries.is l w k (λ (d : Day). effect_move (fed_of a.self l w k) (period_effect d.stage a.period)) (c.stop-in-AtEntries.ensures w k l)

pub returns-in-AtClose : goal.returns-in-AtClose
returns-in-AtClose c l =
    let a = c.args in
    let w = a.words.now in
    let k = a.whole.now in
    does_at a.self c.in-AtClose.is l w k (λ (d : Day). effect_move (fed_of a.self l w k) (period_effect d.stage a.period)) (c.stop-in-AtClose.ensures w k l)
