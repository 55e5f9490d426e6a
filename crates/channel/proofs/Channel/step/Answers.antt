use native.Mathlib.Omega.{arith}
use Rattle.channel.proofs.Answering.{next-quiet}
use Rattle.channel.proofs.Channel.step.Goals as goal

pub overflow_add-state : goal.overflow_add-state
overflow_add-state c = omega (arith, c.requires)

pub idle-requires : goal.idle-requires
idle-requires c = (c.requires, c.quiet.ensures c.if-quiet.true)

pub play-requires : goal.play-requires
play-requires c = c.requires

pub returns-then-quiet : goal.returns-then-quiet
returns-then-quiet c =
    let a = c.args in
    next-quiet a.self a.out.now (c.quiet.ensures c.if-quiet.true) c.idle.ensures

pub returns-else-quiet : goal.returns-else-quiet
returns-else-quiet c = c.play.ensures
