use native.Mathlib.Omega.{arith}
use Rattle.channel.proofs.Answering.{answers, plays-of, next-short, next-played}
use Rattle.channel.proofs.Channel.play.Goals as goal

pub returns-then-fared : goal.returns-then-fared
returns-then-fared c =
    let state = c.args.self.state in
    rw c.refused.ensures (answers _ (next-short state c.requires (plays-of state _ c.words_of-words.ensures.servers c.play-fared.ensures) c.if-fared.true))

pub overflow_add-state : goal.overflow_add-state
overflow_add-state c = omega (arith, c.requires)

pub returns : goal.returns
returns c =
    let state = c.args.self.state in
    rw c.moved-channel.ensures (answers _ (next-played state c.requires (plays-of state _ c.words_of-words.ensures.servers c.play-fared.ensures) c.if-fared.false c.servers_of-after.ensures))
