use mathlib.Core.Path.{ap}
use Rattle.group.specs.declared.State.{State}
use Rattle.group.specs.Advance.{time_goes}
use Rattle.frame.specs.Answers.{verdict_of}
use Rattle.channel.proofs.Answering.{answers, gives_of, gives_nothing}
use Rattle.channel.proofs.Channel.run.Goals as goal

pub returns-in-Ok : goal.returns-in-Ok
returns-in-Ok c =
    let a = c.args in
    let g = gives_of a.self.state _ c.words_of-words.ensures.servers (λ (s : State). time_goes s a.target) (rw c.in-Ok.is at c.run-ran.ensures.gives) in
    rw (c.moved-channel.ensures, c.servers_of-after.ensures) (answers _ g)

pub returns-in-Err : goal.returns-in-Err
returns-in-Err c =
    let a = c.args in
    let g = gives_of a.self.state _ c.words_of-words.ensures.servers (λ (s : State). time_goes s a.target) c.run-ran.ensures.gives in
    rw c.refused.ensures (answers _ (gives_nothing g _ (ap verdict_of c.in-Err.is)))
