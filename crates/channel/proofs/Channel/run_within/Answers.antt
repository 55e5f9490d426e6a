use mathlib.Core.Path.{refl, ap}
use lib.ListN.{length}
use Rattle.group.specs.declared.State.{State}
use Rattle.group.specs.Advance.{within_goes}
use Rattle.frame.specs.Answers.{verdict_of}
use Rattle.channel.proofs.Answering.{answers-within, gives_of, gives_nothing, within-later, stays}
use Rattle.channel.proofs.Channel.run_within.Goals as goal

pub overflow_sub-result : goal.overflow_sub-result
overflow_sub-result c =
    let a = c.args in
    within-later a.self.state a.target (gives_of a.self.state _ c.words_of-words.ensures.servers (λ (s : State). within_goes s a.target (length a.out.now)) c.run_within-ran.ensures.gives)

pub returns-in-Ok : goal.returns-in-Ok
returns-in-Ok c =
    let a = c.args in
    let g = gives_of a.self.state _ c.words_of-words.ensures.servers (λ (s : State). within_goes s a.target (length a.out.now)) (rw c.in-Ok.is at c.run_within-ran.ensures.gives) in
    rw (c.moved-channel.ensures, c.servers_of-after.ensures) (answers-within _ g refl)

pub returns-in-Err : goal.returns-in-Err
returns-in-Err c =
    let a = c.args in
    let g = gives_of a.self.state _ c.words_of-words.ensures.servers (λ (s : State). within_goes s a.target (length a.out.now)) c.run_within-ran.ensures.gives in
    stays a.self c.stays.ensures (gives_nothing g _ (ap verdict_of c.in-Err.is))
