use Rattle.channel.specs.Answers.{state}
use mathlib.Core.Path.{refl, sym, ◌∙◌}
use borrow.Author.Tests.{lt-ltb, le-ltb}
use Rattle.lists.proofs.Cases.{chosen, other}
use Rattle.group.specs.Advance.{time_refusal, time_outcome}
use Rattle.channel.proofs.Answering.{answers-refused, answers_as}
use Rattle.channel.proofs.Channel.advance_to.Goals as goal

pub returns-then-time-ge-DAY : goal.returns-then-time-ge-DAY
unfolding time_refusal
returns-then-time-ge-DAY c =
    let a = c.args in
    answers-refused a.self (time_outcome (state a.self) a.time) a.out.now c.refused.ensures (other _ (le-ltb _ _ c.if-time-ge-DAY.true))

pub returns-then-time-self : goal.returns-then-time-self
unfolding time_refusal
returns-then-time-self c =
    let a = c.args in
    answers-refused a.self (time_outcome (state a.self) a.time) a.out.now c.refused-then-time-self.ensures
    (chosen _ (lt-ltb _ _ c.if-time-ge-DAY.false) ∙ chosen _ (lt-ltb _ _ c.if-time-self.true))

pub returns : goal.returns
unfolding time_refusal
returns c =
    answers_as (sym (chosen _ (lt-ltb _ _ c.if-time-ge-DAY.false) ∙ other _ (le-ltb _ _ c.if-time-self.false))) refl refl c.run.ensures
