use mathlib.Core.Path.{◌∙◌}
use borrow.Author.Tests.{lt-ltb, le-ltb}
use Rattle.lists.proofs.Cases.{chosen, other}
use Rattle.group.specs.Advance.{time_refusal}
use Rattle.channel.proofs.Answering.{stays-refused, within-goes}
use Rattle.channel.proofs.Channel.advance_within.Goals as goal

pub returns-then-time-ge-DAY : goal.returns-then-time-ge-DAY
unfolding time_refusal
returns-then-time-ge-DAY c =
    let a = c.args in
    stays-refused a.self a.time a.out.now c.stays.ensures (other _ (le-ltb _ _ c.if-time-ge-DAY.true))

pub returns-then-self-time : goal.returns-then-self-time
unfolding time_refusal
returns-then-self-time c =
    let a = c.args in
    stays-refused a.self a.time a.out.now c.stays-then-self-time.ensures (chosen _ (lt-ltb _ _ c.if-time-ge-DAY.false) ∙ chosen _ (lt-ltb _ _ c.if-self-time.true))

pub returns : goal.returns
unfolding time_refusal
returns c =
    let a = c.args in
    within-goes a.self a.time (chosen _ (lt-ltb _ _ c.if-time-ge-DAY.false) ∙ other _ (le-ltb _ _ c.if-self-time.false)) c.run_within.ensures
