use mathlib.Core.Path.{refl, sym}
use native.Mathlib.Omega.{arith}
use borrow.Author.Tests.{lt-ltb, le-ltb}
use Prim.Native.Nat.{◌+◌}
use Rattle.timecode.specs.Label.{day_length}
use Rattle.lists.proofs.Cases.{chosen, other}
use Rattle.group.specs.Advance.{step_outcome}
use Rattle.channel.specs.Answers.{state}
use Rattle.channel.proofs.Answering.{answers-refused, answers_as}
use Rattle.channel.proofs.Channel.advance.Goals as goal

pub returns-then-self : goal.returns-then-self
returns-then-self c =
    let a = c.args in
    answers-refused a.self (step_outcome (state a.self)) a.out.now c.refused.ensures (other _ (le-ltb (a.self.state.frame + 1) day_length (omega arith)))

pub returns : goal.returns
returns c =
    let s = state c.args.self in
    answers_as (sym (chosen _ (lt-ltb (s.frame + 1) day_length (omega arith)))) refl refl c.step.ensures
