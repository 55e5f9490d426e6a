use mathlib.Core.Path.{sym, ap, ◌∙◌}
use native.Mathlib.Omega.{arith}
use borrow.Author.Tests.{eq-eqb}
use lib.ListN.{length}
use Rattle.lists.proofs.Cases.{chosen}
use Rattle.refusal.specs.Answer.{of_verdict}
use Rattle.calls.proofs.Going.{how_many}
use Rattle.calls.proofs.Ending.{ends_unopened, ends-short, ends}
use Rattle.calls.proofs.run_list.Goals as goal

pub returns-in-Err : goal.returns-in-Err
returns-in-Err c =
    let a = c.args in
    ends_unopened a.table a.period a.calls.now a.out.now a.numbers.now c.refused.ensures
    (sym c.fresh-opened.ensures.number ∙ ap of_verdict c.in-Err.is)

pub returns-then-calls-numbers : goal.returns-then-calls-numbers
returns-then-calls-numbers c =
    let a = c.args in
    ends-short a.table a.period a.calls.now a.out.now a.numbers.now
    (sym c.fresh-opened.ensures.number ∙ ap of_verdict c.in_default.is) c.if-calls-numbers.true c.refused-then-calls-numbers.ensures

pub run-channel-requires : goal.run-channel-requires
run-channel-requires c = let a = c.args in omega (arith, c.if-calls-numbers.false, how_many (length a.out.now) a.calls.now)

pub returns : goal.returns
returns c =
    let a = c.args in
    let none = sym c.fresh-opened.ensures.number ∙ ap of_verdict c.in_default.is in
    ends a.table a.period a.calls.now a.out.now a.numbers.now c.run-channel.result none c.if-calls-numbers.false
    (c.fresh-opened.ensures.channel ∙ chosen _ (eq-eqb _ 0 none)) c.run-channel.ensures
