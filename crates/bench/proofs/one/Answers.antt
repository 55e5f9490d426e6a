use mathlib.Core.Path.{sym, ap, ◌∙◌}
use Prim.Native.Nat.{◌/◌, ◌%◌}
use borrow.Author.Tests.{lt-ltb, le-ltb}
use Rattle.lists.proofs.Cases.{chosen, other}
use Rattle.roles.specs.declared.Verb.{Verb}
use Rattle.group.specs.Verbs.{verb_outcome}
use Rattle.places.specs.Words.{servers_of}
use Rattle.frame.specs.Answers.{state_of}
use Rattle.bench.specs.Bench.{step_of}
use Rattle.bench.proofs.Running.{one-step}
use Rattle.bench.proofs.one.Goals as goal

pub returns-then-kind-lt8 : goal.returns-then-kind-lt8
unfolding step_of
returns-then-kind-lt8 c =
    let a = c.args in
    let s = state_of a.frame a.period (servers_of a.words.now) a.whole.now in
    one-step (chosen _ (lt-ltb _ _ c.if-kind-lt8.true) ∙ ap (λ (v : Verb). verb_outcome s v (a.n / 10 % 65536) (a.n / 10 / 65536 % 65536)) (sym c.verb_at.ensures)) (c.act.ensures.gives a.period)

pub returns-else-kind-lt8 : goal.returns-else-kind-lt8
unfolding step_of
returns-else-kind-lt8 c = one-step (other _ (le-ltb _ _ c.if-kind-lt8.false)) c.run_within-ran.ensures.gives
