use borrow.Author.Tests.{eq-eqb, ne_eqb}
use Rattle.calls.proofs.Calling.{is-verb, is-advance, is-to}
use Rattle.calls.proofs.call.Goals as goal

pub returns-then-kind-lt8 : goal.returns-then-kind-lt8
returns-then-kind-lt8 c =
    let a = c.args in
    rw (is-verb a.n a.out.now c.if-kind-lt8.true) (rw c.verb_at.ensures at c.verb.ensures)

pub returns-then-kind-eq8 : goal.returns-then-kind-eq8
returns-then-kind-eq8 c =
    let a = c.args in
    rw (is-advance a.n a.out.now c.if-kind-lt8.false (eq-eqb _ _ c.if-kind-eq8.true)) c.advance.ensures

pub returns : goal.returns
returns c =
    let a = c.args in
    rw (is-to a.n a.out.now c.if-kind-lt8.false (ne_eqb _ _ c.if-kind-eq8.false)) c.advance_to.ensures
