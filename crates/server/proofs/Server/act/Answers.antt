use Rattle.refusal.specs.declared.Refusal.TheVariants.{Number, Identity}
use Rattle.server.proofs.Acting.{refused_with, to-nobody, to-itself, to_another}
use Rattle.server.proofs.Server.act.Goals as goal

pub returns-then-self-pair : goal.returns-then-self-pair
returns-then-self-pair c =
    rw c.refused.ensures
    (refused_with _ _ _ _ _ Number (to-nobody _ _ _ c.paired-pair.ensures c.if-self-pair.true))

pub returns-then-pair-to : goal.returns-then-pair-to
returns-then-pair-to c =
    rw c.refused-then-pair-to.ensures
    (refused_with _ _ _ _ _ Identity
    (to-itself _ _ _ c.paired-pair.ensures c.if-self-pair.false c.if-pair-to.true))

pub returns : goal.returns
returns c =
    let a = c.args in
    let e =
    to_another a.verb a.to a.self c.paired-pair.ensures c.if-self-pair.false c.if-pair-to.false in
    rw e at c.enter.ensures
