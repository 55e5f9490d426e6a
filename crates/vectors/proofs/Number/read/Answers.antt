use Rattle.std.proofs.Common.{◌∙◌}
use Rattle.lists.proofs.Parts.{part-rest}
use Rattle.vectors.proofs.Numbers.{next_none, next_is}
use Rattle.vectors.proofs.Number.read.Goals as goal

pub returns-then-end-rest-clause-value : goal.returns-then-end-rest-clause-value
returns-then-end-rest-clause-value c =
    let a = c.args in next_none a.at a.file.now a.stop a.greatest (part-rest a.file.now a.at) c.find-end.ensures c.if-end-rest.true

pub returns-in_err-n-clause-value : goal.returns-in_err-n-clause-value
returns-in_err-n-clause-value c =
    let a = c.args in
    c.from_residual.ensures
    ∙ next_is a.at a.file.now a.stop a.greatest (part-rest a.file.now a.at) c.find-end.ensures c.if-end-rest.false c.in_err-n.ensures.value

pub returns-clause-value : goal.returns-clause-value
returns-clause-value c =
    let a = c.args in
    next_is a.at a.file.now a.stop a.greatest (part-rest a.file.now a.at) c.find-end.ensures c.if-end-rest.false c.in_ok-n.ensures.value
