use Rattle.vectors.proofs.Pairing.{pair_agrees, pair_differs}
use Rattle.vectors.proofs.one_pair.Goals as goal

pub returns-then-number-pair : goal.returns-then-number-pair
returns-then-number-pair c =
    let a = c.args in
    pair_agrees a.file.now a.pair c.part.ensures c.part-2.ensures c.departure-found.ensures c.number.ensures c.if-number-pair.true

pub returns-else-number-pair : goal.returns-else-number-pair
returns-else-number-pair c =
    let a = c.args in
    pair_differs a.file.now a.pair c.part.ensures c.part-2.ensures c.departure-found.ensures c.number.ensures c.if-number-pair.false
