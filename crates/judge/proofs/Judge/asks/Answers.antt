use mathlib.Core.Path.{refl}
use Rattle.judge.proofs.Holding.{asks-by}
use Rattle.judge.proofs.Judge.asks.Goals as goal

pub returns : goal.returns
returns c l w k =
    let args = c.args in
    asks-by args.self args.due.now refl (c.over.ensures l w k) c.held.ensures
