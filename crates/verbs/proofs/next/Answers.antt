use mathlib.Core.Path.{refl}
use Rattle.verbs.proofs.next.Goals as goal

pub returns-in-Err : goal.returns-in-Err
returns-in-Err c =
    let a = c.args in
    (c.decide-done.ensures a.state refl c.place_in-first.ensures c.second_in-second.ensures refl refl).refused _ c.in-Err.is
