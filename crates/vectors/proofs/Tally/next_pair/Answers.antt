use Rattle.vectors.proofs.Pairing.{if_ok, with_whole, too_short, none_there}
use Rattle.vectors.proofs.Tally.next_pair.Goals.{in_default-via-in-Some+else-pair-file, in_default-via-in_default}
use Rattle.vectors.proofs.Tally.next_pair.Goals as goal

pub returns-in-Some : goal.returns-in-Some
returns-in-Some g c =
    let a = c.args in
    if_ok
    c.with.result
    (λ t e. with_whole a.file.now a.self c.in-Some.ensures.value c.if-pair-file.true c.one_pair-found.ensures e)
    c.with.ensures

pub returns-in_default : goal.returns-in_default
returns-in_default g c =
    let a = c.args in
    elim c.in_default.branch [
      | in_default-via-in-Some+else-pair-file w ↦ if_ok c.stop.result (λ t e. too_short a.file.now a.self w.in-Some.ensures.value w.if-pair-file.false e) c.stop.ensures
      | in_default-via-in_default w ↦ if_ok c.stop.result (λ t e. none_there a.file.now a.self w.in_default.ensures.value e) c.stop.ensures
    ]
