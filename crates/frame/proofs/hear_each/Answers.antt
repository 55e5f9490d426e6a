use Rattle.server.specs.Server.{sent_by}
use Rattle.frame.proofs.Hearings.{hears-then}
use Rattle.frame.proofs.hear_each.Goals as goal

pub returns : goal.returns
unfolding sent_by
returns c =
    let beats = c.hear_beats-a in
    let reveal = c.hear_if-b in
    hears-then beats.auto.out (rw c.plain.ensures at beats.ensures)
    (hears-then reveal.auto.out (rw c.revealing.ensures at reveal.ensures) c.hear_pass.ensures)
