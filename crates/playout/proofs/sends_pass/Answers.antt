use Rattle.playout.proofs.sends_pass.Goals as goal

pub returns : goal.returns
returns c = rw (c.sends_one.ensures, c.passing.ensures)
