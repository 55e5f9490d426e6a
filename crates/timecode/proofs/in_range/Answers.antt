use Rattle.timecode.proofs.in_range.Goals as goal

pub returns : goal.returns
returns c =
    rw (c.two_below-4.ensures, c.two_below-3.ensures, c.two_below-2.ensures, c.two_below.ensures)
