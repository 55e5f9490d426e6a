use Rattle.frame.proofs.count_frame.Goals as goal

pub play_frame-requires : goal.play_frame-requires
play_frame-requires c = c.requires

pub returns : goal.returns
returns c = c.play_frame.ensures.1.out
