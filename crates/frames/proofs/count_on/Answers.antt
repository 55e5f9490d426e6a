use Rattle.places.specs.Words.{servers_of}
use Rattle.frame.specs.Answers.{state_of}
use Rattle.frames.proofs.Playing.{goes_jump}
use Rattle.frames.proofs.count_on.Goals as goal

pub jump-start-requires : goal.jump-start-requires
jump-start-requires c = (c.requires, c.nobody_sent-silent.ensures)

pub returns : goal.returns
returns c =
    let a = c.args in
    goes_jump (state_of a.frame a.period (servers_of a.words.now) a.whole.now) c.requires c.jump-start.ensures c.count_next.ensures
