use Rattle.frame.proofs.Hearings.{listened_turn}
use Rattle.frame.proofs.act.Goals as goal

pub returns-then-just_listens : goal.returns-then-just_listens
returns-then-just_listens c = rw c.attend-next.ensures (rw c.cleared.ensures (listened_turn (c.just_listens.ensures c.if-just_listens.true)))
