use mathlib.Core.Bool.{Bool, not, ◌&&◌}
use mathlib.Core.Path.{ap₂}
use Rattle.server.specs.Hearing.{replies}
use Rattle.server.proofs.Server.replies.Goals as goal

pub returns : goal.returns
unfolding replies
returns c = ap₂ (λ (x y : Bool). x && not y) c.lower_reveals.ensures c.sent_any.ensures
