use mathlib.Core.Path.{ap₂, ◌∙◌}
use mathlib.Core.Bool.{Bool, not, ◌&&◌}
use Rattle.server.specs.Server.{sent_any}
use Rattle.places.proofs.Roles.{still-by}
use Rattle.places.proofs.is_still.Goals as goal

pub returns : goal.returns
returns c =
    let s = c.args.s in
    ap₂ (λ (x y : Bool). not x && not y) c.is_active.ensures c.sent_any.ensures ∙ still-by s.role (sent_any s)
