use mathlib.Core.Path.{ap₂}
use mathlib.Core.Bool.{Bool, ◌&&◌}
use Prim.Native.Nat.{ℕ}
use lib.Dec.{leb}
use Rattle.frame.proofs.stays.Goals as goal

pub returns : goal.returns
returns c =
    let a = c.args in
    (ap₂ ◌&&◌ c.is_prospect.ensures (ap₂ (λ (x : Bool) (y : ℕ). x && leb a.rank y) c.sent_any.ensures c.rank_number.ensures.0), c.rank_number.ensures.1.0)
