use mathlib.Core.Path.{ap₂}
use mathlib.Core.Bool.{Bool, ◌&&◌}
use Prim.Native.Nat.{ℕ}
use lib.Dec.{eqb}
use Rattle.frame.proofs.has_listened.Goals as goal

pub returns : goal.returns
returns c =
    let a = c.args in
    ap₂ (λ (x : Bool) (y : ℕ). a.only && (x && (eqb a.s.silence a.frame && eqb y a.own))) c.is_backup.ensures c.rank_number.ensures.0
