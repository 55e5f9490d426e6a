-- The silence limit and the prospect limit are at least two periods. Assumes nothing.
use Prim.Native.Nat.{◌*◌, ◌≤◌}
use native.Mathlib.Omega.{arith}
use Rattle.periods.specs.declared.Period.{Period}
use Rattle.periods.specs.Period.{silence_limit, prospect_limit}

module _ (p : Period) where
  pub silence_limit_lem : 2 * p.frames ≤ silence_limit p
  silence_limit_lem = omega arith

  pub prospect_limit_lem : 2 * p.frames ≤ prospect_limit p
  prospect_limit_lem = omega arith
