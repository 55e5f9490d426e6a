use mathlib.Core.Path.{ap}
use Prim.Native.Nat.{ℕ, ◌+◌}
use Rattle.frames.proofs.next_beat.Goals as goal

pub returns : goal.returns
returns c = ap (λ (n : ℕ). c.args.s.beat + n) c.beat_limit.ensures
