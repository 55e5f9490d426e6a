-- How long a heartbeat's line is. Assumes nothing.
use mathlib.Core.Path.{◌≡◌}
use Prim.Native.Nat.{ℕ, ◌+◌}
use native.Mathlib.Omega.{arith}
use lib.ListN.{length, length-append}
use Rattle.lists.proofs.Cases.{bit-small}
use Rattle.text.specs.Digits.{digits}
use Rattle.text.proofs.Digits.{length-one}
use Rattle.heartbeat.specs.declared.Heartbeat.{Heartbeat}
use Rattle.heartbeat.specs.Heartbeat.{is_set, reveal_written, heartbeat_line}

reveal_one : (n : ℕ) → length (digits (reveal_written n)) ≡ 1
reveal_one n = length-one _ (omega (arith, bit-small (is_set n)))

pub line-long :
    (h : Heartbeat) → length (heartbeat_line h) ≡ length (digits h.bs) + length (digits h.priority) + length (digits h.tiebreaker) + 5
unfolding heartbeat_line
line-long h = simp length-append (omega (arith, reveal_one h.reveal))
