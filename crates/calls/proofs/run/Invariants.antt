use Rattle.channel.specs.Answers.{state}
use Prim.Native.Nat.{◌/◌, ◌≤◌}
use lib.ListN.{length}
use Rattle.calls.proofs.Going.{Going}
use Rattle.calls.proofs.run.Given as goal

abbrev pub invariant-loop-k : goal.invariant-loop-k
invariant-loop-k l = (length l.calls / 2 ≤ length l.initial.numbers) × Going (state l.initial.now) l.calls l.initial.out l.initial.numbers l.out l.numbers (state l.now) l.k
