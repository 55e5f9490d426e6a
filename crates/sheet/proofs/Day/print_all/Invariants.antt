use Rattle.std.proofs.Common.{◌≤◌, length}
use Rattle.sheet.proofs.Day.print_all.Given as goal

abbrev pub invariant-loop : goal.invariant-loop
invariant-loop g l = l.used ≤ length l.piece
