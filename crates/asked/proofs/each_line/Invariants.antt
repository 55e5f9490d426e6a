use Rattle.std.proofs.Common.{length}
use Rattle.asked.proofs.each_line.Given as goal

abbrev pub decreases-loop-tail : goal.decreases-loop-tail
decreases-loop-tail g l = length l.tail
