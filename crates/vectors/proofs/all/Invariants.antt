use Rattle.std.proofs.Common.{◌≡◌, length}
use Rattle.vectors.specs.Tally.{Counted}
use Rattle.vectors.proofs.all.Given as goal

abbrev pub invariant-loop-k : goal.invariant-loop-k
invariant-loop-k g l =
    Counted (length l.file) l.k l.tally × ((length l.day ≡ length l.initial.day) × (length l.out ≡ length l.initial.out))
