use Rattle.lists.proofs.MapLoop.{Mapped}
use Rattle.places.specs.Words.{servers_of, Keeps}
use Rattle.frame.specs.Steps.{clearing}
use Rattle.frame.proofs.clear_all.Given as goal

abbrev pub invariant-loop-j : goal.invariant-loop-j
invariant-loop-j l = Keeps l.initial.words l.words × Mapped clearing (servers_of l.initial.words) 16 l.j (servers_of l.words)
