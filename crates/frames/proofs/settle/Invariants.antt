use Rattle.lists.proofs.MapLoop.{Mapped}
use Rattle.places.specs.Words.{servers_of, Keeps}
use Rattle.frames.specs.Steps.{pulsed}
use Rattle.frames.proofs.settle.Given as goal

abbrev pub invariant-loop-i : goal.invariant-loop-i
invariant-loop-i l = Keeps l.initial.words l.words × Mapped (pulsed l.b l.last) (servers_of l.initial.words) 16 l.i (servers_of l.words)
