use lib.ListN.{drop}
use Rattle.lists.proofs.MapLoop.{Mapped}
use Rattle.places.specs.Words.{servers_of, Keeps}
use Rattle.frame.specs.Steps.{ticked, tick_lines}
use Rattle.frame.proofs.Writing.{Toward}
use Rattle.frame.proofs.tick_all.Given as goal

abbrev pub invariant-loop-j : goal.invariant-loop-j
invariant-loop-j l =
    Keeps l.initial.words l.words
    × (Mapped (ticked l.frame l.period) (servers_of l.initial.words) 16 l.j (servers_of l.words)
    × Toward l.wet l.initial.out l.initial.r (tick_lines l.frame l.period (servers_of l.initial.words)) l.out l.r (tick_lines l.frame l.period (drop l.j (servers_of l.initial.words))))
