use lib.ListN.{drop}
use Rattle.lists.proofs.MapLoop.{Mapped}
use Rattle.group.specs.Frame.{turned, turns_lines}
use Rattle.frame.specs.Answers.{state_of}
use Rattle.frame.proofs.Writing.{Toward}
use Rattle.frame.proofs.turned.Given as goal

abbrev pub invariant-loop-j : goal.invariant-loop-j
invariant-loop-j l =
    Mapped (turned (state_of l.before l.period l.fn.servers l.whole) l.frame) l.fn.servers 16 l.j l.next
    × Toward l.wet l.initial.out l.initial.r (turns_lines (state_of l.before l.period l.fn.servers l.whole) l.frame 0 l.fn.servers) l.out l.r (turns_lines (state_of l.before l.period l.fn.servers l.whole) l.frame l.j (drop l.j l.fn.servers))
