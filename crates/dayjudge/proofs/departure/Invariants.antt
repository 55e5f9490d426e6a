-- The loop's invariant: what is still to come of both gives what both give.
use lib.ListN.{drop}
use Rattle.judge.specs.Answers.{judging_of}
use Rattle.judging.proofs.Laws.{to_come}
use Rattle.dayjudge.proofs.Turning.{Rests}
use Rattle.dayjudge.proofs.departure.Given as goal

abbrev pub invariant-loop-due : goal.invariant-loop-due
invariant-loop-due l = Rests l.day l.sheet (judging_of l.judge l.line l.words l.whole l.due) l.i l.j

abbrev pub decreases-loop-due : goal.decreases-loop-due
decreases-loop-due l = to_come (judging_of l.judge l.line l.words l.whole l.due) (drop l.i l.day) (drop l.j l.sheet)
