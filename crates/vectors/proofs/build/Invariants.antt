-- The loop's invariant: the head stands there, and as many bodies as turns were made.
use Rattle.std.proofs.Common.{◌++◌, Ok}
use Rattle.text.specs.Steps.{Pieces}
use Rattle.vectors.specs.Days.{times}
use Rattle.vectors.proofs.build.Given as goal

abbrev pub invariant-loop : goal.invariant-loop
invariant-loop l = Pieces l.fn.day 0 (l.head ++ times l.counter l.body) (Ok l.at) l.day
