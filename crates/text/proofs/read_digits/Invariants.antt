-- The loop's invariant: n is the number that the bytes before x write.
use Rattle.text.proofs.Reading as reading
use Rattle.text.proofs.read_digits.Given as goal

abbrev pub invariant-loop-x : goal.invariant-loop-x
invariant-loop-x l = reading.Begun l.greatest l.s l.n l.x-index
