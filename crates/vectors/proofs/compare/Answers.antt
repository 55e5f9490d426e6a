use Rattle.std.proofs.Common.{not, ap}
use Rattle.vectors.proofs.Comparing.{length_differs, bytes-differ, all_same, check_differs}
use Rattle.vectors.proofs.compare.Goals as goal

pub returns-then-sheet-long : goal.returns-then-sheet-long
returns-then-sheet-long c = length_differs _ _ _ _ c.if-sheet-long.true

pub returns-then-not-shown-same : goal.returns-then-not-shown-same
returns-then-not-shown-same c = bytes-differ _ _ _ _ c.if-sheet-long.false c.same.ensures (ap not c.if-not-shown-same.true)

pub returns-then-check-number : goal.returns-then-check-number
returns-then-check-number c =
    all_same _ _ _ _ c.if-sheet-long.false c.same.ensures (ap not c.if-not-shown-same.false) c.check.ensures c.if-check-number.true

pub returns-else-check-number : goal.returns-else-check-number
returns-else-check-number c =
    check_differs _ _ _ _ c.if-sheet-long.false c.same.ensures (ap not c.if-not-shown-same.false) c.check.ensures c.if-check-number.false
