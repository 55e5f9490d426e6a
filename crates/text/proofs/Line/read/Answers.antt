use mathlib.Core.Path.{sym}
use Prim.Native.Nat.{suc}
use lib.Dec.{leb}
use native.Mathlib.Omega.{arith}
use borrow.Author.Tests.{le-leb, lt-leb, eq-eqb, ne_eqb}
use Rattle.lists.proofs.Cases.{chosen, other, and_true, and_left, and_right}
use Rattle.text.specs.Line.{read_line}
use Rattle.text.proofs.Line.read.Goals as goal

pub returns-then-n-gt-LIMIT : goal.returns-then-n-gt-LIMIT
unfolding read_line
returns-then-n-gt-LIMIT c =
    let f = c.find-n in
    rw (← f.ensures) (sym (other _ (and_left _ (lt-leb f.result 64 c.if-n-gt-LIMIT.true))))

pub returns-then-n-s : goal.returns-then-n-s
unfolding read_line
returns-then-n-s c =
    let f = c.find-n in
    rw (← f.ensures) (sym (chosen _ (and_true (le-leb f.result 64 c.if-n-gt-LIMIT.false) (eq-eqb (suc f.result) _ (omega arith)))))

pub returns-else-n-s : goal.returns-else-n-s
unfolding read_line
returns-else-n-s c =
    let f = c.find-n in
    rw (← f.ensures) (sym (other _ (and_right (leb f.result 64) (ne_eqb (suc f.result) _ (λ e. c.if-n-s.false (omega arith))))))
