use mathlib.Core.Bool.{Bool, not}
use mathlib.Core.Path.{refl, sym, ap, ◌∙◌}
use Prim.Native.Nat.{◌<◌}
use native.Mathlib.Omega.{arith}
use lib.ListN.{length}
use Rattle.std.specs.Bool.{then_some}
use Rattle.std.proofs.Common.{◌≡◌}
use Rattle.std.proofs.lemmas.Grind.{common_steps}
use Rattle.feed.specs.declared.Feed.{Feed}
use Rattle.feed.specs.Answers.{fed_of}
use Rattle.printer.proofs.Turning.{none-taken, taken-within}
use Rattle.printer.proofs.Printing.{line-none}
use Rattle.printer.proofs.Leaving.{leaves_as}
use Rattle.printer.proofs.Making.{step-goes, step-leaves, step-same, some_goes, clash_with, turns-step, turns-end, turns-taken}
use Rattle.printer.proofs.turn.Goals as goal

pub returns-then-waits : goal.returns-then-waits
returns-then-waits c =
    let a = c.args in
    let f = fed_of a.feed a.line.now a.words.now a.whole.now in
    let t = c.steps-step in
    let q = t.ensures in
    let s = c.stepped.ensures in
    let e = sym (c.waits.ensures a.words.now a.whole.now) ∙ c.if-waits.true in
    let g = λ (x : Feed). fed_of x a.line.now t.new.words t.new.whole in
    record {
      turns = turns-step e (step-goes s g q.makes);
      leaves = step-leaves s g (leaves_as q.makes.fed q.leaves);
      line = sym (line-none f a.piece.now a.line.now (none-taken f a.piece.now e));
      same = step-same s (λ n z. (q.same n z).1);
    }

pub returns-then-is_empty : goal.returns-then-is_empty
returns-then-is_empty c =
    let a = c.args in
    let f = fed_of a.feed a.line.now a.words.now a.whole.now in
    let q = c.end.ensures a.words.now a.whole.now in
    let z : length a.piece.now ≡ 0 = grind (arith, common_steps, c.is_empty.ensures, c.if-is_empty.true) in
    record {
      turns = turns-end (sym (c.waits.ensures a.words.now a.whole.now) ∙ c.if-waits.false) z q.move;
      leaves = q.leaves;
      line = sym (line-none f a.piece.now a.line.now (omega (arith, taken-within f a.piece.now)));
      same = λ n e. refl;
    }

pub returns : goal.returns
returns c =
    let a = c.args in
    let f = fed_of a.feed a.line.now a.words.now a.whole.now in
    let q = c.take-taken.ensures a.words.now a.whole.now in
    let some : 0 < length a.piece.now = grind (arith, common_steps, c.is_empty.ensures, c.if-is_empty.false) in
    record {
      turns =
          turns-taken (sym (c.waits.ensures a.words.now a.whole.now) ∙ c.if-waits.false) (λ z. omega arith) q.takes
          (some_goes (not f.over) (c.then_some-wrote.ensures ∙ ap (λ (b : Bool). then_some (not b) 0) (c.over.ensures a.line.now a.words.now a.whole.now))) refl;
      leaves = leaves_as q.takes.fed q.leaves;
      line = q.line;
      same = λ n e. clash_with e;
    }
