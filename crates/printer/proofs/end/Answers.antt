use mathlib.Core.List.{[]}
use mathlib.Core.Bool.{not, ◌||◌}
use mathlib.Core.Path.{refl, sym, ap, ◌∙◌}
use Rattle.feed.specs.declared.Feed.{Feed}
use Rattle.feed.specs.Answers.{fed_of}
use Rattle.printer.proofs.Leaving.{leaves_none, leaves_as}
use Rattle.printer.proofs.Making.{step-goes, step-leaves, ends-none, ends_so}
use Rattle.printer.proofs.end.Goals as goal

pub returns-then-last-over : goal.returns-then-last-over
returns-then-last-over c w k = let a = c.args in record { move = ends-none a.last (sym (ap (λ b. not a.last || b) (c.over.ensures [] w k)) ∙ c.if-last-over.true) refl refl; leaves = leaves_none a.line.now }

pub returns : goal.returns
returns c w k =
    let a = c.args in
    let q = c.finish-step.ensures w k in
    let s = c.stepped.ensures in
    record {
      move = ends_so a.last (sym (ap (λ b. not a.last || b) (c.over.ensures [] w k)) ∙ c.if-last-over.false) (step-goes s (λ (x : Feed). fed_of x a.line.now w k) q.makes);
      leaves = step-leaves s (λ (x : Feed). fed_of x a.line.now w k) (leaves_as q.makes.fed q.leaves);
    }
