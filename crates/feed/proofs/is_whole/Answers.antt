use mathlib.Core.Path.{sym, ◌∙◌}
use native.Mathlib.Omega.{arith}
use Rattle.feeding.proofs.Taking.{whole_long, whole-empty, held-take, whole-at}
use Rattle.feed.proofs.is_whole.Goals as goal

pub returns-then-m-ge-LINE : goal.returns-then-m-ge-LINE
returns-then-m-ge-LINE c = sym (whole_long _ (omega (arith, c.present-m.ensures, c.if-m-ge-LINE.true)))

pub returns-then-m-eq0 : goal.returns-then-m-eq0
returns-then-m-eq0 c = sym (whole-empty _ (sym c.present-m.ensures ∙ c.if-m-eq0.true))

pub bounds-line-m : goal.bounds-line-m
bounds-line-m c = let a = c.args in omega (arith, (held-take a.line.now a.n c.present-m.ensures).0)

pub returns : goal.returns
returns c = let a = c.args in sym (whole-at a.line.now a.n c.present-m.ensures (omega arith) (omega arith))
