use mathlib.Core.Path.{sym, ap, ◌∙◌}
use lib.Seq.{length-take-le}
use Rattle.day.specs.Read.{line_read}
use Rattle.feeding.proofs.Taking.{held-take}
use Rattle.feed.proofs.read.Goals as goal

pub slice_bounds-read-end : goal.slice_bounds-read-end
slice_bounds-read-end c = let a = c.args in sym (length-take-le c.present-end.result a.line.now (held-take a.line.now a.n c.present-end.ensures).0)

pub returns : goal.returns
returns c = let a = c.args in c.read.ensures ∙ ap line_read (held-take a.line.now a.n c.present-end.ensures).2
