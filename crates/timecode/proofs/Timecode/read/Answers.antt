use mathlib.Core.Path.{◌∙◌, sym}
use Rattle.lists.proofs.Cases.{chosen, other}
use Rattle.timecode.specs.Read.{read_timecode}
use Rattle.timecode.proofs.Labels.{is-label}
use Rattle.timecode.proofs.Timecode.read.Goals as goal

pub frame_of-requires : goal.frame_of-requires
frame_of-requires c = is-label _ (sym c.is_label.ensures ∙ c.if-is_label.true)

pub returns-then-is_label : goal.returns-then-is_label
unfolding read_timecode
returns-then-is_label c = rw c.frame_of.ensures (sym (chosen _ (sym c.is_label.ensures ∙ c.if-is_label.true)))

pub returns-else-is_label : goal.returns-else-is_label
unfolding read_timecode
returns-else-is_label c = sym (other _ (sym c.is_label.ensures ∙ c.if-is_label.false))
