use Rattle.std.proofs.lemmas.Result.{err_from_is_err_and}
use mathlib.Core.Path.{ap, ◌∙◌}
use Rattle.timecode.specs.Read.{read_timecode}
use Rattle.dayline.specs.Steps.{end_of}
use Rattle.dayline.proofs.Good.{good, bad}
use Rattle.dayline.proofs.read_end.Goals as goal

pub returns-in_err-time : goal.returns-in_err-time
returns-in_err-time c =
    let p = err_from_is_err_and c.from_residual.result c.from_residual.ensures.1 in
    rw (p.1, p.2) (bad end_of _ (c.in_err-time.ensures ∙ ap read_timecode c.first_field.ensures))

pub returns : goal.returns
returns c = rw c.frame.ensures (good end_of (c.in_ok-time.ensures ∙ ap read_timecode c.first_field.ensures))
