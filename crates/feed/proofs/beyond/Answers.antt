use Rattle.std.specs.Prelude.{Result}
use mathlib.Core.Path.{◌≡◌, ap, refl, ◌∙◌}
use Rattle.refusal.specs.declared.Refusal.{Refusal}
use Rattle.day.specs.Day.{beyond, stop}
use Rattle.dayline.specs.declared.DayLine.{DayLine}
use Rattle.dayline.specs.declared.DayLine.TheVariants.{Period, Server, Entry, End}
use Rattle.dayline.specs.DayLine.{of_said, of_day_line}
use Rattle.feed.proofs.beyond.Goals as goal

-- whatever is said there
out_of_place : (l : DayLine) → beyond (of_said l) ≡ stop 4
out_of_place (Period p) = refl
out_of_place (Server i p) = refl
out_of_place (Entry t v a b) = refl
out_of_place (End t) = refl

pub returns-in-Ok : goal.returns-in-Ok
returns-in-Ok c = ap (λ (l : Result DayLine Refusal). beyond (of_day_line l)) c.in-Ok.is ∙ out_of_place _

pub returns-in-Err : goal.returns-in-Err
returns-in-Err c = ap (λ (l : Result DayLine Refusal). beyond (of_day_line l)) c.in-Err.is
