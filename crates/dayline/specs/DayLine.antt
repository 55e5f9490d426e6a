-- The code's answer, as the definitions have it.
use Rattle.std.specs.Prelude.{Result, Ok, Err}
use Rattle.refusal.specs.Answer.{number_of}
use Rattle.refusal.specs.declared.Refusal.{Refusal}
use Rattle.day.specs.Read.{DayLine as Line, wrong, period, server, entry, end}
use Rattle.dayline.specs.declared.DayLine.{DayLine}
use Rattle.dayline.specs.declared.DayLine.TheVariants.{Period, Server, Entry, End}

-- what a line says
abbrev pub of_said : DayLine → Line
of_said (Period p) = period p
of_said (Server i p) = server i p
of_said (Entry t v a b) = entry t v a b
of_said (End t) = end t

-- the same of a line read, or the number of its refusal
abbrev pub of_day_line : Result DayLine Refusal → Line
of_day_line (Ok l) = of_said l
of_day_line (Err k) = wrong (number_of k)
