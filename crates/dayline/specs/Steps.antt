-- What private functions answer. Nothing is promised here.
use Rattle.std.specs.Prelude.{List, [], ℕ, eqb, get_or, Option, Some, None}
use Rattle.lists.specs.Choice.{choose}
use Rattle.refusal.specs.Answer.{Answer, accepted, in_turn}
use Rattle.text.specs.Line.{field}
use Rattle.text.specs.Number.{read_number}
use Rattle.timecode.specs.Read.{read_timecode}
use Rattle.heartbeat.specs.Rank.{read_identity}
use Rattle.roles.specs.declared.Verb.{Verb}
use Rattle.periods.specs.Period.{least_period, greatest_period}
use Rattle.roles.specs.Verbs.{paired}
use Rattle.day.specs.Read.{DayLine, wrong, period, server, entry, end, Named, called, unknown, when_good}

-- the verb that a word names, if it does
abbrev pub of_named : Option Verb → Named
of_named (Some v) = called v
of_named None = unknown

-- the line l where k fields are the n that it should have
abbrev pub counted : ℕ → ℕ → DayLine → DayLine
counted k n l = choose (eqb k n) l (wrong 1)

-- what good fields say
abbrev pub period_of : List ℕ → DayLine
period_of vs = period (get_or vs 0 0)

abbrev pub server_of : List ℕ → DayLine
server_of vs = server (get_or vs 0 0) (get_or vs 1 0)

abbrev pub end_of : List ℕ → DayLine
end_of vs = end (get_or vs 0 0)

abbrev pub entry_of : Verb → List ℕ → DayLine
entry_of v vs = entry (get_or vs 0 0) v (get_or vs 1 0) (get_or vs 2 0)

abbrev pub read_period : List ℕ → Answer
read_period s = read_number least_period greatest_period s

-- the second identity, of a verb that has one
abbrev pub read_second : Verb → List ℕ → Answer
read_second v s = choose (paired v) (read_identity s) (accepted [])

-- the fields of an entry: its time, and those after the verb
abbrev pub entry_read : Verb → List ℕ → List ℕ → Answer
entry_read v time s = in_turn (read_timecode time) (in_turn (read_identity (field s 0)) (read_second v (field s 1)))

abbrev pub fields_of : Verb → ℕ
fields_of v = choose (paired v) 4 3

-- an entry of k fields, of which those after the first are s
abbrev pub entry_named : Named → List ℕ → List ℕ → ℕ → DayLine
entry_named unknown time s k = wrong 1
entry_named (called v) time s k = counted k (fields_of v) (when_good (entry_read v time s) (entry_of v))
