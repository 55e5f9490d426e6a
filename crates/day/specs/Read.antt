-- The lines of a day.
use Rattle.std.specs.Prelude.{true, false, List, [], ◌∷◌, ℕ, eqb, length, take, get_or}
use Rattle.lists.specs.Choice.{choose}
use Rattle.lists.specs.Lists.{same, on_first, up_to}
use Rattle.refusal.specs.Answer.{Answer, accepted, in_turn}
use Rattle.text.specs.Words.{bytes}
use Rattle.text.specs.Number.{read_number}
use Rattle.text.specs.Line.{read_line, fields, field}
use Rattle.timecode.specs.Read.{read_timecode}
use Rattle.heartbeat.specs.Rank.{read_identity, read_priority}
use Rattle.roles.specs.declared.Verb.{Verb}
use Rattle.roles.specs.declared.Verb.TheVariants.{Start, Ready, Unready, Pass, Crash, Restart, Cut, Mend}
use Rattle.periods.specs.Period.{least_period, greatest_period}
use Rattle.roles.specs.Verbs.{paired}

-- a line read: the number that it is refused with, or what it says
pub data DayLine : Type 0 where
  wrong : ℕ → DayLine
  period : ℕ → DayLine
  server : ℕ → ℕ → DayLine
  entry : ℕ → Verb → ℕ → ℕ → DayLine
  end : ℕ → DayLine

-- a field that may be a verb
pub data Named : Type 0 where
  called : Verb → Named
  unknown : Named

-- the lines of the input, each with its line feed; the last may lack it
unfoldable pub lines_in : List ℕ → List (List ℕ)
lines_in [] = []
lines_in (x ∷ s) = elim (eqb x 10) [ true ↦ (x ∷ []) ∷ lines_in s | false ↦ on_first x (lines_in s) ]

-- what a line says where its fields have the answer a; else its first fault: "Fields are tested
-- left to right for 2 and 3"
unfoldable pub when_good : Answer → (List ℕ → DayLine) → DayLine
when_good a f = choose (eqb a.number 0) (f a.values) (wrong a.number)

-- "1. Line form: .. wrong count of fields"
unfoldable pub having : ℕ → List ℕ → DayLine → DayLine
having n s l = choose (eqb (length (fields s)) n) l (wrong 1)

-- "`period P`"
abbrev pub period_line : List ℕ → DayLine
period_line s = having 2 s (when_good (read_number least_period greatest_period (field s 1)) (λ vs. period (get_or vs 0 0)))

-- "`server identity priority`"
abbrev pub server_line : List ℕ → DayLine
server_line s = having 3 s (when_good (in_turn (read_identity (field s 1)) (read_priority (field s 2))) (λ vs. server (get_or vs 0 0) (get_or vs 1 0)))

-- "`end time`"
abbrev pub end_line : List ℕ → DayLine
end_line s = having 2 s (when_good (read_timecode (field s 1)) (λ vs. end (get_or vs 0 0)))

unfoldable pub verb_named : List ℕ → Named
verb_named s =
    choose (same s (bytes "start")) (called Start)
    (choose (same s (bytes "ready")) (called Ready)
    (choose (same s (bytes "unready")) (called Unready)
    (choose (same s (bytes "pass")) (called Pass)
    (choose (same s (bytes "crash")) (called Crash)
    (choose (same s (bytes "restart")) (called Restart)
    (choose (same s (bytes "cut")) (called Cut)
    (choose (same s (bytes "mend")) (called Mend) unknown)))))))

-- "entries `time verb identity [identity]`"
abbrev pub entry_fields : Verb → List ℕ → Answer
entry_fields v s = in_turn (read_timecode (field s 0)) (in_turn (read_identity (field s 2)) (choose (paired v) (read_identity (field s 3)) (accepted [])))

-- "1. Line form: unknown word"
abbrev pub entry_line : Named → List ℕ → DayLine
entry_line unknown s = wrong 1
entry_line (called v) s =
    having (choose (paired v) 4 3) s (when_good (entry_fields v s) (λ vs. entry (get_or vs 0 0) v (get_or vs 1 0) (get_or vs 2 0)))

-- a first field `period`, `server` or `end` makes the line what it is; any other line is an entry
unfoldable pub body_read : List ℕ → DayLine
body_read s =
    choose (same (field s 0) (bytes "period")) (period_line s)
    (choose (same (field s 0) (bytes "server")) (server_line s)
    (choose (same (field s 0) (bytes "end")) (end_line s) (entry_line (verb_named (field s 1)) s)))

-- "1. Line form: .. too long, no line feed." Otherwise what stands before the line feed decides
unfoldable pub line_read : List ℕ → DayLine
line_read l = elim (eqb (read_line l).number 0) [ true ↦ body_read (take (up_to 10 l) l) | false ↦ wrong 1 ]
