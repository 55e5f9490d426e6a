-- A day, line by line.
use Rattle.std.specs.Prelude.{true, false, List, [], ◌++◌, ℕ, ◌-◌, ltb, leb, eqb}
use Rattle.lists.specs.Choice.{choose}
use Rattle.roles.specs.declared.Verb.{Verb}
use Rattle.group.specs.declared.State.{State}
use Rattle.group.specs.declared.Table.{Table}
use Rattle.group.specs.Table.{empty, add_refusal, added, fresh_refusal, fresh}
use Rattle.lines.specs.Lines.{line, refused_word}
use Rattle.group.specs.Verbs.{known, verb_outcome}
use Rattle.group.specs.Advance.{advanced_by, lines_by}
use Rattle.day.specs.Read.{DayLine, wrong, period, server, entry, end}

-- which lines have come
pub data Stage : Type 0 where
  atPeriod atServers atEntries atClose : Stage

-- until entries begin, the channel is the fresh channel of the table so far
pub record Day : Type 0 where
  pub stage : Stage
  pub channel : State

abbrev pub begin : Day
begin = record { stage = atPeriod; channel = fresh empty 0 }

-- what a line does: it stops the sheet with a number, or prints and goes on
pub data Effect : Type 0 where
  stop : ℕ → Effect
  go : List ℕ → Day → Effect

abbrev pub on : Stage → State → Day
on g c = record { stage = g; channel = c }

abbrev pub table_of : State → Table
table_of c = record { servers = c.servers }

-- "A day: `period P`; one or more `server ..`; entries ..; `end time` .. is last". "4. A line out
-- of its place"
abbrev pub period_effect : Stage → ℕ → Effect
period_effect atPeriod p = go [] (on atServers (fresh empty p))
period_effect atServers p = stop 4
period_effect atEntries p = stop 4
period_effect atClose p = stop 4

-- 5 and 6: "Identity already in the table.", "A seventeenth server"
unfoldable pub add_effect : State → ℕ → ℕ → Effect
add_effect c i p =
    let n = add_refusal (table_of c) i in
    choose (eqb n 0) (go [] (on atServers (fresh (added (table_of c) i p) c.period.frames))) (stop n)

abbrev pub server_effect : Stage → State → ℕ → ℕ → Effect
server_effect atPeriod c i p = stop 4
server_effect atServers c i p = add_effect c i p
server_effect atEntries c i p = stop 4
server_effect atClose c i p = stop 4

-- "A state refusal prints with the present time and the entry's first identity (identity 0 for
-- `end`) and the day goes on"
abbrev pub refusal : State → ℕ → ℕ → List ℕ
refusal c i n = line c.frame i (refused_word n)

-- the entry's own call, on the channel that has come to its time: "12 to 15 after it". "In a day
-- the refused call is the entry's own: before 12 to 15 the advance to its time is a call by itself
-- and stands, and the sheet line of a refusal is written by a call after it."
unfoldable pub call_effect : List ℕ → State → Verb → ℕ → ℕ → Effect
call_effect w c v a b =
    let o = verb_outcome c v a b in
    elim (eqb o.number 0) [
      | true ↦ go (w ++ o.lines) (on atEntries o.channel)
      | false ↦ go (w ++ refusal c a o.number) (on atEntries c)
    ]

-- 8 is an input refusal, and such a line "advances nothing"; "11 is tested before that advance";
-- "Before an entry it advances to the entry's time"
unfoldable pub entry_effect : State → ℕ → Verb → ℕ → ℕ → Effect
entry_effect c t v a b =
    elim (known c v a b) [
      | true ↦ elim (ltb t c.frame) [
        | true ↦ go (refusal c a 11) (on atEntries c)
        | false ↦ call_effect (lines_by (t - c.frame) c) (advanced_by (t - c.frame) c) v a b
      ]
      | false ↦ stop 8
    ]

-- "`end time`, which advances to that time"; "a day whose `end` was refused still needs one"
unfoldable pub end_effect : State → ℕ → Effect
end_effect c t =
    elim (ltb t c.frame) [
      | true ↦ go (refusal c 0 11) (on atEntries c)
      | false ↦ go (lines_by (t - c.frame) c) (on atClose (advanced_by (t - c.frame) c))
    ]

-- "(but an entry or `end` straight after the lines before the servers is 6)"; "7 .. tested when
-- entries or `end` begin". The period was tested when it was read
unfoldable pub opening : State → Effect → Effect
opening c s = let n = fresh_refusal (table_of c) c.period.frames in elim (eqb n 0) [ true ↦ s | false ↦ stop n ]

abbrev pub in_place : Stage → State → Effect → Effect
in_place atPeriod c s = stop 4
in_place atServers c s = opening c s
in_place atEntries c s = s
in_place atClose c s = stop 4

-- a line, by the lines before it
abbrev pub line_effect : Day → DayLine → Effect
line_effect d (wrong n) = stop n
line_effect d (period p) = period_effect d.stage p
line_effect d (server i p) = server_effect d.stage d.channel i p
line_effect d (entry t v a b) = in_place d.stage d.channel (entry_effect d.channel t v a b)
line_effect d (end t) = in_place d.stage d.channel (end_effect d.channel t)

-- "At most 65,535 lines."
abbrev pub last_line : ℕ
last_line = 65535

-- "4. .. a line beyond 65,535": if it has no fault of form or number
abbrev pub beyond : DayLine → Effect
beyond (wrong n) = stop n
beyond (period p) = stop 4
beyond (server i p) = stop 4
beyond (entry t v a b) = stop 4
beyond (end t) = stop 4

-- line k of the day
unfoldable pub effect_of : ℕ → Day → DayLine → Effect
effect_of k d l = elim (leb k last_line) [ true ↦ line_effect d l | false ↦ beyond l ]
