-- What a feed does next: what it prints, and what is known then.
use Rattle.std.specs.Prelude.{true, List, [], ◌∷◌, ◌++◌, ℕ, ◌+◌, ◌-◌, leb, eqb, length}
use Rattle.lists.specs.Choice.{choose}
use Rattle.group.specs.declared.State.{State}
use Rattle.group.specs.Table.{fresh_refusal}
use Rattle.group.specs.Verbs.{known}
use Rattle.group.specs.Advance.{advanced_by, lines_by, fitting}
use Rattle.day.specs.Read.{DayLine, wrong, period, server, entry, end, line_read}
use Rattle.day.specs.Day.{Stage, atPeriod, atServers, atEntries, atClose, Day, Effect, stop, go, on, table_of, line_effect, last_line, beyond}
use Rattle.day.specs.Sheet.{input_refusal, finish}
use Rattle.feeding.specs.Fed.{Fed, closed, waits}

pub record Move : Type 0 where
  pub lines : List ℕ
  pub fed : Fed

abbrev pub nothing : Fed → Move
nothing f = record { lines = []; fed = f }

abbrev pub ended : Fed → Fed
ended f = record { over = true; number = f.number; line = f.line; day = f.day }

-- ---- a line that is done

-- the day e, and the next line
abbrev pub next_line : Fed → Day → Fed
next_line f e = record { over = f.over; number = f.number + 1; line = []; day = e }

abbrev pub stopping : Fed → ℕ → Move
stopping f n = record { lines = input_refusal f.number n; fed = ended f }

abbrev pub going : Fed → List ℕ → Day → Move
going f w e = record { lines = w; fed = next_line f e }

abbrev pub effect_move : Fed → Effect → Move
effect_move f (stop n) = stopping f n
effect_move f (go w e) = going f w e

-- ---- frames that come before a line is done

-- what an entry or `end` gets by its place; 0 where it is in place
unfoldable pub place_refusal : Stage → State → ℕ
place_refusal atPeriod c = 4
place_refusal atServers c = fresh_refusal (table_of c) c.period.frames
place_refusal atEntries c = 0
place_refusal atClose c = 4

-- the frames up to the time of a line in place; a line that gets 8 is stopped before the advance
abbrev pub frames_due : State → DayLine → ℕ
frames_due c (wrong n) = 0
frames_due c (period p) = 0
frames_due c (server i p) = 0
frames_due c (entry t v a b) = choose (known c v a b) (t - c.frame) 0
frames_due c (end t) = t - c.frame

unfoldable pub due_frames : Day → DayLine → ℕ
due_frames d l = choose (eqb (place_refusal d.stage d.channel) 0) (frames_due d.channel l) 0

-- of n frames as many as fit into so many bytes, and one at least
unfoldable pub frames_now : State → ℕ → ℕ → ℕ
frames_now c n room = choose (eqb (fitting n c room) 0) 1 (fitting n c room)

-- k frames more; the line is kept
abbrev pub advancing : Fed → State → ℕ → Move
advancing f c k =
    record {
      lines = lines_by k c;
      fed = record { over = f.over; number = f.number; line = f.line; day = on atEntries (advanced_by k c) };
    }

-- ---- a step

-- a line of the first 65,535, in so many bytes
unfoldable pub placed_move : Fed → ℕ → DayLine → Move
placed_move f room l =
    let n = due_frames f.day l in
    choose (eqb n 0) (effect_move f (line_effect f.day l)) (advancing f f.day.channel (frames_now f.day.channel n room))

unfoldable pub line_move : Fed → ℕ → DayLine → Move
line_move f room l = choose (leb f.number last_line) (placed_move f room l) (effect_move f (beyond l))

unfoldable pub step_move : Fed → ℕ → Move
step_move f room = choose (waits f) (line_move f room (line_read f.line)) (nothing f)

-- the moves m and n, one after the other, where the lines of both fit into so many bytes; else m
unfoldable pub both : Move → Move → ℕ → Move
both m n room = choose (leb (length (m.lines ++ n.lines)) room) (record { lines = m.lines ++ n.lines; fed = n.fed }) m

-- two steps: the frames before a line, and the line
abbrev pub steps_move : Fed → ℕ → Move
steps_move f room = both (step_move f room) (step_move (step_move f room).fed (room - length (step_move f room).lines)) room

-- ---- the end of the input

-- "1. .. no line feed", or 4 where `end` is missing
abbrev pub last_lines : ℕ → Stage → List ℕ → List ℕ
last_lines k g [] = finish k g
last_lines k g (x ∷ l) = input_refusal k 1

-- where a whole line waits it is to be done first
unfoldable pub last_move : Fed → Move
last_move f = choose (closed f) (nothing f) (record { lines = last_lines f.number f.day.stage f.line; fed = ended f })
