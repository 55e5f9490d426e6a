-- The two advances, and as many frames as fit.
use Rattle.std.specs.Prelude.{true, false, ◌&&◌, List, [], ◌++◌, ℕ, zero, suc, ◌+◌, ◌-◌, ltb, leb, eqb, length}
use Rattle.lists.specs.Choice.{choose}
use Rattle.timecode.specs.Read.{in_day}
use Rattle.group.specs.declared.State.{State}
use Rattle.group.specs.Outcome.{Outcome}
use Rattle.group.specs.Frame.{advanced, frame_lines}

-- by one frame: "16. Advance at frame 2,159,999." Frames after it, which no call can reach, get 16
-- too: document 01 is silent on them
abbrev pub step_outcome : State → Outcome
step_outcome c = record { number = choose (in_day (c.frame + 1)) 0 16; lines = frame_lines c; channel = advanced c }

-- n frames on: the channel, and the lines of those frames
unfoldable pub advanced_by : ℕ → State → State
advanced_by zero c = c
advanced_by (suc n) c = advanced_by n (advanced c)

unfoldable pub lines_by : ℕ → State → List ℕ
lines_by zero c = []
lines_by (suc n) c = frame_lines c ++ lines_by n (advanced c)

-- all frames up to the frame t; none where it is not after the present one. It knows no end of the
-- day: the calls test that before it, and document 01 is silent on frames after it
abbrev pub time_goes : State → ℕ → Outcome
time_goes c t = record { number = 0; lines = lines_by (t - c.frame) c; channel = advanced_by (t - c.frame) c }

-- "3. A timecode .. outside the day." "11. Time before the present frame."
unfoldable pub time_refusal : State → ℕ → ℕ
time_refusal c t = choose (in_day t) (choose (ltb t c.frame) 11 0) 3

-- to a time: "an accepted one over several frames is as many advances". To the present frame it is
-- accepted and plays none, also at frame 2,159,999
abbrev pub time_outcome : State → ℕ → Outcome
time_outcome c t = record { number = time_refusal c t; lines = lines_by (t - c.frame) c; channel = advanced_by (t - c.frame) c }

-- ---- as many frames as fit. This is none of the listed calls: a day's use of them

-- how many single advances, n at the most, write no more than `room` bytes together
unfoldable pub fitting : ℕ → State → ℕ → ℕ
fitting zero c room = 0
fitting (suc n) c room =
    elim (leb (length (frame_lines c)) room) [ true ↦ suc (fitting n (advanced c) (room - length (frame_lines c))) | false ↦ 0 ]

-- towards the frame t
abbrev pub frames_within : State → ℕ → ℕ → ℕ
frames_within c t room = fitting (t - c.frame) c room

-- "9", where there are frames to go and not even one fits. Like `time_goes` it knows no end of the
-- day
abbrev pub within_goes : State → ℕ → ℕ → Outcome
within_goes c t room =
    record {
      number = choose (ltb c.frame t && eqb (frames_within c t room) 0) 9 0;
      lines = lines_by (frames_within c t room) c;
      channel = advanced_by (frames_within c t room) c;
    }

-- and 3 and 11, as the advance to a time has them
abbrev pub within_outcome : State → ℕ → ℕ → Outcome
within_outcome c t room =
    record {
      number = choose (eqb (time_refusal c t) 0) (within_goes c t room).number (time_refusal c t);
      lines = lines_by (frames_within c t room) c;
      channel = advanced_by (frames_within c t room) c;
    }
