-- What one frame of the servers answers.
use Rattle.std.specs.Prelude.{Bool, true, false, not, ◌&&◌, ◌||◌, ◌≡◌, List, ℕ, ◌+◌, ◌*◌, ltb, length, Result, Ok, Err}
use Rattle.lists.specs.Choice.{choose}
use Rattle.lists.specs.Splice.{splice, fits}
use Rattle.refusal.specs.declared.Refusal.{Refusal}
use Rattle.roles.specs.declared.Role.{Role}
use Rattle.roles.specs.declared.Role.TheVariants.{Down, Idle, Sync, Backup, Prospect, Primary}
use Rattle.periods.specs.declared.Period.{Period}
use Rattle.server.specs.declared.Server.{Server}
use Rattle.periods.specs.Period.{silence_limit, prospect_limit, beat_limit}
use Rattle.server.specs.Timers.{aged}
use Rattle.lines.specs.Lines.{longest, place_after}
use Rattle.group.specs.Table.{most}
use Rattle.group.specs.declared.State.{State}
use Rattle.group.specs.Frame.{advanced, frame_lines}
use Rattle.places.specs.Words.{Becomes}
use Rattle.frame.specs.declared.Fared.{Fared}

-- the channel in frame t with the period p, the servers l and the links w
abbrev pub state_of : ℕ → Period → List Server → List Bool → State
state_of t p l w = record { frame = t; period = p; servers = l; whole = w }

-- a call that answers how many bytes it wrote: its verdict, and these; none where it is refused
abbrev pub verdict_of : Result ℕ Refusal → Result (Unit {0}) Refusal
verdict_of (Ok n) = Ok tt
verdict_of (Err k) = Err k

abbrev pub bytes_of : Result ℕ Refusal → ℕ
bytes_of (Ok n) = n
bytes_of (Err k) = 0

-- no frame writes more bytes where no server sent more than n plain beats in the one before: each
-- server hears each of them, a reveal and a pass of every server, and has three timers, each with
-- two lines at the most
abbrev pub frame_bytes : ℕ → ℕ
frame_bytes n = most * (2 * longest * (most * (n + 2)) + 6 * longest)

-- ---- one server

-- some timer that a server has in the role is due in frame t: "A timer set in frame s has age t − s
-- in frame t."
abbrev pub ticks_in : Role → ℕ → Period → Server → Bool
ticks_in Down t p s = false
ticks_in Idle t p s = false
ticks_in Sync t p s = false
ticks_in Backup t p s = aged s.silence (silence_limit p) t
ticks_in Prospect t p s = aged s.beat (beat_limit p) t || aged s.prospect (prospect_limit p) t
ticks_in Primary t p s = aged s.beat (beat_limit p) t

-- ---- a frame

-- the greatest number of 32 bits: a frame of that number has no next
abbrev pub last_frame : ℕ
last_frame = 4294967295

-- a frame of 32 bits that has a next one
abbrev pub has_next : State → Bool
has_next c = ltb c.frame last_frame

-- there is a frame after c, and its lines have room in d from the place `at` on
abbrev pub frame_fits : State → List ℕ → ℕ → Bool
frame_fits c d at = has_next c && fits d at (frame_lines c)

-- The frame after c, whose servers have the numbers w, played where there is one and its lines have
-- room in the lent slice d, and otherwise not: w' are the numbers afterwards, d' the slice. A day
-- is not known here: "16. Advance at frame 2,159,999." is of the calls above
pub record Plays (c : State) (w d : List ℕ) (at : ℕ) (r : Fared) (w' d' : List ℕ) : Type 0 where
  pub full : r.full ≡ not (frame_fits c d at)
  pub words : Becomes w (choose (frame_fits c d at) (advanced c).servers c.servers) w'
  pub place : r.at ≡ choose (frame_fits c d at) (at + length (frame_lines c)) at
  pub slice : d' ≡ choose (frame_fits c d at) (splice d at (frame_lines c)) d
  -- where it is not played, each lent number is as it was
  pub same : r.full ≡ true → w' ≡ w

-- The frame after c, where there is one, its lines only counted: w' are the numbers afterwards, and
-- r the place after the lines, one past the end of d where they do not fit
pub record Counts (c : State) (w d : List ℕ) (at r : ℕ) (w' d' : List ℕ) : Type 0 where
  pub words : Becomes w (choose (has_next c) (advanced c).servers c.servers) w'
  pub place : r ≡ choose (has_next c) (place_after d at (frame_lines c)) at
  pub slice : d' ≡ d
  -- where there is none, each lent number is as it was
  pub same : has_next c ≡ false → w' ≡ w
