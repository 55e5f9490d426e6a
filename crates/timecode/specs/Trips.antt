-- The two round trips. The contract of `Timecode::label` has both laws (`Trips`, below); the proof
-- is `trips` of proofs/Trips.antt.
use Rattle.std.specs.Prelude.{List, [], ◌∷◌, ◌≡◌, ℕ, ◌<◌}
use Rattle.refusal.specs.Answer.{accepted}
use Rattle.timecode.specs.Label.{day_length, label}
use Rattle.timecode.specs.Read.{read_timecode}

-- frame to label to frame, for every frame of the day
abbrev pub FrameReadsBack : Type 0
FrameReadsBack = (t : ℕ) → t < day_length → read_timecode (label t) ≡ accepted (t ∷ [])

-- label to frame to label, for every label accepted; and its frame is one of the day
abbrev pub LabelWritesBack : Type 0
LabelWritesBack = (s : List ℕ) (t : ℕ) → read_timecode s ≡ accepted (t ∷ []) → (label t ≡ s) × (t < day_length)

-- both trips of a timecode
pub record Trips : Type 0 where
  pub frames : FrameReadsBack
  pub labels : LabelWritesBack

-- the label of the frame t, and what holds of all labels written and read
pub record Labels (t : ℕ) (r : List ℕ) : Type 0 where
  pub label : r ≡ label t
  pub trips : Trips
