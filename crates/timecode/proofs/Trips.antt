-- The two round trips of specs/Trips.antt. Assumes nothing.
use mathlib.Core.List.{[], ◌∷◌}
use mathlib.Core.Path.{ap, ◌∙◌}
use Prim.Native.Nat.{ℕ}
use Rattle.lists.proofs.Cases.{chosen}
use Rattle.refusal.specs.Answer.{accepted, refused}
use Rattle.refusal.proofs.Answers.{took}
use Rattle.timecode.specs.Read.{is_label, frame_of, read_timecode}
use Rattle.timecode.specs.Trips.{FrameReadsBack, LabelWritesBack, Trips}
use Rattle.timecode.proofs.Labels.{is-label, label-passes, frame_of_label, label-back, in_day_lem}

-- the label of a frame passes the test and names the frame
pub frame_reads_back : FrameReadsBack
unfolding read_timecode
frame_reads_back t h = chosen (refused 3) (label-passes t h) ∙ ap (λ (f : ℕ). accepted (f ∷ [])) (frame_of_label t h)

-- what is accepted passed the test, and the answer is the frame that it names
pub label_writes_back : LabelWritesBack
unfolding read_timecode
label_writes_back s t e =
    let f = took (is_label s) (frame_of s) 3 e in
    let l = is-label s f.0 in
    (rw f.1 at (label-back s l), rw f.1 at (in_day_lem s l))

pub trips : Trips
trips = record { frames = frame_reads_back; labels = label_writes_back }
