-- Two labels read: the last frame of the day, and a label one past it. Assumes nothing.
use mathlib.Core.List.{[], ◌∷◌}
use mathlib.Core.Path.{◌≡◌, refl}
use Rattle.lists.specs.Choice.{choose}
use Rattle.refusal.specs.Answer.{accepted, refused}
use Rattle.text.specs.Words.{bytes}
use Rattle.timecode.specs.Read.{two_below, is_label, frame_of, read_timecode}

pub last_frame_lem : read_timecode (bytes "23:59:59:24") ≡ accepted (2159999 ∷ [])
unfolding read_timecode choose is_label two_below frame_of
last_frame_lem = refl

pub past_the_last : read_timecode (bytes "23:59:59:25") ≡ refused 3
unfolding read_timecode choose is_label two_below
past_the_last = refl
