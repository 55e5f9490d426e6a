-- A label read, and a frame taken as one of the day.
use Rattle.std.specs.Prelude.{Bool, ◌&&◌, List, [], ◌∷◌, ℕ, suc, ◌+◌, ◌-◌, ◌*◌, ltb, eqb, length, get_or, Result, Ok, Err}
use Rattle.lists.specs.Choice.{choose}
use Rattle.refusal.specs.Answer.{Answer, accepted, refused, number_of}
use Rattle.text.specs.Number.{is_digit}
use Rattle.timecode.specs.Label.{rate, day_length}
use Rattle.refusal.specs.declared.Refusal.{Refusal}
use Rattle.timecode.specs.declared.Timecode.{Timecode}

-- the number and the values of the answer: the frame
abbrev pub of_timecode : Result Timecode Refusal → Answer
of_timecode (Ok t) = accepted (t.frame ∷ [])
of_timecode (Err r) = refused (number_of r)

-- the frame is one of the day
abbrev pub in_day : ℕ → Bool
in_day t = ltb t day_length

-- "3. A timecode .. outside the day."
unfoldable pub take_frame : ℕ → Answer
take_frame t = choose (in_day t) (accepted (t ∷ [])) (refused 3)

-- the number of the two digits at place k
abbrev pub two_at : List ℕ → ℕ → ℕ
two_at s k = (get_or s k 0 - 48) * 10 + (get_or s (suc k) 0 - 48)

-- two digits stand at place k, and their number is below m
unfoldable pub two_below : List ℕ → ℕ → ℕ → Bool
two_below s k m = is_digit (get_or s k 0) && (is_digit (get_or s (suc k) 0) && ltb (two_at s k) m)

-- a colon at place k
abbrev pub colon_at : List ℕ → ℕ → Bool
colon_at s k = eqb (get_or s k 0) 58

-- "Timecode is HH:MM:SS:FF, two digits each", to 23:59:59:24
unfoldable pub is_label : List ℕ → Bool
is_label s =
    eqb (length s) 11
    && ((colon_at s 2 && (colon_at s 5 && colon_at s 8)) && (two_below s 0 24 && (two_below s 3 60 && (two_below s 6 60 && two_below s 9 rate))))

-- the frame that a label names
unfoldable pub frame_of : List ℕ → ℕ
frame_of s = ((two_at s 0 * 60 + two_at s 3) * 60 + two_at s 6) * rate + two_at s 9

-- "3. A timecode badly written or outside the day."
unfoldable pub read_timecode : List ℕ → Answer
read_timecode s = choose (is_label s) (accepted (frame_of s ∷ [])) (refused 3)
