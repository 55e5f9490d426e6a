-- Frames and their labels.
use Rattle.std.specs.Prelude.{List, [], ◌∷◌, ◌++◌, ℕ, ◌+◌, ◌*◌, ◌/◌, ◌%◌}
use Rattle.text.specs.Words.{bytes}

-- "A frame is one tick at 25 a second."
abbrev pub rate : ℕ
rate = 25

-- "00:00:00:00 (frame 0) to 23:59:59:24 (frame 2,159,999)": how many frames a day has
abbrev pub day_length : ℕ
day_length = 24 * 60 * 60 * rate

-- the last two digits of n
abbrev pub two : ℕ → List ℕ
two n = (48 + n / 10 % 10) ∷ (48 + n % 10) ∷ []

-- "Timecode is HH:MM:SS:FF, two digits each". A frame outside the day has the last two digits of
-- its hours: document 01 names no label for it
unfoldable pub label : ℕ → List ℕ
label t =
    two (t / (60 * 60 * rate)) ++ (bytes ":" ++ (two (t / (60 * rate) % 60) ++ (bytes ":" ++ (two (t / rate % 60) ++ (bytes ":" ++ two (t % rate))))))
