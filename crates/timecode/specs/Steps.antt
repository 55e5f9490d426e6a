-- What private functions answer. Nothing is promised here.
use Rattle.std.specs.Prelude.{Bool, ◌&&◌, List, ◌≡◌, ℕ, ◌+◌, ◌/◌, ◌%◌, ◌<◌, ◌≤◌, length, get_or}
use Rattle.text.specs.Digits.{last_digit}
use Rattle.timecode.specs.Label.{rate}
use Rattle.timecode.specs.Read.{two_at, two_below, colon_at}

-- a colon after the hours, the minutes and the seconds
abbrev pub has_colons : List ℕ → Bool
has_colons s = colon_at s 2 && (colon_at s 5 && colon_at s 8)

-- hours, minutes, seconds and frames, each within its range
abbrev pub in_range : List ℕ → Bool
in_range s = two_below s 0 24 && (two_below s 3 60 && (two_below s 6 60 && two_below s 9 rate))

-- r is the two digits of n in two bytes, the first of them the lower
pub record Pair (n r : ℕ) : Type 0 where
  pub tens : r % 256 ≡ last_digit (n / 10)
  pub ones : r / 256 ≡ last_digit n

-- x is one of the bytes 0 to 9
pub record Digit (x : ℕ) : Type 0 where
  pub low : 48 ≤ x
  pub high : x ≤ 57

-- two digits stand at place k
pub record Digits (s : List ℕ) (k : ℕ) : Type 0 where
  pub within : k + 1 < length s
  pub tens : Digit (get_or s k 0)
  pub ones : Digit (get_or s (k + 1) 0)

-- their number is below m
pub record Below (s : List ℕ) (k m : ℕ) : Type 0 where
  pub digits : Digits s k
  pub below : two_at s k < m

-- what is_label tests, as facts
pub record IsLabel (s : List ℕ) : Type 0 where
  pub long : length s ≡ 11
  pub colon₁ : get_or s 2 0 ≡ 58
  pub colon₂ : get_or s 5 0 ≡ 58
  pub colon₃ : get_or s 8 0 ≡ 58
  pub hours : Below s 0 24
  pub minutes : Below s 3 60
  pub seconds : Below s 6 60
  pub frames : Below s 9 rate
