-- The lines of the sheet that calls write.
use Rattle.std.specs.Prelude.{Bool, ◌&&◌, ◌≡◌, List, [], ◌++◌, ℕ, ◌+◌, length}
use Rattle.lists.specs.Choice.{choose}
use Rattle.lists.specs.Splice.{splice, fits}
use Rattle.refusal.specs.declared.Refusal.{Refusal}
use Rattle.refusal.specs.Answer.{number_of}
use Rattle.text.specs.Words.{bytes}
use Rattle.text.specs.Digits.{digits}
use Rattle.timecode.specs.Label.{label}
use Rattle.roles.specs.declared.Said.{Said}
use Rattle.roles.specs.declared.Said.TheVariants as says
use Rattle.roles.specs.Words.{word_bytes}

-- "Each further line has the timecode, the identity, and a word"
unfoldable pub line : ℕ → ℕ → List ℕ → List ℕ
line t i w = label t ++ (bytes "\t" ++ (digits i ++ (bytes "\t" ++ (w ++ bytes "\n"))))

-- what stands after the identity
abbrev pub line_end : List ℕ → List ℕ
line_end w = bytes "\t" ++ (w ++ bytes "\n")

-- the lines of what happened to server i in frame t
unfoldable pub lines_of : ℕ → ℕ → Said → List ℕ
lines_of t i says.Nothing = []
lines_of t i (says.One w) = line t i (word_bytes w)
lines_of t i (says.Two v w) = line t i (word_bytes v) ++ line t i (word_bytes w)

-- no line of an event has more bytes: timecode, tab, five digits, tab, `prospect`, line feed. The
-- proof is `line-most` of the crate frame
abbrev pub longest : ℕ
longest = 27

-- "`refused-` and the number"
abbrev pub refused_word : ℕ → List ℕ
refused_word n = bytes "refused-" ++ digits n

-- "the sheet line of a refusal": of a call of server i in frame t. An input refusal has a line of
-- another form (`input_refusal` of the crate day); on this one with such a number document 01 is silent
abbrev pub refused_line : ℕ → ℕ → Refusal → List ℕ
refused_line t i r = line t i (refused_word (number_of r))

-- the place after w in the slice d; one past its end where w does not fit
unfoldable pub place_after : List ℕ → ℕ → List ℕ → ℕ
place_after d at w = choose (fits d at w) (at + length w) (length d + 1)

-- Lines w said at a place of the lent slice d: r is the place after them, d' the slice afterwards.
-- They are written if wet is set, and if they fit; otherwise no byte is changed
pub record Says (wet : Bool) (d : List ℕ) (at : ℕ) (w : List ℕ) (r : ℕ) (d' : List ℕ) : Type 0 where
  pub place : r ≡ place_after d at w
  pub slice : d' ≡ choose (wet && fits d at w) (splice d at w) d
