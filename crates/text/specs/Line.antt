-- Lines and their fields.
use Rattle.std.specs.Prelude.{◌&&◌, List, [], ◌∷◌, ℕ, suc, leb, eqb, length, get_or, drop, Result, Ok, Err}
use Rattle.lists.specs.Choice.{choose}
use Rattle.lists.specs.Lists.{split_on, up_to}
use Rattle.refusal.specs.Answer.{Answer, accepted, refused, number_of}
use Rattle.refusal.specs.declared.Refusal.{Refusal}
use Rattle.text.specs.declared.Line.{Line}

-- the number and the values of the answer: how many bytes stand before the line feed
abbrev pub of_line : Result Line Refusal → Answer
of_line (Ok l) = accepted (l.length ∷ [])
of_line (Err r) = refused (number_of r)

-- "at most 64 bytes without it"
abbrev pub line_limit : ℕ
line_limit = 64

-- "each line ends in a line feed and has at most 64 bytes without it"; "1. Line form: .. too long,
-- no line feed." The slice is exactly one line: its first line feed is its last byte
unfoldable pub read_line : List ℕ → Answer
read_line s = choose (leb (up_to 10 s) line_limit && eqb (suc (up_to 10 s)) (length s)) (accepted (up_to 10 s ∷ [])) (refused 1)

-- "Fields are parted by one tab"
abbrev pub fields : List ℕ → List (List ℕ)
fields s = split_on 9 s

-- field k, the first being 0; no byte where there are not so many
abbrev pub field : List ℕ → ℕ → List ℕ
field s k = get_or (fields s) k []

-- the bytes after the first tab; none where there is no tab
abbrev pub after_field : List ℕ → List ℕ
after_field s = drop (suc (up_to 9 s)) s
