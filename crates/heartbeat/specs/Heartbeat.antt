-- The message, read from a line and written as one.
use Rattle.std.specs.Prelude.{Bool, not, List, [], ◌∷◌, ◌++◌, ℕ, eqb, length, take, Result, Ok, Err}
use Rattle.lists.specs.Choice.{choose}
use Rattle.lists.specs.Lists.{up_to}
use Rattle.refusal.specs.Answer.{Answer, accepted, refused, in_turn, number_of}
use Rattle.text.specs.Words.{bytes}
use Rattle.text.specs.Digits.{digits}
use Rattle.text.specs.Number.{read_number}
use Rattle.text.specs.Line.{read_line, fields, field}
use Rattle.heartbeat.specs.Rank.{read_identity, read_priority}
use Rattle.heartbeat.specs.declared.Heartbeat.{Heartbeat}
use Rattle.heartbeat.specs.declared.Rank.{Rank}
use Rattle.refusal.specs.declared.Refusal.{Refusal}

-- the number and the values of the answer: the four fields
abbrev pub of_heartbeat : Result Heartbeat Refusal → Answer
of_heartbeat (Ok h) = accepted (h.bs ∷ h.priority ∷ h.tiebreaker ∷ h.reveal ∷ [])
of_heartbeat (Err r) = refused (number_of r)

-- the sender, by its priority and its TieBreaker
abbrev pub sender : Heartbeat → Rank
sender h = record { priority = h.priority; identity = h.tiebreaker }

-- "Any Reveal but 0 is set"
abbrev pub is_set : ℕ → Bool
is_set n = not (eqb n 0)

-- "BS 0..65,535"
abbrev pub greatest_bs : ℕ
greatest_bs = 65535

abbrev pub read_bs : List ℕ → Answer
read_bs s = read_number 0 greatest_bs s

-- "Reveal 0..255"
abbrev pub greatest_reveal : ℕ
greatest_reveal = 255

abbrev pub read_reveal : List ℕ → Answer
read_reveal s = read_number 0 greatest_reveal s

-- "BS .., Priority .., TieBreaker .., Reveal ..", "Fields are tested left to right for 2". The
-- TieBreaker is an identity
unfoldable pub read_fields : List ℕ → Answer
read_fields s = in_turn (read_bs (field s 0)) (in_turn (read_priority (field s 1)) (in_turn (read_identity (field s 2)) (read_reveal (field s 3))))

-- "1. Line form: .. wrong count of fields". s is a line without its line feed
unfoldable pub read_body : List ℕ → Answer
read_body s = choose (eqb (length (fields s)) 4) (read_fields s) (refused 1)

-- "1. Line form: .. too long, no line feed." Otherwise what stands before the line feed decides
unfoldable pub read_heartbeat : List ℕ → Answer
read_heartbeat s = choose (eqb (read_line s).number 0) (read_body (take (up_to 10 s) s)) (refused 1)

-- "the writer writes 1" for a Reveal that is set, and 0 for one that is not
abbrev pub reveal_written : ℕ → ℕ
reveal_written n = choose (is_set n) 1 0

-- "TieBreaker 1..65,535": a heartbeat with TieBreaker 0 is not written
abbrev pub writable : Heartbeat → Bool
writable h = not (eqb h.tiebreaker 0)

-- "A heartbeat line: BS .., Priority .., TieBreaker .., Reveal", "parted by one tab", with a line
-- feed at its end; v is its Reveal
abbrev pub line_with : Heartbeat → ℕ → List ℕ
line_with h v =
    digits h.bs ++ bytes "\t" ++ digits h.priority ++ bytes "\t" ++ digits h.tiebreaker ++ bytes "\t" ++ digits v ++ bytes "\n"

-- the line of h as it is written
unfoldable pub heartbeat_line : Heartbeat → List ℕ
heartbeat_line h = line_with h (reveal_written h.reveal)
