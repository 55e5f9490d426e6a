-- What one call prints of a day that comes in pieces: as much of its sheet as is known and fits.
use Rattle.std.specs.Prelude.{Bool, true, false, List, [], ◌∷◌, ◌++◌, ℕ, zero, suc, ◌+◌, ◌-◌, ◌*◌, leb, ltb, length, drop}
use Rattle.lists.specs.Choice.{choose}
use Rattle.timecode.specs.Label.{day_length}
use Rattle.feeding.specs.Fed.{Fed, waits, taken, taken_bytes}
use Rattle.feeding.specs.Moves.{Move, nothing, steps_move, last_move}
use Rattle.feeding.specs.Laws.{steps_left}
use Rattle.feed.specs.Answers.{line_taken}

-- ---- a turn, with the bytes s of a piece and whether the piece is the last

-- where no whole line is to be done: bytes of the piece, else the end of the input
abbrev pub rest_move : Fed → List ℕ → Bool → Move
rest_move f [] last = choose last (last_move f) (nothing f)
rest_move f (x ∷ s) last = nothing (taken f (x ∷ s))

-- steps where a whole line is to be done, else the rest
unfoldable pub turn_move : Fed → List ℕ → Bool → ℕ → Move
turn_move f s last room = choose (waits f) (steps_move f room) (rest_move f s last)

-- ---- a call

-- what is printed, how many bytes of the piece are taken, what is known then, and what becomes of
-- the bytes that are lent for the line under way
pub record Print : Type 0 where
  pub lines : List ℕ
  pub used : ℕ
  pub fed : Fed
  pub line : List ℕ → List ℕ

-- nothing is done
abbrev pub rests : Fed → Print
rests f = record { lines = []; used = 0; fed = f; line = λ l. l }

-- the move m of f, which takes bytes of s to its line, and then p
abbrev pub first : Fed → List ℕ → Move → Print → Print
first f s m p =
    record {
      lines = m.lines ++ p.lines;
      used = taken_bytes f s + p.used;
      fed = p.fed;
      line = λ l. p.line (line_taken f s l);
    }

-- of n turns as many as fit into so many bytes, one after the other
unfoldable pub turns : ℕ → Fed → List ℕ → Bool → ℕ → Print
turns zero f s last room = rests f
turns (suc n) f s last room =
    let m = turn_move f s last room in
    elim (leb (length m.lines) room) [
      | true ↦ first f s m (turns n m.fed (drop (taken_bytes f s) s) last (room - length m.lines))
      | false ↦ rests f
    ]

-- no more turns than these do anything where n bytes are still to come: each byte may end a line,
-- and each line may need a step a frame, one more, and a turn that takes it
unfoldable pub turns_left : Fed → ℕ → ℕ
turns_left f n = n * (day_length + 2) + steps_left f + choose f.over 0 1

-- all turns that fit
unfoldable pub print : Fed → List ℕ → Bool → ℕ → Print
print f s last room = turns (turns_left f (length s)) f s last room

-- 9: the slice is too short for the next lines, so that nothing can be done
abbrev pub short : Fed → List ℕ → Bool → ℕ → Bool
short f s last room = ltb room (length (turn_move f s last room).lines)
