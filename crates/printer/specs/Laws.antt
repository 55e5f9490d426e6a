-- Laws of printing. The contract of `print` has them all (`Laws`, below); the proof is `laws` of
-- proofs/Laws.antt.
use Rattle.std.specs.Prelude.{Bool, true, false, ◌≡◌, ◌⊎◌, ℕ, ◌+◌, ◌≤◌, ◌<◌, length, drop}
use mathlib.Core.List.{List, [], ◌∷◌, ◌++◌, Memᴰ}
use Rattle.day.specs.Sheet.{header, sheet}
use Rattle.feeding.specs.Fed.{Fed, beginning, remaining}
use Rattle.feeding.specs.Bound.{step_bytes}
use Rattle.printer.specs.Print.{Print, rests, print, short}

-- ---- one call

-- a piece, whether it is the last, and the length of the lent slice
pub record Call : Type 0 where
  pub piece : List ℕ
  pub last : Bool
  pub room : ℕ

abbrev pub answer : Fed → Call → Print
answer f c = print f c.piece c.last c.room

abbrev pub is_short : Fed → Call → Bool
is_short f c = short f c.piece c.last c.room

-- it stays within the slice and the piece
abbrev pub StaysWithin : Type 0
StaysWithin = (f : Fed) (c : Call) → (length (answer f c).lines ≤ c.room) × ((answer f c).used ≤ length c.piece)

-- where it gets 9 nothing is done
abbrev pub ShortDoesNothing : Type 0
ShortDoesNothing = (f : Fed) (c : Call) → is_short f c ≡ true → answer f c ≡ rests f

-- where there is room for all that is still to be printed, one call prints it
abbrev pub OneCallPrintsAll : Type 0
OneCallPrintsAll = (f : Fed) (s : List ℕ) (room : ℕ) → length (remaining f s) ≤ room → (print f s true room).fed.over ≡ true

-- ---- calls one after the other

-- From the feed f on, with the bytes s of the day still to come, the calls cs write w, joined, and
-- leave the feed g with t still to come. A piece is the first bytes of what is still to come, any
-- number of them; that it is the last is said only where it is all of them. A call that gets 9
-- counts too: it takes and writes nothing
pub data Calls : Fed → List ℕ → List Call → List ℕ → Fed → List ℕ → Type 0 where
  none : {f : Fed} {s : List ℕ} → Calls f s [] [] f s
  next : {f g : Fed} {s t rest w : List ℕ} {c : Call} {cs : List Call} → s ≡ c.piece ++ rest → (c.last ≡ true → rest ≡ []) →
      Calls (answer f c).fed (drop (answer f c).used s) cs w g t → Calls f s (c ∷ cs) ((answer f c).lines ++ w) g t

-- whatever the pieces and the slices, what was written so far is the beginning of the sheet of the
-- whole day, and what is still to be printed the rest
abbrev pub CallsPrintTheSheet : Type 0
CallsPrintTheSheet = (s t w : List ℕ) (cs : List Call) (f : Fed) → Calls beginning s cs w f t → header ++ (w ++ remaining f t) ≡ sheet s

-- and where it is over, all of it was written
abbrev pub OverIsTheSheet : Type 0
OverIsTheSheet = (s t w : List ℕ) (cs : List Call) (f : Fed) → Calls beginning s cs w f t → f.over ≡ true → header ++ w ≡ sheet s

-- ---- no caller is stuck

-- a slice with room for a step, and a byte or the end of the input
pub record Ample (c : Call) : Type 0 where
  pub room : step_bytes ≤ c.room
  pub more : (0 < length c.piece) ⊎ (c.last ≡ true)

-- a call that is not refused, and takes, writes or ends the sheet
pub record Moves (f : Fed) (c : Call) : Type 0 where
  pub accepted : is_short f c ≡ false
  pub so : (0 < (answer f c).used) ⊎ ((0 < length (answer f c).lines) ⊎ ((answer f c).fed.over ≡ true))

-- whatever calls came before, every call with such a slice does, until the sheet is over
abbrev pub AmpleCallsMove : Type 0
AmpleCallsMove = (s t w : List ℕ) (cs : List Call) (f : Fed) → Calls beginning s cs w f t → (c : Call) → Ample c → f.over ≡ false → Moves f c

-- and as many of them as the day and its sheet have bytes print all of it
abbrev pub AmpleCallsEnd : Type 0
AmpleCallsEnd = (s t w : List ℕ) (cs : List Call) (f : Fed) → Calls beginning s cs w f t → ((c : Call) → Memᴰ c cs → Ample c) → length s + length (sheet s) ≤ length cs → f.over ≡ true

pub record Laws : Type 0 where
  pub within : StaysWithin
  pub short : ShortDoesNothing
  pub one : OneCallPrintsAll
  pub calls : CallsPrintTheSheet
  pub over : OverIsTheSheet
  pub moves : AmpleCallsMove
  pub ends : AmpleCallsEnd
