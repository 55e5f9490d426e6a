-- What private functions answer. Nothing is promised here.
use Rattle.std.specs.Prelude.{Bool, not, ◌&&◌, ◌||◌, ◌≡◌, List, [], ◌∷◌, ℕ, ◌≤◌, ◌<◌, ltb, length, Option, Some, None, Result, Ok, Err}
use Rattle.lists.specs.Choice.{choose}
use Rattle.lists.specs.Splice.{splice}
use Rattle.feeding.specs.Fed.{Fed, waits, taken_bytes}
use Rattle.feeding.specs.Moves.{Move}
use Rattle.feed.specs.declared.Feed.{Feed}
use Rattle.feed.specs.declared.Step.{Step}
use Rattle.feed.specs.Answers.{fed_of, line_taken, Leaves}
use Rattle.printer.specs.declared.Turned.{Turned}
use Rattle.printer.specs.declared.Ran.{Ran}
use Rattle.printer.specs.Print.{rest_move, turn_move, print, short}
use Rattle.refusal.specs.declared.Refusal.{Refusal}
use Rattle.refusal.specs.Answer.{Answer, accepted, refused, number_of}
use Rattle.text.specs.Write.{of_written}

-- whether a turn does anything
abbrev pub busy : Fed → List ℕ → Bool → Bool
busy f s last = not f.over && (waits f || (ltb 0 (length s) || last))

-- the number of a turn's answer and how many bytes it wrote: no value where it did nothing
abbrev pub of_turned : Result (Option ℕ) Refusal → Answer
of_turned (Ok (Some n)) = accepted (n ∷ [])
of_turned (Ok None) = accepted []
of_turned (Err k) = refused (number_of k)

-- the move m of f with the slice d, which took n bytes; b where it does anything
pub record Goes (f : Fed) (m : Move) (n : ℕ) (b : Bool) (d : List ℕ) (r : Turned) (f' : Fed) (d' : List ℕ) : Type 0 where
  pub so :
      length m.lines ≤ length d →
      (of_turned r.written ≡ choose b (accepted (length m.lines ∷ [])) (accepted [])) × (f' ≡ m.fed) × (d' ≡ splice d 0 m.lines)
  pub not : length d < length m.lines → (of_turned r.written ≡ refused 9) × (f' ≡ f) × (d' ≡ d)
  pub used : r.used ≡ n

-- a turn that was a step
pub record Steps (t : Step) (r : Turned) : Type 0 where
  pub so : (n : ℕ) → t.written ≡ Ok n → r.written ≡ Ok (Some n)
  pub not : (k : Refusal) → t.written ≡ Err k → r.written ≡ Err k
  pub used : r.used ≡ 0
  pub feed : r.feed ≡ t.feed

-- the end of the input where no byte is left, and what it leaves
pub record EndsIn (x : Feed) (l w : List ℕ) (k : List Bool) (last : Bool) (d : List ℕ) (r : Turned) (d' : List ℕ) : Type 0 where
  pub move : let f = fed_of x l w k in Goes f (rest_move f [] last) 0 (not f.over && last) d r (fed_of r.feed l w k) d'
  pub leaves : Leaves x w k r.used (fed_of r.feed l w k) r.feed w k

-- the same; numbers and links are not lent, so it holds whatever
-- they are
abbrev pub Ends : Feed → List ℕ → Bool → List ℕ → Turned → List ℕ → Type 0
Ends x l last d r d' = (w : List ℕ) (k : List Bool) → EndsIn x l w k last d r d'

pub record Turns (f : Fed) (s : List ℕ) (last : Bool) (d : List ℕ) (r : Turned) (f' : Fed) (d' : List ℕ) : Type 0 where
  pub move : Goes f (turn_move f s last (length d)) (taken_bytes f s) (busy f s last) d r f' d'

-- and what it leaves of the feed x and of all that is lent to it
pub record TurnsIn (x : Feed) (l w : List ℕ) (k : List Bool) (s : List ℕ) (last : Bool) (d : List ℕ) (r : Turned) (l' w' : List ℕ) (k' : List Bool) (d' : List ℕ) : Type 0 where
  pub turns : Turns (fed_of x l w k) s last d r (fed_of r.feed l' w' k') d'
  pub leaves : Leaves x w k r.used (fed_of r.feed l' w' k') r.feed w' k'
  pub line : l' ≡ line_taken (fed_of x l w k) s l
  pub same : (n : Refusal) → r.written ≡ Err n → w' ≡ w

-- all turns that fit
pub record Runs (f : Fed) (s : List ℕ) (last : Bool) (d : List ℕ) (r : Ran) (f' : Fed) (d' : List ℕ) : Type 0 where
  pub answer : of_written r.written ≡ choose (short f s last (length d)) (refused 9) (accepted (length (print f s last (length d)).lines ∷ []))
  pub used : r.used ≡ (print f s last (length d)).used
  pub fed : f' ≡ (print f s last (length d)).fed
  pub out : d' ≡ splice d 0 (print f s last (length d)).lines

-- and what they leave
pub record RunsIn (x : Feed) (l w : List ℕ) (k : List Bool) (s : List ℕ) (last : Bool) (d : List ℕ) (r : Ran) (l' w' : List ℕ) (k' : List Bool) (d' : List ℕ) : Type 0 where
  pub runs : Runs (fed_of x l w k) s last d r (fed_of r.feed l' w' k') d'
  pub leaves : Leaves x w k r.used (fed_of r.feed l' w' k') r.feed w' k'
  pub line : l' ≡ (print (fed_of x l w k) s last (length d)).line l
  pub same : (n : Refusal) → r.written ≡ Err n → w' ≡ w
