-- What a call of the printer answers.
use Rattle.std.specs.Prelude.{Bool, ◌≡◌, List, [], ◌∷◌, ℕ, length, Result, Ok, Err}
use Rattle.lists.specs.Choice.{choose}
use Rattle.lists.specs.Splice.{splice}
use Rattle.refusal.specs.declared.Refusal.{Refusal}
use Rattle.refusal.specs.Answer.{accepted, refused}
use Rattle.text.specs.Write.{of_written}
use Rattle.feeding.specs.Fed.{Fed}
use Rattle.feed.specs.declared.Feed.{Feed}
use Rattle.feed.specs.Answers.{fed_of, Leaves}
use Rattle.printer.specs.declared.Printed.{Printed}
use Rattle.printer.specs.Print.{print, short}
use Rattle.printer.specs.Laws.{Laws}

-- how many bytes were written
abbrev pub written_bytes : Result ℕ Refusal → ℕ
written_bytes (Ok n) = n
written_bytes (Err k) = 0

-- the piece s, the last or not, and the lent slice d: 9 where the slice is too short for the next
-- lines, and then nothing is taken, written or changed (`ShortDoesNothing`)
pub record Prints (f : Fed) (s : List ℕ) (last : Bool) (d : List ℕ) (r : Printed) (f' : Fed) (d' : List ℕ) : Type 0 where
  pub answer : of_written r.written ≡ choose (short f s last (length d)) (refused 9) (accepted (length (print f s last (length d)).lines ∷ []))
  pub used : r.used ≡ (print f s last (length d)).used
  pub over : r.over ≡ (print f s last (length d)).fed.over
  pub fed : f' ≡ (print f s last (length d)).fed
  pub out : d' ≡ splice d 0 (print f s last (length d)).lines
  pub laws : Laws

-- the same of the feed x and all that is lent to it: the bytes l of the line, the numbers w of the
-- servers and the links k. Each field, and each element, is decided, but for numbers that are not
-- canonical and were lent after the period had come (`Leaves`)
pub record PrintsIn (x : Feed) (l w : List ℕ) (k : List Bool) (s : List ℕ) (last : Bool) (d : List ℕ) (r : Printed) (l' w' : List ℕ) (k' : List Bool) (d' : List ℕ) : Type 0 where
  pub prints : Prints (fed_of x l w k) s last d r (fed_of r.feed l' w' k') d'
  pub leaves : let p = print (fed_of x l w k) s last (length d) in Leaves x w k p.used p.fed r.feed w' k'
  pub line : l' ≡ (print (fed_of x l w k) s last (length d)).line l
  -- 9: all is as it was
  pub same : (n : Refusal) → r.written ≡ Err n → (r.feed ≡ x) × (l' ≡ l) × (w' ≡ w) × (k' ≡ k) × (d' ≡ d)
