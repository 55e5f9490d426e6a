-- What the calls of a judge answer.
use Rattle.std.specs.Prelude.{Bool, true, false, ◌&&◌, ◌≡◌, List, ℕ, suc, ◌+◌, ◌-◌, ltb, length, take, drop, None}
use Rattle.lists.specs.Choice.{choose}
use Rattle.lists.specs.Splice.{splice}
use Rattle.day.specs.Sheet.{header}
use Rattle.departure.specs.declared.Compared.{Compared}
use Rattle.departure.specs.Compare.{compared}
use Rattle.feeding.specs.Bound.{step_bytes}
use Rattle.feed.specs.Answers.{fed_of, fresh_feed}
use Rattle.printer.specs.declared.Printed.{Printed}
use Rattle.printer.specs.Answers.{written_bytes, PrintsIn}
use Rattle.judge.specs.declared.Judge.{Judge}
use Rattle.judge.specs.declared.Given.{Given}
use Rattle.judging.specs.Judging.{Judging, beginning, closed, asks, sated, day_taking, departs, decision, sheet_taking}
use Rattle.judging.specs.Laws.{Laws}

-- ---- what is held

-- the smaller of two
unfoldable pub least : ℕ → ℕ → ℕ
least a b = choose (ltb a b) a b

-- where the bytes held end and begin in n bytes lent
abbrev pub end_in : Judge → ℕ → ℕ
end_in x n = least x.to n

abbrev pub start_in : Judge → ℕ → ℕ
start_in x n = least x.from (end_in x n)

abbrev pub held_in : Judge → List ℕ → List ℕ
held_in x d = take (end_in x (length d) - start_in x (length d)) (drop (start_in x (length d)) d)

-- what a judge stands for with all that is lent to it: the bytes l of the day's line, the numbers w
-- of the servers, the links k, and the bytes d in which those due are held
abbrev pub judging_of : Judge → List ℕ → List ℕ → List Bool → List ℕ → Judging
judging_of x l w k d = record { fed = fed_of x.feed l w k; held = held_in x d; lines = x.lines; judgement = x.judgement }

-- ---- the first call

abbrev pub fresh_judge : Judge
fresh_judge = record { feed = fresh_feed; from = 0; to = length header; lines = 0; judgement = None }

-- the header is due, and what holds of all calls. What else is lent does not matter yet
pub record Begins (d : List ℕ) (r : Judge) (d' : List ℕ) : Type 0 where
  pub judge : r ≡ fresh_judge
  pub due : d' ≡ splice d 0 header
  pub stands : (l w : List ℕ) (k : List Bool) → judging_of r l w k d' ≡ beginning
  pub laws : Laws

-- ---- a piece of the day

-- the printer's answer, and the judge by it
pub record PrintsDue (x : Judge) (l w : List ℕ) (k : List Bool) (d s : List ℕ) (last : Bool) (r : Given) (l' w' : List ℕ) (k' : List Bool) (d' : List ℕ) : Type 0 where
  pub printed : Printed
  pub prints : PrintsIn x.feed l w k s last d printed l' w' k' d'
  pub given : r ≡ record { used = printed.used; judge = record { feed = printed.feed; from = 0; to = written_bytes printed.written; lines = x.lines; judgement = x.judgement } }

pub record DayGiven (x : Judge) (l w : List ℕ) (k : List Bool) (d s : List ℕ) (last : Bool) (r : Given) (l' w' : List ℕ) (k' : List Bool) (d' : List ℕ) : Type 0 where
  -- a step has room in what is lent
  pub room : length d ≡ step_bytes
  pub used : r.used ≡ (day_taking (judging_of x l w k d) s last (length d)).used
  pub judging : judging_of r.judge l' w' k' d' ≡ (day_taking (judging_of x l w k d) s last (length d)).judging
  -- where the day waits all is as it was
  pub idle : sated (judging_of x l w k d) ≡ true → (r ≡ record { used = 0; judge = x }) × (l' ≡ l) × (w' ≡ w) × (k' ≡ k) × (d' ≡ d)
  -- else every field, and every element that is lent, is as the printer leaves it, whose contract
  -- names the one case in which numbers are open
  pub busy : sated (judging_of x l w k d) ≡ false → PrintsDue x l w k d s last r l' w' k' d'

-- ---- a piece of the sheet

-- the judge after c, which compares the n bytes held from the place `at` on with m bytes of a piece
abbrev pub with_found : Judge → ℕ → ℕ → ℕ → Bool → Compared → Judge
with_found x at n m last c =
    record {
      feed = x.feed;
      from = at + c.bytes;
      to = x.to;
      lines = x.lines + c.lines;
      judgement = decision (departs c n m last x.feed.over) (last && x.feed.over) (suc (x.lines + c.lines));
    }

unfoldable pub sheet_given : Judge → List ℕ → List ℕ → Bool → Given
sheet_given x d s last =
    let c = compared (held_in x d) s in
    choose (closed x.judgement x.lines) (record { used = 0; judge = x })
    (record { used = c.bytes; judge = with_found x (start_in x (length d)) (length (held_in x d)) (length s) last c })

pub record SheetGiven (x : Judge) (d s : List ℕ) (last : Bool) (r : Given) : Type 0 where
  pub given : r ≡ sheet_given x d s last
  pub used : (l w : List ℕ) (k : List Bool) → r.used ≡ (sheet_taking (judging_of x l w k d) s last).used
  pub judging : (l w : List ℕ) (k : List Bool) → judging_of r.judge l w k d ≡ (sheet_taking (judging_of x l w k d) s last).judging

-- ---- what is asked of a judge

abbrev pub Asks : Judge → List ℕ → Bool → Type 0
Asks x d r = (l w : List ℕ) (k : List Bool) → r ≡ asks (judging_of x l w k d)
