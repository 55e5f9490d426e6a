-- A day and a sheet that come in pieces: what is due, and how far the sheet is as due.
use Rattle.std.specs.Prelude.{Bool, true, false, not, ◌&&◌, ◌||◌, List, ℕ, suc, ◌+◌, leb, ltb, eqb, length, drop, Option, None, Some}
use Rattle.lists.specs.Choice.{choose}
use Rattle.day.specs.Sheet.{header}
use Rattle.departure.specs.declared.Departure.TheVariants.{Same, At}
use Rattle.departure.specs.declared.Compared.{Compared}
use Rattle.departure.specs.Compare.{compared}
use Rattle.feeding.specs.Fed.{Fed, beginning as freshDay}
use Rattle.printer.specs.Print.{Print, print}
use Rattle.judging.specs.Bounds.{sheet_limit}
use Rattle.departure.specs.declared.Departure.{Departure}

-- what is known of the day, the bytes due that the sheet has not come to, how many lines were as
-- due, and the judgement
pub record Judging : Type 0 where
  pub fed : Fed
  pub held : List ℕ
  pub lines : ℕ
  pub judgement : Option Departure

-- before the first byte the header is due
abbrev pub beginning : Judging
beginning = record { fed = freshDay; held = header; lines = 0; judgement = None }

abbrev pub is_decided : Option Departure → Bool
is_decided None = false
is_decided (Some d) = true

-- nothing is taken: it is decided, or more lines were as due than any sheet has, which no calls
-- reach (`SheetsAreShort`)
unfoldable pub closed : Option Departure → ℕ → Bool
closed v lines = is_decided v || leb sheet_limit lines

-- a piece of the day is asked for: no byte due is held, and its sheet is not over
abbrev pub asks : Judging → Bool
asks j = not j.fed.over && eqb (length j.held) 0

-- what one call takes of its piece, and what is known then
pub record Taking : Type 0 where
  pub used : ℕ
  pub judging : Judging

abbrev pub nothing : Judging → Taking
nothing j = record { used = 0; judging = j }

-- ---- a piece of the day, the last or not, where so many bytes can be held

-- what is printed is due
abbrev pub with_print : Judging → Print → Judging
with_print j p = record { fed = p.fed; held = p.lines; lines = j.lines; judgement = j.judgement }

-- the day waits while bytes due are held
abbrev pub sated : Judging → Bool
sated j = closed j.judgement j.lines || ltb 0 (length j.held)

unfoldable pub day_taking : Judging → List ℕ → Bool → ℕ → Taking
day_taking j s last room =
    let p = print j.fed s last room in
    choose (sated j) (nothing j) (record { used = p.used; judging = with_print j p })

-- ---- a piece of the sheet, the last or not

-- c compares n bytes held with m bytes of a piece. The sheet departs where two bytes differ, where
-- it ends before bytes that are due, and where it goes on after the day's sheet is over
abbrev pub departs : Compared → ℕ → ℕ → Bool → Bool → Bool
departs c n m last over = c.departed || ((ltb c.bytes n && last) || (ltb c.bytes m && over))

-- where it departs line k is the first; else it is the same once both have ended
unfoldable pub decision : Bool → Bool → ℕ → Option Departure
decision apart ended k = choose apart (Some (At k)) (choose ended (Some Same) None)

abbrev pub with_compared : Judging → ℕ → Bool → Compared → Judging
with_compared j m last c =
    record {
      fed = j.fed;
      held = drop c.bytes j.held;
      lines = j.lines + c.lines;
      judgement = decision (departs c (length j.held) m last j.fed.over) (last && j.fed.over) (suc (j.lines + c.lines));
    }

unfoldable pub sheet_taking : Judging → List ℕ → Bool → Taking
sheet_taking j s last =
    let c = compared j.held s in
    choose (closed j.judgement j.lines) (nothing j) (record { used = c.bytes; judging = with_compared j (length s) last c })
