-- What private functions answer. Nothing is promised here.
use Rattle.std.specs.Prelude.{Bool, true, false, ◌≡◌, List, ℕ, Option}
use Rattle.std.specs.Option.{unwrap_or}
use Rattle.departure.specs.declared.Departure.{Departure}
use Rattle.departure.specs.declared.Departure.TheVariants.{Same}
use Rattle.judge.specs.declared.Judge.{Judge}
use Rattle.dayjudge.specs.declared.Turned.{Turned}
use Rattle.judging.specs.Judging.{asks}
use Rattle.judge.specs.Answers.{judging_of, DayGiven, SheetGiven}

-- what was found; the same where nothing is yet
abbrev pub found_in : Option Departure → Departure
found_in v = unwrap_or v Same

-- a call in its turn, with all that is still to come: the rest s of the day, or the rest g of the
-- sheet
pub record Turns (x : Judge) (l w : List ℕ) (k : List Bool) (d s g : List ℕ) (r : Turned) (l' w' : List ℕ) (k' : List Bool) (d' : List ℕ) : Type 0 where
  pub day : asks (judging_of x l w k d) ≡ true → DayGiven x l w k d s true (record { used = r.day; judge = r.judge }) l' w' k' d' × (r.sheet ≡ 0)
  pub found :
      asks (judging_of x l w k d) ≡ false →
      SheetGiven x d g true (record { used = r.sheet; judge = r.judge }) × (r.day ≡ 0) × (l' ≡ l) × (w' ≡ w) × (k' ≡ k) × (d' ≡ d)
