-- No more is taken of a piece than there is. Assumes nothing.
use mathlib.Core.Bool.{Bool}
use mathlib.Core.Path.{◌≡◌}
use mathlib.Core.List.{List, []}
use Prim.Native.Nat.{ℕ, ◌+◌, ◌-◌, ◌≤◌}
use native.Mathlib.Omega.{arith}
use lib.ListN.{length, take, drop, length-take}
use Rattle.judge.specs.declared.Judge.{Judge}
use Rattle.judge.specs.declared.Given.{Given}
use Rattle.judge.specs.Answers.{judging_of, DayGiven, SheetGiven}
use Rattle.judging.proofs.Laws.{day-few, sheet-few}
use Rattle.accept.specs.declared.Source.{Source}
use Rattle.accept.specs.Steps.{Holds}

pub day-within : {x : Judge} {l w : List ℕ} {k : List Bool} {d s : List ℕ} {last : Bool} {r : Given} {l' w' : List ℕ} {k' : List Bool} {d' : List ℕ} → DayGiven x l w k d s last r l' w' k' d' → r.used ≤ length s
day-within {x} {l} {w} {k} {d} {s} {last} g = let few = day-few (judging_of x l w k d) s last (length d) in let used = g.used in omega arith

pub sheet-within : {x : Judge} {d s : List ℕ} {last : Bool} {r : Given} → SheetGiven x d s last r → r.used ≤ length s
sheet-within {x} {d} {s} {last} g = let few = sheet-few (judging_of x [] [] [] d) s last in let used = g.used [] [] [] in omega arith

-- the piece is what was read and not taken
pub fits : {b : List ℕ} {x : Source} {n : ℕ} → Holds b x → n ≤ length (take (x.to - x.from) (drop x.from b)) → x.from + n ≤ x.to
fits {b} {x} h few = let o = h.ordered in let t = length-take (x.to - x.from) (drop x.from b) in omega arith

pub rest : {b : List ℕ} {x y : Source} {n : ℕ} → Holds b x → n ≤ length (take (x.to - x.from) (drop x.from b)) → (y.from ≡ x.from + n) × (y.to ≡ x.to) → Holds b y
rest h few e =
    let f = fits h few in
    let w = h.within in
    let from = e.0 in
    let to = e.1 in
    record { ordered = omega arith; within = omega arith }
