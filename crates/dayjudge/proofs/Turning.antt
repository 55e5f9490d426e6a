-- The loop over a whole day and a whole sheet: what holds before each turn, and that each makes
-- less to come. Assumes nothing.
use Rattle.std.specs.Prelude.{Option, None, Some}
use mathlib.Core.Bool.{Bool, true, false}
use mathlib.Core.Path.{◌≡◌, refl, sym, ap, ap₂, subst, ◌∙◌}
use mathlib.Core.List.{List, [], append-nil}
use mathlib.Core.Logic.{inr}
use Prim.Native.Nat.{ℕ, ◌+◌, ◌-◌, ◌≤◌, ◌<◌}
use native.Mathlib.Omega.{arith}
use lib.ListN.{length, take, drop, length-drop}
use lib.Seq.{drop-drop}
use Rattle.lists.proofs.Cases.{tested, on, clash}
use Rattle.lists.proofs.Parts.{part-rest}
use Rattle.departure.specs.declared.Departure.{Departure}
use Rattle.departure.specs.Departure.{judged}
use Rattle.judge.specs.declared.Judge.{Judge}
use Rattle.dayjudge.specs.declared.Turned.{Turned}
use Rattle.judging.specs.Judging.{Judging, is_decided, asks}
use Rattle.judge.specs.declared.Given.{Given}
use Rattle.judge.specs.Answers.{judging_of, Begins, DayGiven, SheetGiven}
use Rattle.dayjudge.specs.Steps.{found_in, Turns}
use Rattle.judging.specs.Laws.{Reached, EveryWayJudges}
use Rattle.judging.proofs.Standing.{Status, settled, standing}
use Rattle.judging.proofs.Laws.{laws, reached-status, to_come, day-fewer, sheet-fewer, some_to_come, day-few, sheet-few}

-- after the first i bytes of the day and the first j of the sheet
pub record Rests (s g : List ℕ) (x : Judging) (i j : ℕ) : Type 0 where
  pub day : i ≤ length s
  pub sheet : j ≤ length g
  pub reached : Reached s g x (drop i s) (drop j g)

pub rests-begin : {s g d : List ℕ} {r : Judge} {d' : List ℕ} (l w : List ℕ) (k : List Bool) → Begins d r d' → Rests s g (judging_of r l w k d') 0 0
rests-begin {s} {g} l w k b =
    record { day = omega arith; sheet = omega arith; reached = subst (λ (x : Judging). Reached s g x s g) (sym (b.stands l w k)) (b.laws.begins s g) }

-- open, something is to come
some : {s g : List ℕ} {x : Judging} {s' g' : List ℕ} → Status s g x s' g' → is_decided x.judgement ≡ false → 0 < to_come x s' g'
some (settled d e is) o = absurd (clash (ap is_decided e) o)
some {x = x} {s' = s'} {g' = g'} (standing v) o = let z = some_to_come x s' g' v.still in omega arith

module _ (s g : List ℕ) (x : Judge) (l w : List ℕ) (k : List Bool) (d : List ℕ) (i j : ℕ) (r : Turned) (l' w' : List ℕ) (k' : List Bool) (d' : List ℕ) where
  abbrev from : Judging
  from = judging_of x l w k d

  abbrev to : Judging
  to = judging_of r.judge l' w' k' d'

  -- what holds after a turn: less is to come
  abbrev After : Judging → List ℕ → List ℕ → Type 0
  After y a b = Reached s g y a b × (to_come y a b ≤ to_come from (drop i s) (drop j g) - 1)

  moved : {y y' : Judging} {a a' b b' : List ℕ} → y ≡ y' → a ≡ a' → b ≡ b' → After y a b → After y' a' b'
  moved {y} {y'} {a} {a'} {b} {b'} ey ea eb v = subst (λ (z : Judging). After z a' b') ey (subst (λ (z : List ℕ). After y z b') ea (subst (λ (z : List ℕ). After y a z) eb v))

  pub record Next : Type 0 where
    pub day : i + r.day ≤ length s
    pub sheet : j + r.sheet ≤ length g
    pub after : After to (drop (i + r.day) s) (drop (j + r.sheet) g)

  module _ (t₀ : Turns x l w k d (take (length s - i) (drop i s)) (take (length g - j) (drop j g)) r l' w' k' d') (v : Rests s g from i j) where
    t : Turns x l w k d (drop i s) (drop j g) r l' w' k' d'
    t =
        subst (λ (z : List ℕ). Turns x l w k d (drop i s) z r l' w' k' d') (part-rest g j)
        (subst (λ (z : List ℕ). Turns x l w k d z (take (length g - j) (drop j g)) r l' w' k' d') (part-rest s i) t₀)

    of-day : asks from ≡ true → Next
    of-day turn =
        let given = (t.day turn).0 in
        let none = (t.day turn).1 in
        let room = given.room in
        let p = drop i s in
        let all = sym (append-nil p) in
        let few = day-few from p true (length d) in
        let used = given.used in
        let long = length-drop i s in
        let within = v.day in
        let within' = v.sheet in
        record {
          day = omega arith;
          sheet = omega arith;
          after =
              moved (sym given.judging)
              (ap (λ (n : ℕ). drop n p) (sym used) ∙ drop-drop r.day i s)
              (ap (λ (n : ℕ). drop n g) (let z : j ≡ j + r.sheet = omega arith in z)) (
                laws.day s g p (drop j g) p [] from true (length d) v.reached all (λ z. refl),
                day-fewer (reached-status v.reached) p [] true (length d) all (λ z. refl) turn (omega arith) (inr refl),
              );
        }

    of-sheet : asks from ≡ false → Next
    of-sheet turn =
        let q = t.found turn in
        let given = q.0 in
        let none = q.1 in
        let p = drop j g in
        let all = sym (append-nil p) in
        let few = sheet-few from p true in
        let used = given.used l w k in
        let long = length-drop j g in
        let within = v.day in
        let within' = v.sheet in
        let same : judging_of r.judge l w k d ≡ to =
        ap₂ (λ (a b : List ℕ). judging_of r.judge a b k d) (sym q.2) (sym q.3) ∙ ap₂ (λ (a : List Bool) (b : List ℕ). judging_of r.judge l' w' a b) (sym q.4) (sym q.5) in
        record {
          day = omega arith;
          sheet = omega arith;
          after =
              moved (sym (given.judging l w k) ∙ same)
              (ap (λ (n : ℕ). drop n s) (let z : i ≡ i + r.day = omega arith in z))
              (ap (λ (n : ℕ). drop n p) (sym used) ∙ drop-drop r.sheet j g) (
                laws.sheet s g (drop i s) p p [] from true v.reached all (λ z. refl),
                sheet-fewer (reached-status v.reached) p [] true all turn (inr refl),
              );
        }

    next : Next
    next = on (tested (asks from)) of-day of-sheet

    -- no more is taken than there is
    pub day-within : i + r.day ≤ length s
    day-within = next.day

    pub sheet-within : j + r.sheet ≤ length g
    sheet-within = next.sheet

    pub rests-turn : Rests s g to (i + r.day) (j + r.sheet)
    rests-turn = record { day = next.day; sheet = next.sheet; reached = next.after.0 }

    pub rests-less : is_decided x.judgement ≡ false → to_come to (drop (i + r.day) s) (drop (j + r.sheet) g) < to_come from (drop i s) (drop j g)
    rests-less o = let a = next.after.1 in let b = some (reached-status v.reached) o in omega arith

-- decided, it is the definition's answer, by what the first call promises
pub rests-end :
    {s g : List ℕ} {x : Judging} {i j : ℕ} {v : Option Departure} {d : Departure} →
    EveryWayJudges → Rests s g x i j → is_decided x.judgement ≡ true → v ≡ x.judgement → d ≡ found_in v → d ≡ judged s g
rests-end {s} {g} {x} {i} {j} {v} {d} judges r o ev ed = by x.judgement refl
  where
    by : (w : Option Departure) → x.judgement ≡ w → d ≡ judged s g
    by None e = absurd (clash o (ap is_decided e))
    by (Some d') e = ed ∙ ap found_in (ev ∙ e) ∙ judges s g (drop i s) (drop j g) x r.reached d' e

-- what a turn answers

pub turns-day : {x : Judge} {l w : List ℕ} {k : List Bool} {d s g : List ℕ} {r : Given} {l' w' : List ℕ} {k' : List Bool} {d' : List ℕ} →
    asks (judging_of x l w k d) ≡ true → DayGiven x l w k d s true r l' w' k' d' → Turns x l w k d s g (record { day = r.used; sheet = 0; judge = r.judge }) l' w' k' d'
turns-day e t = record { day = λ z. (t, refl); found = λ z. absurd (clash e z) }

pub turns-sheet : {x : Judge} (l w : List ℕ) (k : List Bool) {d s g : List ℕ} {r : Given} →
    asks (judging_of x l w k d) ≡ false → SheetGiven x d g true r → Turns x l w k d s g (record { day = 0; sheet = r.used; judge = r.judge }) l w k d
turns-sheet l w k e t = record { day = λ z. absurd (clash z e); found = λ z. (t, refl, refl, refl, refl, refl) }
