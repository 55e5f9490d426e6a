-- The laws of judging. Assumes nothing.
use Rattle.std.specs.Prelude.{Option, None, Some}
use mathlib.Core.Bool.{Bool, true, false, not, ◌&&◌, ◌||◌}
use mathlib.Core.Path.{◌≡◌, refl, sym, ap, subst, ◌∙◌}
use mathlib.Core.List.{List, [], ◌∷◌, ◌++◌}
use mathlib.Core.Logic.{◌⊎◌}
use Prim.Native.Nat.{ℕ, suc, ◌+◌, ◌*◌, ◌-◌, ◌≤◌, ◌<◌}
use native.Mathlib.Omega.{arith}
use borrow.Author.Tests.{lt-ltb, le-ltb, ltb-false, eq-eqb, eqb-true}
use lib.Dec.{leb, ltb, eqb}
use lib.ListN.{length, drop, length-append, length-drop}
use Rattle.lists.specs.Choice.{choose}
use Rattle.lists.proofs.Cases.{tested, on, less, clash, chosen, other, by_choice, not_so, and_true, and_left, fst_true, snd_true}
use Rattle.day.specs.Sheet.{sheet}
use Rattle.departure.specs.declared.Departure.{Departure}
use Rattle.departure.specs.declared.Departure.TheVariants.{Same}
use Rattle.departure.specs.declared.Compared.{Compared}
use Rattle.departure.specs.Departure.{judged}
use Rattle.departure.specs.Compare.{compared}
use Rattle.departure.proofs.Comparing.{Way, apart, ends, stops, way}
use Rattle.feeding.specs.Bound.{step_bytes}
use Rattle.feeding.specs.Fed.{remaining, waits}
use Rattle.feeding.proofs.Laws.{laws as fed-laws}
use Rattle.printer.specs.Laws.{Call as PrintCall, answer, Moves}
use Rattle.printer.specs.Print.{Print, print}
use Rattle.printer.proofs.Turning.{idle_why}
use Rattle.printer.proofs.Printing.{print-idle}
use Rattle.printer.proofs.Laws.{calls-bounded, laws as print-laws}
use Rattle.judging.specs.Bounds.{sheet_limit}
use Rattle.judging.specs.Judging.{Judging, is_decided, closed, asks, Taking, sated, with_print, with_compared, departs, day_taking, sheet_taking}
use Rattle.judging.specs.Laws.{Call, of_day, of_sheet, Calls, none, takes_day, takes_sheet, Reached, DayMayCome, SheetMayCome, DecidedStays, EveryWayJudges, AsDue, OpenIsAsDue, NoneIsLeft, UsedUp, AsksWhenUsedUp, NotReadBeyond, InTurn, day_next, sheet_next, CallsInTurnDecide, Laws}
use Rattle.judging.proofs.Shortness.{sheets_are_short}
use Rattle.judging.proofs.Asking.{idle-after}
use Rattle.judging.proofs.Standing.{Standing, Status, settled, standing, begun, whole, not-closed, printed-on, printed-taken, decided_closed, day-next, sheet-next, day-idle, day-busy, sheet-idle, sheet-busy, decides_at, decides_same}

-- ---- every list of calls

pub status :
    {Q : Judging → Call → Type 0} (s g : List ℕ) {j j' : Judging} {s₁ g₁ s' g' : List ℕ} {cs : List Call} →
    Calls Q j s₁ g₁ cs j' s' g' → Status s g j s₁ g₁ → Status s g j' s' g'
status s g none v = v
status s g (takes_day {j} {s = s₁} {g = g₁} {p = p} {rest = r} {last = last} {room = room} q is all more) v = status s g more (day-next s g j s₁ g₁ v p r last room is all)
status s g (takes_sheet {j} {s = s₁} {g = g₁} {p = p} {rest = r} {last = last} q is all more) v = status s g more (sheet-next s g j s₁ g₁ v p r last is all)

-- one call more

more-day :
    {Q : Judging → Call → Type 0} {j i : Judging} {s g s' g' p rest : List ℕ} {last : Bool} {room : ℕ} {cs : List Call} →
    Calls Q i s g cs j s' g' → Q j (of_day p last room) → s' ≡ p ++ rest → (last ≡ true → rest ≡ []) →
    Calls Q i s g (cs ++ (of_day p last room ∷ [])) (day_taking j p last room).judging (drop (day_taking j p last room).used s') g'
more-day none q is all = takes_day q is all none
more-day (takes_day q₀ is₀ all₀ c) q is all = takes_day q₀ is₀ all₀ (more-day c q is all)
more-day (takes_sheet q₀ is₀ all₀ c) q is all = takes_sheet q₀ is₀ all₀ (more-day c q is all)

more-sheet :
    {Q : Judging → Call → Type 0} {j i : Judging} {s g s' g' p rest : List ℕ} {last : Bool} {cs : List Call} →
    Calls Q i s g cs j s' g' → Q j (of_sheet p last) → g' ≡ p ++ rest → (last ≡ true → rest ≡ []) →
    Calls Q i s g (cs ++ (of_sheet p last ∷ [])) (sheet_taking j p last).judging s' (drop (sheet_taking j p last).used g')
more-sheet none q is all = takes_sheet q is all none
more-sheet (takes_day q₀ is₀ all₀ c) q is all = takes_day q₀ is₀ all₀ (more-sheet c q is all)
more-sheet (takes_sheet q₀ is₀ all₀ c) q is all = takes_sheet q₀ is₀ all₀ (more-sheet c q is all)

day_may_come : DayMayCome
day_may_come s g s' g' p rest j last room r is all = record { made = r.made ++ (of_day p last room ∷ []); calls = more-day r.calls tt is all }

sheet_may_come : SheetMayCome
sheet_may_come s g s' g' p rest j last r is all = record { made = r.made ++ (of_sheet p last ∷ []); calls = more-sheet r.calls tt is all }

decided_stays : DecidedStays
unfolding closed
decided_stays j p last room e =
    let shut : closed j.judgement j.lines ≡ true = ap (λ (z : Bool). z || leb sheet_limit j.lines) e in
    (day-idle j p last room (ap (λ (z : Bool). z || ltb 0 (length j.held)) shut), sheet-idle j p last shut)

pub reached-status : {s g : List ℕ} {j : Judging} {s' g' : List ℕ} → Reached s g j s' g' → Status s g j s' g'
reached-status {s} {g} r = status s g r.calls (begun s g)

abbrev departure-of : Option Departure → Departure
departure-of None = Same
departure-of (Some d) = d

not_open : {d : Departure} → None ≡ Some d → ⊥
not_open e = clash (ap is_decided e) refl

pub every_way : EveryWayJudges
every_way s g s' g' j r d e = by (reached-status r)
  where
    by : Status s g j s' g' → d ≡ judged s g
    by (settled d' e' is) = ap departure-of (sym e ∙ e') ∙ is
    by (standing v) = absurd (not_open (sym v.still ∙ e))

open_is_as_due : OpenIsAsDue
open_is_as_due s g s' g' j r e = by (reached-status r)
  where
    by : Status s g j s' g' → AsDue s g j s' g'
    by (settled d' e' is) = absurd (not_open (sym e ∙ e'))
    by (standing v) = record { taken = v.taken; found = v.found; due = whole v; lines = v.lines }

-- ---- a piece of the sheet

or_first : {a : Bool} (b : Bool) → a ≡ true → (a || b) ≡ true
or_first b e = ap (λ (z : Bool). z || b) e

neither : {a b : Bool} → a ≡ false → b ≡ false → (a || b) ≡ false
neither {a} {b} e h = ap (λ (z : Bool). z || b) e ∙ h

or_so : (a : Bool) {b : Bool} → b ≡ true → (a || b) ≡ true
or_so true e = refl
or_so false e = e

module _ (j : Judging) (p : List ℕ) (last : Bool) where
  abbrev after : Compared → Judging
  after c = with_compared j (length p) last c

  -- it is decided, or the piece's bytes are used up, or more is asked of the day
  pub data Came (c : Compared) : Type 0 where
    closes : is_decided (after c).judgement ≡ true → Came c
    uses : c.bytes ≡ length p → (last ≡ true → ⊥) → Came c
    awaits : c.bytes ≡ length j.held → j.fed.over ≡ false → Came c

  closed_at : (c : Compared) → departs c (length j.held) (length p) last j.fed.over ≡ true → Came c
  closed_at c e = closes (ap is_decided (decides_at _ _ e))

  -- both have ended
  closed_after : (c : Compared) → last ≡ true → j.fed.over ≡ true → Came c
  closed_after c e o =
      on (tested (departs c (length j.held) (length p) last j.fed.over))
      (λ t. closed_at c t)
      (λ t. closes (ap is_decided (decides_same _ t (and_true e o))))

  came : (c : Compared) → Way j.held p c → Came c
  came c (apart t x y a b h ea eb d n l) = closed_at c (ap (λ (z : Bool). z || ((ltb c.bytes (length j.held) && last) || (ltb c.bytes (length p) && j.fed.over))) d)
  came c (stops x a e d n l) =
      let long : length j.held ≡ length p + suc (length a) = ap length e ∙ length-append p (x ∷ a) in
      on (tested last)
      (λ t. closed_at c (or_so c.departed (or_first (ltb c.bytes (length p) && j.fed.over) (and_true (lt-ltb c.bytes (length j.held) (omega arith)) t))))
      (λ t. uses n (λ z. absurd (clash z t)))
  came c (ends b e d n l) =
      let long : length p ≡ length j.held + length b = ap length e ∙ length-append j.held b in
      on (tested j.fed.over)
      (λ o.
      on (less c.bytes (length p))
      (λ k. closed_at c (or_so c.departed (or_so (ltb c.bytes (length j.held) && last) (and_true (lt-ltb c.bytes (length p) k) o))))
      (λ k. on (tested last) (λ t. closed_after c t o) (λ t. uses (omega arith) (λ z. absurd (clash z t)))))
      (λ o. awaits n o)

  pub comes : closed j.judgement j.lines ≡ false → Came (compared j.held p)
  comes h = came (compared j.held p) (way j.held p)

  few : (c : Compared) → Way j.held p c → (c.bytes ≤ length p) × (c.bytes ≤ length j.held)
  few c (apart t x y a b h ea eb d n l) =
      let ha : length j.held ≡ length t + suc (length a) = ap length ea ∙ length-append t (x ∷ a) in
      let hb : length p ≡ length t + suc (length b) = ap length eb ∙ length-append t (y ∷ b) in
      (omega arith, omega arith)
  few c (stops x a e d n l) = let long : length j.held ≡ length p + suc (length a) = ap length e ∙ length-append p (x ∷ a) in (omega arith, omega arith)
  few c (ends b e d n l) = let long : length p ≡ length j.held + length b = ap length e ∙ length-append j.held b in (omega arith, omega arith)

  pub bytes-few : ((compared j.held p).bytes ≤ length p) × ((compared j.held p).bytes ≤ length j.held)
  bytes-few = few (compared j.held p) (way j.held p)

  left-asks : (c : Compared) → Came c → (after c).judgement ≡ None → (c.bytes < length p) ⊎ (last ≡ true) → asks (after c) ≡ true
  left-asks c (closes e) o h = absurd (clash e (ap is_decided o))
  left-asks c (uses n e) o h = on h (λ k. absurd (omega arith)) (λ t. absurd (e t))
  left-asks c (awaits n e) o h = and_true (ap not e) (eq-eqb (length (drop c.bytes j.held)) 0 (let l = length-drop c.bytes j.held in omega arith))

abbrev Leaves : List ℕ → Bool → Taking → Type 0
Leaves p last t = t.judging.judgement ≡ None → (t.used < length p) ⊎ (last ≡ true) → asks t.judging ≡ true

none_is_left : NoneIsLeft
none_is_left s g s' g' j r p last = by (reached-status r)
  where
    by : Status s g j s' g' → Leaves p last (sheet_taking j p last)
    by (settled d e is) = subst (Leaves p last) (sym (sheet-idle j p last (decided_closed j.lines e))) (λ o h. absurd (not_open (sym o ∙ e)))
    by (standing v) = subst (Leaves p last) (sym (sheet-busy j p last (not-closed v))) (left-asks j p last (compared j.held p) (comes j p last (not-closed v)))

-- ---- calls in turn

-- each of them makes it less
unfoldable pub to_come : Judging → List ℕ → List ℕ → ℕ
to_come j s g =
    choose (is_decided j.judgement) 0
    (suc (length s + length g + (length j.held + 2 * length (remaining j.fed s)) + choose j.fed.over 0 1))

none_to_come : (j : Judging) (s g : List ℕ) → is_decided j.judgement ≡ true → to_come j s g ≡ 0
unfolding to_come
none_to_come j s g e = chosen _ e

pub some_to_come : (j : Judging) (s g : List ℕ) → j.judgement ≡ None → to_come j s g ≡ suc (length s + length g + (length j.held + 2 * length (remaining j.fed s)) + choose j.fed.over 0 1)
unfolding to_come
some_to_come j s g e = other _ (ap is_decided e)

none_decided : (j : Judging) (s g : List ℕ) → to_come j s g ≡ 0 → is_decided j.judgement ≡ true
none_decided j s g e = by j.judgement refl
  where
    by : (v : Option Departure) → j.judgement ≡ v → is_decided j.judgement ≡ true
    by None z = absurd (let k = some_to_come j s g z in omega arith)
    by (Some d) z = ap is_decided z

bit : (b : Bool) → choose b 0 1 ≤ 1
bit b = by_choice (λ (n : ℕ). n ≤ 1) b (λ e. omega arith) (λ e. omega arith)

-- less, or nothing is left anyway
abbrev Fewer : ℕ → ℕ → Type 0
Fewer n m = n ≤ m - 1

-- a piece of the sheet

module _ {s g : List ℕ} {j : Judging} {s₁ g₁ : List ℕ} (v : Standing s g j s₁ g₁) (p r : List ℕ) (last : Bool) (split : g₁ ≡ p ++ r) where
  abbrev c : Compared
  c = compared j.held p

  abbrev next : Judging
  next = with_compared j (length p) last c

  abbrev Falls : Type 0
  Falls = Fewer (to_come next s₁ (drop c.bytes g₁)) (to_come j s₁ g₁)

  moved_by : 0 < c.bytes → (w : Option Departure) → next.judgement ≡ w → Falls
  moved_by k None e =
      let long : length g₁ ≡ length p + length r = ap length split ∙ length-append p r in
      let f = bytes-few j p last in
      let f₀ = f.0 in
      let f₁ = f.1 in
      let a = some_to_come j s₁ g₁ v.still in
      let b = some_to_come next s₁ (drop c.bytes g₁) e in
      let x = length-drop c.bytes g₁ in
      let y = length-drop c.bytes j.held in
      omega arith
  moved_by k (Some d) e = let z = none_to_come next s₁ (drop c.bytes g₁) (ap is_decided e) in omega arith

  falls : asks j ≡ false → (0 < length p) ⊎ (last ≡ true) → Came j p last c → Falls
  falls turn some (closes e) = let z = none_to_come next s₁ (drop c.bytes g₁) e in omega arith
  falls turn some (uses n e) = on some (λ k. moved_by (omega arith) next.judgement refl) (λ t. absurd (e t))
  falls turn some (awaits n o) =
      on (less 0 (length j.held))
      (λ k. moved_by (omega arith) next.judgement refl)
      (λ k. absurd (clash (and_true (ap not o) (eq-eqb (length j.held) 0 (omega arith))) turn))

abbrev FewerBy : Judging → List ℕ → List ℕ → Taking → Type 0
FewerBy j s g t = Fewer (to_come t.judging s (drop t.used g)) (to_come j s g)

pub sheet-fewer : {s g : List ℕ} {j : Judging} {s₁ g₁ : List ℕ} → Status s g j s₁ g₁ → (p r : List ℕ) (last : Bool) → g₁ ≡ p ++ r → asks j ≡ false → (0 < length p) ⊎ (last ≡ true) →
    FewerBy j s₁ g₁ (sheet_taking j p last)
sheet-fewer {j = j} {s₁ = s₁} {g₁ = g₁} (settled d e is) p r last split turn some =
    subst (FewerBy j s₁ g₁) (sym (sheet-idle j p last (decided_closed j.lines e))) (let z = none_to_come j s₁ g₁ (ap is_decided e) in omega arith)
sheet-fewer {j = j} {s₁ = s₁} {g₁ = g₁} (standing v) p r last split turn some =
    subst (FewerBy j s₁ g₁) (sym (sheet-busy j p last (not-closed v))) (falls v p r last split turn some (comes j p last (not-closed v)))

-- a piece of the day

module _ {s g : List ℕ} {j : Judging} {s₁ g₁ : List ℕ} (v : Standing s g j s₁ g₁) (p r : List ℕ) (last : Bool) (room : ℕ) (split : s₁ ≡ p ++ r) (all : last ≡ true → r ≡ []) where
  abbrev call : PrintCall
  call = record { piece = p; last = last; room = room }

  abbrev printed : Judging
  printed = with_print j (answer j.fed call)

  abbrev come : List ℕ
  come = drop (answer j.fed call).used s₁

  day-falls : length j.held ≡ 0 → j.fed.over ≡ false → Moves j.fed call → Fewer (to_come printed come g₁) (to_come j s₁ g₁)
  day-falls e o m =
      let w = printed-on v p r last room split all e in
      let whole₀ = ap length (whole v) in
      let whole₁ = ap length (whole w) in
      let l₀ = length-append v.taken (j.held ++ remaining j.fed s₁) in
      let l₁ = length-append j.held (remaining j.fed s₁) in
      let kept = ap length (printed-taken v p r last room split all e) in
      let l₂ = length-append w.taken (printed.held ++ remaining printed.fed come) in
      let l₃ = length-append printed.held (remaining printed.fed come) in
      let long : length s₁ ≡ length p + length r = ap length split ∙ length-append p r in
      let u = (print-laws.within j.fed call).1 in
      let a = some_to_come j s₁ g₁ v.still in
      let b = some_to_come printed come g₁ v.still in
      let d = length-drop (answer j.fed call).used s₁ in
      let was : ◌≡◌ {A = ℕ} (choose j.fed.over 0 1) 1 = other 0 o in
      let is = bit printed.fed.over in
      on m.so
      (λ k. omega arith)
      (λ n. on n (λ k. omega arith) (λ t. let over : ◌≡◌ {A = ℕ} (choose printed.fed.over 0 1) 0 = chosen 1 t in omega arith))

pub day-fewer : {s g : List ℕ} {j : Judging} {s₁ g₁ : List ℕ} → Status s g j s₁ g₁ → (p r : List ℕ) (last : Bool) (room : ℕ) → s₁ ≡ p ++ r → (last ≡ true → r ≡ []) →
    asks j ≡ true → step_bytes ≤ room → (0 < length p) ⊎ (last ≡ true) →
    Fewer (to_come (day_taking j p last room).judging (drop (day_taking j p last room).used s₁) g₁) (to_come j s₁ g₁)
day-fewer {s} {g} {j} {s₁} {g₁} (settled d e is) p r last room split all turn fit some =
    subst (λ (t : Taking). Fewer (to_come t.judging (drop t.used s₁) g₁) (to_come j s₁ g₁)) (sym (day-idle j p last room (or_first _ (decided_closed j.lines e))))
    (let z = none_to_come j s₁ g₁ (ap is_decided e) in omega arith)
day-fewer {s} {g} {j} {s₁} {g₁} (standing v) p r last room split all turn fit some =
    let o : j.fed.over ≡ false = not_so j.fed.over (fst_true (not j.fed.over) (eqb (length j.held) 0) turn) in
    let n : length j.held ≡ 0 = eqb-true (length j.held) 0 (snd_true (not j.fed.over) (eqb (length j.held) 0) turn) in
    let busy : sated j ≡ false = neither (not-closed v) (le-ltb 0 (length j.held) (omega arith)) in
    subst (λ (t : Taking). Fewer (to_come t.judging (drop t.used s₁) g₁) (to_come j s₁ g₁)) (sym (day-busy j p last room busy))
    (day-falls v p r last room split all n o
    (print-laws.moves s s₁ v.printed v.made j.fed v.calls (record { piece = p; last = last; room = room }) (record { room = fit; more = some }) o))

-- no more is taken than the piece has

pub day-few : (j : Judging) (p : List ℕ) (last : Bool) (room : ℕ) → (day_taking j p last room).used ≤ length p
unfolding day_taking
day-few j p last room = by_choice (λ (t : Taking). t.used ≤ length p) (sated j) (λ e. omega arith) (λ e. (print-laws.within j.fed (record { piece = p; last = last; room = room })).1)

pub sheet-few : (j : Judging) (p : List ℕ) (last : Bool) → (sheet_taking j p last).used ≤ length p
unfolding sheet_taking
sheet-few j p last = by_choice (λ (t : Taking). t.used ≤ length p) (closed j.judgement j.lines) (λ e. omega arith) (λ e. (bytes-few j p last).0)

-- ---- as many as that decide

enough :
    {s g : List ℕ} {j j' : Judging} {s₁ g₁ s' g' : List ℕ} {cs : List Call} →
    Calls InTurn j s₁ g₁ cs j' s' g' → Status s g j s₁ g₁ → to_come j s₁ g₁ ≤ length cs → is_decided j'.judgement ≡ true
enough {j = j} {s₁ = s₁} {g₁ = g₁} none v n = none_decided j s₁ g₁ (omega arith)
enough {s} {g} (takes_day {j} {s = s₁} {g = g₁} {p = p} {rest = r} {last = last} {room = room} (day_next turn fit some) is all more) v n =
    let z = day-fewer v p r last room is all turn fit some in
    enough more (day-next s g j s₁ g₁ v p r last room is all) (omega arith)
enough {s} {g} (takes_sheet {j} {s = s₁} {g = g₁} {p = p} {rest = r} {last = last} (sheet_next turn some) is all more) v n =
    let z = sheet-fewer v p r last is turn some in
    enough more (sheet-next s g j s₁ g₁ v p r last is all) (omega arith)

-- ---- what is asked of the day

few-held : {s g : List ℕ} {j : Judging} {s' g' : List ℕ} → Standing s g j s' g' → length j.held + length (remaining j.fed s') ≤ length (sheet s)
few-held {j = j} {s' = s'} v =
    let a = ap length (whole v) in
    let b = length-append v.taken (j.held ++ remaining j.fed s') in
    let c = length-append j.held (remaining j.fed s') in
    omega arith

asks_none : (j : Judging) → asks j ≡ true → (j.fed.over ≡ false) × (length j.held ≡ 0)
asks_none j e =
    (not_so j.fed.over (fst_true (not j.fed.over) (eqb (length j.held) 0) e), eqb-true (length j.held) 0 (snd_true (not j.fed.over) (eqb (length j.held) 0) e))

abbrev Used : List ℕ → Bool → Taking → Type 0
Used p last t = asks t.judging ≡ true → UsedUp p last t

-- where nothing is printed and it is not over, nothing is to be done
used_up : {s g : List ℕ} {j : Judging} {s' g' : List ℕ} → Standing s g j s' g' → (p : List ℕ) (last : Bool) (room : ℕ) → step_bytes ≤ room → sated j ≡ false → Used p last (day_taking j p last room)
used_up {j = j} v p last room fit e =
    let t = print j.fed p last room in
    subst (Used p last) (sym (day-busy j p last room e))
    (λ a.
    let none = asks_none (with_print j t) a in
    let few = (print-laws.within j.fed (record { piece = p; last = last; room = room })).1 in
    on (idle_why t.fed.over (waits t.fed) (ltb 0 (length (drop t.used p))) last (idle-after j.fed p last room (calls-bounded v.calls fed-laws.bounded) fit none.1))
    (λ o. absurd (clash o none.0))
    (λ w.
    let l = length-drop t.used p in
    let z = ltb-false 0 (length (drop t.used p)) w.1 in
    record { all = omega arith; more = w.2; done = w.0 }))

asks_when_used_up : AsksWhenUsedUp
asks_when_used_up s g s' g' j r p last room fit = by (reached-status r)
  where
    by : Status s g j s' g' → j.judgement ≡ None → Used p last (day_taking j p last room)
    by (settled d e is) o = absurd (not_open (sym o ∙ e))
    by (standing v) o =
        on (tested (sated j))
        (λ e. subst (Used p last) (sym (day-idle j p last room e)) (λ a. absurd (clash e (neither (not-closed v) (le-ltb 0 (length j.held) (let n = (asks_none j a).1 in omega arith))))))
        (λ e. used_up v p last room fit e)

not_read_beyond : NotReadBeyond
unfolding day_taking
not_read_beyond j p last room o =
    by_choice (λ (t : Taking). t.used ≡ 0) (sated j) (λ e. refl) (λ e. ap (λ (x : Print). x.used) (print-idle j.fed p last room (and_left _ (ap not o))))

calls_in_turn_decide : CallsInTurnDecide
calls_in_turn_decide s g s₁ g₁ s' g' cs i j r c n = by (reached-status r)
  where
    by : Status s g i s₁ g₁ → is_decided j.judgement ≡ true
    by (settled d e is) = enough c (settled d e is) (let z = none_to_come i s₁ g₁ (ap is_decided e) in omega arith)
    by (standing v) = enough c (standing v) (let a = some_to_come i s₁ g₁ v.still in let b = bit i.fed.over in let f = few-held v in omega arith)

pub laws : Laws
laws = record { begins = λ s g. record { made = []; calls = none }; day = day_may_come; sheet = sheet_may_come; stays = decided_stays; judges = every_way; due = open_is_as_due; left = none_is_left; asks = asks_when_used_up; beyond = not_read_beyond; decide = calls_in_turn_decide; short = sheets_are_short }
