-- Lines that are read have times of the day, periods in their range and no great numbers. Assumes
-- nothing.
use mathlib.Core.Bool.{false, ◌&&◌}
use mathlib.Core.Path.{◌≡◌, refl, sym, ap, ap₂, ◌∙◌}
use mathlib.Core.List.{List, [], ◌∷◌, ◌++◌}
use Prim.Native.Nat.{ℕ, ◌≤◌, ◌<◌}
use native.Mathlib.Omega.{arith}
use borrow.Author.Tests.{eqb-true, leb-true}
use lib.Dec.{leb, eqb}
use lib.ListN.{get_or}
use Rattle.lists.specs.Choice.{choose}
use Rattle.lists.proofs.Cases.{tested, on, chosen, other, by_choice, fst_true, snd_true}
use Rattle.refusal.specs.Answer.{Answer, accepted, in_turn}
use Rattle.text.specs.Number.{value, well_written, read_number}
use Rattle.text.specs.Line.{read_line, field}
use Rattle.timecode.specs.Label.{day_length}
use Rattle.timecode.specs.Read.{is_label, read_timecode}
use Rattle.timecode.proofs.Labels.{is-label, in_day_lem}
use Rattle.heartbeat.specs.Rank.{read_identity, read_priority}
use Rattle.roles.specs.declared.Verb.{Verb}
use Rattle.roles.specs.Verbs.{paired}
use Rattle.periods.specs.Period.{least_period, greatest_period}
use Rattle.day.specs.Read.{DayLine, Named, called, unknown, when_good, having, entry_fields, entry_line, verb_named, body_read, line_read}
use Rattle.feeding.specs.Steps.{Sized}

-- an answer: a small number, or at most one value, which is below m
record Fair (m : ℕ) (a : Answer) : Type 0 where
  number : a.number < 100
  value : a.number ≡ 0 → get_or a.values 0 0 < m
  one : a.number ≡ 0 → a.values ≡ get_or a.values 0 0 ∷ []

fair_number : (lo hi m : ℕ) (s : List ℕ) → hi < m → Fair m (read_number lo hi s)
unfolding read_number
fair_number lo hi m s h =
    by_choice (Fair m) (well_written s && (leb lo (value s) && leb (value s) hi))
    (λ t.
    let le = leb-true (value s) hi (snd_true (leb lo (value s)) _ (snd_true (well_written s) _ t)) in
    record { number = omega arith; value = λ z. omega arith; one = λ z. refl })
    (λ t. record { number = omega arith; value = λ z. absurd (omega arith); one = λ z. absurd (omega arith) })

-- and it is in its range
number-within :
    (lo hi : ℕ) (s : List ℕ) → (read_number lo hi s).number ≡ 0 → (lo ≤ get_or (read_number lo hi s).values 0 0) × (get_or (read_number lo hi s).values 0 0 ≤ hi)
unfolding read_number
number-within lo hi s =
    by_choice (λ (a : Answer). a.number ≡ 0 → (lo ≤ get_or a.values 0 0) × (get_or a.values 0 0 ≤ hi)) (well_written s && (leb lo (value s) && leb (value s) hi))
    (λ t z.
    let r = snd_true (well_written s) _ t in
    (leb-true lo (value s) (fst_true _ (leb (value s) hi) r), leb-true (value s) hi (snd_true (leb lo (value s)) _ r)))
    (λ t z. absurd (omega arith))

fair_time : (s : List ℕ) → Fair day_length (read_timecode s)
unfolding read_timecode
fair_time s =
    by_choice (Fair day_length) (is_label s)
    (λ t. record { number = omega arith; value = λ z. in_day_lem s (is-label s t); one = λ z. refl })
    (λ t. record { number = omega arith; value = λ z. absurd (omega arith); one = λ z. absurd (omega arith) })

-- two in turn
turn_small : (a b : Answer) → a.number < 100 → b.number < 100 → (in_turn a b).number < 100
unfolding in_turn
turn_small a b p q =
    by_choice (λ (x : Answer). x.number < 100) (eqb a.number 0)
    (λ t. by_choice (λ (x : Answer). x.number < 100) (eqb b.number 0) (λ t. omega arith) (λ t. q))
    (λ t. p)

record Both (a b : Answer) : Type 0 where
  first : a.number ≡ 0
  second : b.number ≡ 0
  values : (in_turn a b).values ≡ a.values ++ b.values

turn-good : (a b : Answer) → (in_turn a b).number ≡ 0 → Both a b
unfolding in_turn
turn-good a b e =
    on (tested (eqb a.number 0))
    (λ t.
    on (tested (eqb b.number 0))
    (λ u. record { first = eqb-true _ 0 t; second = eqb-true _ 0 u; values = ap (λ (x : Answer). x.values) (chosen _ t ∙ chosen _ u) })
    (λ u.
    let z : b.number ≡ 0 = sym (ap (λ (x : Answer). x.number) (chosen _ t ∙ other _ u)) ∙ e in
    record { first = eqb-true _ 0 t; second = z; values = absurd (no_zero u z) }))
    (λ t. absurd (no_zero t (sym (ap (λ (x : Answer). x.number) (other _ t)) ∙ e)))
  where
    no_zero : {n : ℕ} → eqb n 0 ≡ false → n ≡ 0 → ⊥
    no_zero {n} t z = borrow.Author.Tests.eqb-false n 0 t z

good_or_wrong : (a : Answer) (f : List ℕ → DayLine) → a.number < 100 → (a.number ≡ 0 → Sized (f a.values)) → Sized (when_good a f)
unfolding when_good
good_or_wrong a f p h = by_choice Sized (eqb a.number 0) (λ t. h (eqb-true _ 0 t)) (λ t. p)

counted_or_wrong : (n : ℕ) (s : List ℕ) (l : DayLine) → Sized l → Sized (having n s l)
unfolding having
counted_or_wrong n s l h = by_choice Sized _ (λ t. h) (λ t. omega arith)

identity : (s : List ℕ) → Fair 65536 (read_identity s)
identity s = fair_number 1 65535 65536 s (omega arith)

-- the second identity, of a verb that has one
second : (v : Verb) (s : List ℕ) → ((choose (paired v) (read_identity s) (accepted [])).number < 100) × ((choose (paired v) (read_identity s) (accepted [])).number ≡ 0 → get_or (choose (paired v) (read_identity s) (accepted [])).values 0 0 < 65536)
second v s =
    by_choice (λ (a : Answer). (a.number < 100) × (a.number ≡ 0 → get_or a.values 0 0 < 65536)) (paired v)
    (λ t. ((identity s).number, (identity s).value)) (λ t. (omega arith, λ z. omega arith))

entry_sized : (w : Named) (s : List ℕ) → Sized (entry_line w s)
entry_sized unknown s = omega arith
entry_sized (called v) s =
    let t = read_timecode (field s 0) in
    let a = read_identity (field s 2) in
    let b = choose (paired v) (read_identity (field s 3)) (accepted []) in
    let ft = fair_time (field s 0) in
    let fa = identity (field s 2) in
    let fb = second v (field s 3) in
    counted_or_wrong _ s _
    (good_or_wrong (entry_fields v s) _ (turn_small t (in_turn a b) ft.number (turn_small a b fa.number fb.0))
    (λ e.
    let x = turn-good t (in_turn a b) e in
    let y = turn-good a b x.second in
    let is : (entry_fields v s).values ≡ get_or t.values 0 0 ∷ get_or a.values 0 0 ∷ b.values = x.values ∙ ap₂ (λ (p q : List ℕ). p ++ q) (ft.one x.first) (y.values ∙ ap (λ (p : List ℕ). p ++ b.values) (fa.one y.first)) in
    let zeroth : get_or (entry_fields v s).values 0 0 ≡ get_or t.values 0 0 = ap (λ (p : List ℕ). get_or p 0 0) is in
    let one : get_or (entry_fields v s).values 1 0 ≡ get_or a.values 0 0 = ap (λ (p : List ℕ). get_or p 1 0) is in
    let two : get_or (entry_fields v s).values 2 0 ≡ get_or b.values 0 0 = ap (λ (p : List ℕ). get_or p 2 0) is in
    (omega (arith, zeroth, ft.value x.first), omega (arith, one, fa.value y.first), omega (arith, two, fb.1 y.second))))

body_sized : (s : List ℕ) → Sized (body_read s)
unfolding body_read
body_sized s =
    by_choice Sized _
    (λ t. counted_or_wrong 2 s _ (good_or_wrong _ _ (fair_number least_period greatest_period 65536 (field s 1) (omega arith)).number (λ e. number-within least_period greatest_period (field s 1) e)))
    (λ t.
    by_choice Sized _
    (λ t.
    let a = read_identity (field s 1) in
    let b = read_priority (field s 2) in
    let fa = identity (field s 1) in
    let fb = fair_number 0 255 65536 (field s 2) (omega arith) in
    counted_or_wrong 3 s _
    (good_or_wrong (in_turn a b) _ (turn_small a b fa.number fb.number)
    (λ e.
    let x = turn-good a b e in
    let is : get_or (in_turn a b).values 0 0 ≡ get_or a.values 0 0 = ap (λ (p : List ℕ). get_or p 0 0) (x.values ∙ ap (λ (p : List ℕ). p ++ b.values) (fa.one x.first)) in
    omega (arith, is, fa.value x.first))))
    (λ t.
    by_choice Sized _
    (λ t. counted_or_wrong 2 s _ (good_or_wrong _ _ (fair_time (field s 1)).number (λ e. (fair_time (field s 1)).value e)))
    (λ t. entry_sized (verb_named (field s 1)) s)))

pub read_sized : (l : List ℕ) → Sized (line_read l)
unfolding line_read
read_sized l =
    on (tested (eqb (read_line l).number 0))
    (λ t. rw (t, line_read) (body_sized _))
    (λ t. rw (t, line_read) (omega arith))
