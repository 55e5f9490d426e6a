-- Every way of feeding prints the sheet. Assumes nothing.
use mathlib.Core.Bool.{Bool, true, false, not, ◌&&◌}
use mathlib.Core.Path.{◌≡◌, refl, sym, ap, ◌∙◌}
use mathlib.Core.List.{List, [], ◌∷◌, ◌++◌, append_assoc}
use Prim.Native.Nat.{ℕ, zero, suc, ◌+◌, ◌-◌, ◌≤◌, ◌<◌}
use native.Mathlib.Omega.{arith}
use borrow.Author.Tests.{eq-eqb, ne_eqb, le-leb, lt-leb}
use lib.ListN.{length, drop, replicate, length-drop, length-replicate}
use Rattle.lists.proofs.Cases.{equal, less, tested, on, clash, chosen, other, by_choice, same_choice}
use Rattle.group.specs.declared.State.{State}
use Rattle.group.specs.Verbs.{known}
use Rattle.group.specs.Frame.{frame_lines}
use Rattle.group.specs.Advance.{advanced_by, lines_by, fitting}
use Rattle.group.proofs.Laws.{fit_bounds}
use Rattle.group.proofs.Places.{frame-after}
use Rattle.day.specs.Read.{DayLine, wrong, period, server, entry, end, line_read}
use Rattle.day.specs.Day.{begin, Effect, stop, go, on as during, atEntries, last_line, line_effect, beyond}
use Rattle.day.specs.Sheet.{header, sheet, sheet_from}
use Rattle.feeding.specs.Fed.{Fed, beginning, whole_line, closed, waits, taken, taken_bytes, before, remaining}
use Rattle.feeding.specs.Moves.{Move, nothing, effect_move, place_refusal, frames_due, due_frames, frames_now, advancing, placed_move, line_move, step_move, both, steps_move, last_move}
use Rattle.feeding.specs.Laws.{BeginsWithAll, PairsPrintWhatIsNext, TakingGoesOn, steps_left, PairsGoOn, Feeding, takes, next, steps, pairs, ends, over, joined, PiecesPrintTheSheet, EveryDayIsFed, Laws}
use Rattle.feeding.proofs.Taking.{whole-none, count-more}
use Rattle.feeding.proofs.Remaining.{left_over, left-on, left-part, piece-left}
use Rattle.feeding.proofs.Calling.{none-fits}
use Rattle.feeding.proofs.Moving.{same_known, now-some, step_left}
use Rattle.feeding.proofs.Bounding.{begins-bounded, taking-bounded, stepping-bounded, pairs-bounded, steps-fit, pairs-fit, last_fits}
use Rattle.feeding.proofs.Finishing.{not-waiting, last-left}

begins_with_all : BeginsWithAll
unfolding sheet before
begins_with_all s = ap (λ (w : List ℕ). header ++ w) (left-on beginning s refl ∙ ap (sheet_from 1 begin) (left-part [] s whole-none))

taking_goes_on : TakingGoesOn
taking_goes_on f x s e = omega (arith, count-more f x s e)

-- ---- steps

-- frames that are due after k of them
due-less : (k t : ℕ) (c : State) → 0 < k → k ≤ t - c.frame → t - (advanced_by k c).frame < t - c.frame
due-less k t c p h = omega (arith, frame-after k c)

frames-less : (k : ℕ) (c : State) (l : DayLine) → 0 < k → k ≤ frames_due c l → frames_due (advanced_by k c) l < frames_due c l
frames-less k c (wrong n) p h = absurd (omega arith)
frames-less k c (period n) p h = absurd (omega arith)
frames-less k c (server i n) p h = absurd (omega arith)
frames-less k c (entry t v a b) p h =
    on (tested (known c v a b))
    (λ e.
    let before-it : frames_due c (entry t v a b) ≡ t - c.frame = chosen 0 e in
    let after-it : frames_due (advanced_by k c) (entry t v a b) ≡ t - (advanced_by k c).frame = chosen 0 (same_known k c v a b ∙ e) in
    omega (arith, due-less k t c p (omega arith)))
    (λ e. absurd (let z : frames_due c (entry t v a b) ≡ 0 = other _ e in omega arith))
frames-less k c (end t) p h = due-less k t c p h

pub left-none : (f : Fed) → waits f ≡ false → steps_left f ≡ 0
unfolding steps_left
left-none f e = other _ e

module _ (f : Fed) where
  left-some : waits f ≡ true → f.number ≤ last_line → steps_left f ≡ suc (due_frames f.day (line_read f.line))
  unfolding steps_left
  left-some e h = chosen _ e ∙ ap suc (chosen 0 (le-leb f.number last_line h))

  left_pos : waits f ≡ true → 0 < steps_left f
  unfolding steps_left
  left_pos e = let z : steps_left f ≡ suc _ = chosen 0 e in omega arith

  done : (x : Effect) → waits (effect_move f x).fed ≡ false
  unfolding whole_line
  done (stop n) = refl
  done (go w e) = and_none (not f.over)
    where
      and_none : (b : Bool) → (b && false) ≡ false
      and_none true = refl
      and_none false = refl

  module _ (room : ℕ) (e : waits f ≡ true) where
    abbrev line : DayLine
    line = line_read f.line

    effect_less : (x : Effect) → steps_left (effect_move f x).fed < steps_left f
    effect_less x = omega (arith, left-none (effect_move f x).fed (done x), left_pos e)

    advance-less : f.number ≤ last_line → (due_frames f.day line ≡ 0 → ⊥) → steps_left (advancing f f.day.channel (frames_now f.day.channel (due_frames f.day line) room)).fed < steps_left f
    unfolding due_frames place_refusal steps_left
    advance-less h some =
        let c = f.day.channel in
        let n = due_frames f.day line in
        let k = frames_now c n room in
        let g : Fed = record { over = f.over; number = f.number; line = f.line; day = during atEntries (advanced_by k c) } in
        let place : place_refusal f.day.stage c ≡ 0 = on (equal (place_refusal f.day.stage c) 0) (λ z. z) (λ z. absurd (some (other _ (ne_eqb _ 0 z)))) in
        let is : n ≡ frames_due c line = chosen 0 (eq-eqb _ 0 place) in
        let pos : 0 < n = on (equal n 0) (λ z. absurd (some z)) (λ z. omega arith) in
        let bounds = now-some c n room pos in
        let then : steps_left g ≡ suc (frames_due (advanced_by k c) line) = chosen 0 e ∙ ap suc (chosen 0 (le-leb f.number last_line h) ∙ chosen 0 refl) in
        omega (arith, then, left-some e h, is, frames-less k c line bounds.0 (omega (arith, bounds.1, is)))

    step_less : steps_left (step_move f room).fed < steps_left f
    unfolding step_move line_move placed_move
    step_less =
        rw (chosen _ e)
        (on (less last_line f.number)
        (λ h. rw (other _ (lt-leb f.number last_line h)) (effect_less (beyond line)))
        (λ h.
        rw (chosen _ (le-leb f.number last_line h))
        (on (equal (due_frames f.day line) 0)
        (λ z. rw (chosen _ (eq-eqb _ 0 z)) (effect_less (line_effect f.day line)))
        (λ z. rw (other _ (ne_eqb _ 0 z)) (advance-less h z)))))

  abbrev Kept : Move → Type 0
  Kept m = waits m.fed ≡ true → m.fed.line ≡ f.line

  effect_kept : (x : Effect) → Kept (effect_move f x)
  effect_kept x e = absurd (clash e (done x))

  -- a line that still waits is kept
  pub line_kept : (room : ℕ) (l : DayLine) → waits (line_move f room l).fed ≡ true → (line_move f room l).fed.line ≡ f.line
  unfolding line_move placed_move
  line_kept room l = by_choice Kept _ (λ t. by_choice Kept _ (λ t. effect_kept (line_effect f.day l)) (λ t e. refl)) (λ t. effect_kept (beyond l))

-- ---- two steps

module _ (m n : Move) {room : ℕ} where
  pub both_so : length (m.lines ++ n.lines) ≤ room → record { lines = m.lines ++ n.lines; fed = n.fed } ≡ both m n room
  unfolding both
  both_so h = sym (chosen _ (le-leb (length (m.lines ++ n.lines)) room h))

  pub both-not : room < length (m.lines ++ n.lines) → m ≡ both m n room
  unfolding both
  both-not h = sym (other _ (lt-leb (length (m.lines ++ n.lines)) room h))

module _ (f : Fed) (e : waits f ≡ false) where
  pub step-idle : (room : ℕ) → step_move f room ≡ nothing f
  unfolding step_move
  step-idle room = other _ e

  pub pairs-idle : (room : ℕ) → nothing f ≡ steps_move f room
  unfolding both
  pairs-idle room =
      sym
      (ap (λ (x : Move). both x (step_move x.fed (room - length x.lines)) room) (step-idle room)
      ∙ ap (λ (x : Move). both (nothing f) x room) (step-idle (room - 0))
      ∙ same_choice _ (nothing f))

pub step_is : (f : Fed) (room : ℕ) {l : DayLine} → waits f ≡ true → l ≡ line_read f.line → line_move f room l ≡ step_move f room
unfolding step_move
step_is f room e q = ap (line_move f room) q ∙ sym (chosen _ e)

pairs-left : PairsPrintWhatIsNext
unfolding both
pairs-left f room s =
    let m = step_move f room in
    let k = room - length m.lines in
    by_choice (λ (x : Move). remaining f s ≡ x.lines ++ remaining x.fed s) _
    (λ t. step_left f room s ∙ ap (λ (x : List ℕ). m.lines ++ x) (step_left m.fed k s) ∙ sym (append_assoc m.lines (step_move m.fed k).lines _))
    (λ t. step_left f room s)

-- a step never makes them more
step_no_more : (f : Fed) (room : ℕ) → steps_left (step_move f room).fed ≤ steps_left f
step_no_more f room = on (tested (waits f)) (λ e. omega (arith, step_less f room e)) (λ e. rw (step-idle f e room) (omega arith))

pairs-less : PairsGoOn
unfolding both
pairs-less f room e =
    let m = step_move f room in
    by_choice (λ (x : Move). steps_left x.fed < steps_left f) _
    (λ t. omega (arith, step_less f room e, step_no_more m.fed (room - length m.lines)))
    (λ t. step_less f room e)

-- ---- every feeding

prints : (f : Fed) (ps : List (List ℕ)) {w : List ℕ} → Feeding f ps w → w ≡ remaining f (joined ps)
prints f (p ∷ ps) (takes r) = prints (taken f p) (drop (taken_bytes f p) p ∷ ps) r ∙ piece-left f p (joined ps)
prints f ([] ∷ ps) (next r) = prints f ps r
prints f ps (steps d q r) =
    ap (λ (x : List ℕ). (step_move f (length d)).lines ++ x) (prints (step_move f (length d)).fed ps r) ∙ sym (step_left f (length d) (joined ps))
prints f ps (pairs d q r) =
    ap (λ (x : List ℕ). (steps_move f (length d)).lines ++ x) (prints (steps_move f (length d)).fed ps r) ∙ sym (pairs-left f (length d) (joined ps))
prints f [] (ends e) = sym (last-left f e)
prints f ps (over e) = sym (left_over f (joined ps) e)

pieces-print : PiecesPrintTheSheet
pieces-print ps w r = ap (λ (x : List ℕ). header ++ x) (prints beginning ps r) ∙ begins_with_all (joined ps)

-- ---- there is one

-- so much room is enough for the next step
module _ (f : Fed) where
  room_for : ℕ
  room_for = length (step_move f 0).lines + length (frame_lines f.day.channel)

  room_fits : length (step_move f room_for).lines ≤ room_for
  unfolding room_for step_move line_move placed_move frames_now
  room_fits =
      let c = f.day.channel in
      let line = line_read f.line in
      let n = due_frames f.day line in
      let same : (x : Move) → step_move f room_for ≡ x → step_move f 0 ≡ x → length (step_move f room_for).lines ≤ room_for = λ x p q. omega (arith, ap (λ (m : Move). length m.lines) p, ap (λ (m : Move). length m.lines) q) in
      on (tested (waits f))
      (λ e.
      on (less last_line f.number)
      (λ h. let b = lt-leb f.number last_line h in same _ (chosen _ e ∙ other _ b) (chosen _ e ∙ other _ b))
      (λ h.
      let b = le-leb f.number last_line h in
      on (equal n 0)
      (λ z. let t = eq-eqb n 0 z in same _ (chosen _ e ∙ chosen _ b ∙ chosen _ t) (chosen _ e ∙ chosen _ b ∙ chosen _ t))
      (λ z.
      let some : fitting n c room_for ≡ 0 → ⊥ = λ y. omega (arith, none-fits n c room_for (omega arith) y) in
      let k : frames_now c n room_for ≡ fitting n c room_for = other 1 (ne_eqb _ 0 some) in
      let is : (step_move f room_for).lines ≡ lines_by (frames_now c n room_for) c = ap (λ (m : Move). m.lines) (chosen _ e ∙ chosen _ b ∙ other _ (ne_eqb n 0 z)) in
      omega (arith, ap length (is ∙ ap (λ (i : ℕ). lines_by i c) k), (fit_bounds n c room_for).1))))
      (λ e. same _ (other _ e) (other _ e))

record FedOn (f : Fed) (ps : List (List ℕ)) : Type 0 where
  printed : List ℕ
  feeding : Feeding f ps printed

-- steps, until no whole line is to be done
step-on : (n : ℕ) (f : Fed) (ps : List (List ℕ)) → steps_left f ≤ n → ((g : Fed) → waits g ≡ false → FedOn g ps) → FedOn f ps
step-on zero f ps h k = on (tested (waits f)) (λ e. absurd (omega (arith, left_pos f e))) (λ e. k f e)
step-on (suc n) f ps h k =
    on (tested (waits f))
    (λ e.
    let d = replicate (room_for f) 0 in
    let long : length d ≡ room_for f = length-replicate (room_for f) 0 in
    let r = step-on n (step_move f (length d)).fed ps (omega (arith, step_less f (length d) e)) k in
    record {
      printed = (step_move f (length d)).lines ++ r.printed;
      feeding = steps d (le-leb (0 + length (step_move f (length d)).lines) (length d) (omega (arith, room_fits f, ap (λ (m : ℕ). length (step_move f m).lines) long))) r.feeding;
    })
    (λ e. k f e)

-- a piece, shorter ones being dealt with
one_piece :
    (p : List ℕ) (ps : List (List ℕ)) → ((g : Fed) → waits g ≡ false → FedOn g ps) → ((q : List ℕ) → length q < length p → (g : Fed) → waits g ≡ false → FedOn g (q ∷ ps)) →
    (f : Fed) → waits f ≡ false → FedOn f (p ∷ ps)
one_piece [] ps k again f e = let r = k f e in record { printed = r.printed; feeding = next r.feeding }
one_piece (x ∷ s) ps k again f e =
    on (tested (closed f))
    (λ t. record { printed = []; feeding = over (not-waiting f.over (whole_line f.line) e t) })
    (λ t.
    let rest = drop (taken_bytes f (x ∷ s)) (x ∷ s) in
    let shorter : length rest < length (x ∷ s) = omega (arith, length-drop (taken_bytes f (x ∷ s)) (x ∷ s), taking_goes_on f x s t) in
    let r = step-on (steps_left (taken f (x ∷ s))) (taken f (x ∷ s)) (rest ∷ ps) (omega arith) (again rest shorter) in
    record { printed = r.printed; feeding = takes r.feeding })

piece-on : (n : ℕ) (p : List ℕ) (ps : List (List ℕ)) → length p < n → ((g : Fed) → waits g ≡ false → FedOn g ps) → (f : Fed) → waits f ≡ false → FedOn f (p ∷ ps)
piece-on zero p ps h k f e = absurd (omega arith)
piece-on (suc n) p ps h k f e = one_piece p ps k (λ q l. piece-on n q ps (omega arith) k) f e

pieces-on : (ps : List (List ℕ)) (f : Fed) → waits f ≡ false → FedOn f ps
pieces-on [] f e = record { printed = (last_move f).lines; feeding = ends e }
pieces-on (p ∷ ps) f e = piece-on (suc (length p)) p ps (omega arith) (pieces-on ps) f e

every_day_is_fed : EveryDayIsFed
every_day_is_fed ps = let r = pieces-on ps beginning whole-none in record { printed = r.printed; feeding = r.feeding }

-- ---- all of them

pub laws : Laws
laws =
    record {
      begins = begins_with_all;
      takes = piece-left;
      steps = step_left;
      pairs = pairs-left;
      last = last-left;
      over = left_over;
      taking = taking_goes_on;
      stepping = λ f room e. step_less f room e;
      pairing = pairs-less;
      pieces = pieces-print;
      fed = every_day_is_fed;
      bounded = begins-bounded;
      taking-bounded = taking-bounded;
      stepping-bounded = stepping-bounded;
      pairing-bounded = pairs-bounded;
      fit = steps-fit;
      pairs-fit = pairs-fit;
      last_fits = last_fits;
    }
