-- One turn. Assumes nothing.
use mathlib.Core.Bool.{Bool, true, false, not, ◌&&◌, ◌||◌}
use mathlib.Core.Path.{◌≡◌, refl, sym, ap, ◌∙◌}
use mathlib.Core.List.{List, [], ◌∷◌, ◌++◌, append-nil}
use mathlib.Core.Logic.{◌⊎◌, inl, inr}
use Prim.Native.Nat.{ℕ, ◌+◌, ◌-◌, ◌≤◌, ◌<◌}
use native.Mathlib.Omega.{arith}
use borrow.Author.Tests.{lt-ltb, ltb-false}
use lib.Dec.{ltb, leb, eqb}
use lib.ListN.{length, drop}
use Rattle.lists.specs.Choice.{choose}
use Rattle.lists.proofs.Cases.{tested, on, clash, chosen, other, by_choice, or_false, and_true, snd_true}
use Rattle.timecode.specs.Label.{day_length}
use Rattle.group.specs.Verbs.{known}
use Rattle.group.specs.declared.State.{State}
use Rattle.day.specs.Read.{DayLine, wrong, period, server, entry, end, line_read}
use Rattle.day.specs.Day.{last_line}
use Rattle.feeding.specs.Fed.{Fed, with_byte, whole_line, closed, waits, taken_bytes, remaining}
use Rattle.feeding.specs.Moves.{Move, nothing, place_refusal, frames_due, due_frames, steps_move, last_move}
use Rattle.feeding.specs.Bound.{step_bytes, Bounded}
use Rattle.feeding.specs.Laws.{steps_left}
use Rattle.feeding.specs.Steps.{Sized}
use Rattle.feeding.proofs.Remaining.{left_over}
use Rattle.feeding.proofs.Sizing.{read_sized}
use Rattle.feeding.proofs.Finishing.{not-waiting, last-closed}
use Rattle.feeding.proofs.Laws.{left-none, laws}
use Rattle.feeding.proofs.Taking.{or_so, taken_none, count-more, count_none}
use Rattle.printer.specs.Print.{rest_move, turn_move, turns_left}
use Rattle.printer.specs.Steps.{busy}

-- ---- which kind of turn it is

module _ (f : Fed) (s : List ℕ) (last : Bool) (room : ℕ) where
  pub turn_step : waits f ≡ true → turn_move f s last room ≡ steps_move f room
  unfolding turn_move
  turn_step e = chosen _ e

  pub turn-rest : waits f ≡ false → turn_move f s last room ≡ rest_move f s last
  unfolding turn_move
  turn-rest e = other _ e

either : (a b : Bool) → b ≡ true → (a || b) ≡ true
either true b e = refl
either false b e = e

module _ (f : Fed) (s : List ℕ) where
  -- a whole line is done before bytes are taken
  pub none-taken : waits f ≡ true → taken_bytes f s ≡ 0
  none-taken e = count_none f s (either f.over (whole_line f.line) (snd_true (not f.over) (whole_line f.line) e))

  over_shut : f.over ≡ true → (closed f ≡ true) × (waits f ≡ false)
  over_shut e = (or_so (whole_line f.line) e, ap (λ (b : Bool). not b && whole_line f.line) e)

  over_open : f.over ≡ false → waits f ≡ false → closed f ≡ false
  over_open o e = on (tested (closed f)) (λ t. absurd (clash (not-waiting f.over (whole_line f.line) e t) o)) (λ t. t)

busy-piece : (w n l : Bool) → n ≡ true → (w || (n || l)) ≡ true
busy-piece true n l e = refl
busy-piece false n l e = or_so l e

busy-end : (w n l : Bool) → l ≡ true → (w || (n || l)) ≡ true
busy-end true n l e = refl
busy-end false n l e = either n l e

-- bytes, or the end of the input, where the sheet is not over
pub busy-more : (f : Fed) (s : List ℕ) (last : Bool) → f.over ≡ false → ((0 < length s) ⊎ (last ≡ true)) → busy f s last ≡ true
busy-more f s last o (inl h) = and_true (ap not o) (busy-piece (waits f) (ltb 0 (length s)) last (lt-ltb 0 (length s) h))
busy-more f s last o (inr h) = and_true (ap not o) (busy-end (waits f) (ltb 0 (length s)) last h)

-- why a turn does nothing, or something
pub idle_why : (o w n l : Bool) → (not o && (w || (n || l))) ≡ false → (o ≡ true) ⊎ ((w ≡ false) × (n ≡ false) × (l ≡ false))
idle_why true w n l e = inl refl
idle_why false w n l e = let p = or_false w (n || l) e in let q = or_false n l p.1 in inr (p.0, q.0, q.1)

pub busy_open : (o b : Bool) → (not o && b) ≡ true → o ≡ false
busy_open true b e = absurd (clash e refl)
busy_open false b e = refl

busy-last : (o w : Bool) → (not o && (w || (false || false))) ≡ true → w ≡ true
busy-last true w e = absurd (clash e refl)
busy-last false true e = refl
busy-last false false e = absurd (clash e refl)

module _ (f : Fed) (last : Bool) (room : ℕ) where
  empty-idle : (s : List ℕ) → waits f ≡ false → length s ≡ 0 → last ≡ false → (turn_move f s last room ≡ nothing f) × (taken_bytes f s ≡ 0)
  unfolding taken_bytes
  empty-idle [] w n l = (turn-rest f [] last room w ∙ other _ l, refl)
  empty-idle (x ∷ s) w n l = absurd (omega arith)

  over-idle : (s : List ℕ) → f.over ≡ true → (turn_move f s last room ≡ nothing f) × (taken_bytes f s ≡ 0)
  over-idle s o = let p = over_shut f s o in (turn-rest f s last room p.1 ∙ rest s p.0, count_none f s p.0)
    where
      rest : (s : List ℕ) → closed f ≡ true → rest_move f s last ≡ nothing f
      rest [] c = by_choice (λ (m : Move). m ≡ nothing f) last (λ t. sym (last-closed f c)) (λ t. refl)
      rest (x ∷ s) c = ap nothing (taken_none f (x ∷ s) c)

  -- where the input ends with the piece, nothing is to do only where the sheet is over
  pub idle-over : (s : List ℕ) → last ≡ true → busy f s last ≡ false → f.over ≡ true
  idle-over s l e = on (idle_why f.over (waits f) (ltb 0 (length s)) last e) (λ o. o) (λ p. absurd (clash l p.2))

  pub turn-idle : (s : List ℕ) → busy f s last ≡ false → (turn_move f s last room ≡ nothing f) × (taken_bytes f s ≡ 0)
  turn-idle s e =
      on (idle_why f.over (waits f) (ltb 0 (length s)) last e)
      (λ o. over-idle s o)
      (λ p. empty-idle s p.0 (let h = ltb-false 0 (length s) p.1 in omega arith) p.2)

  -- lines that do not fit were not preceded by bytes that are taken
  pub short_none : (s : List ℕ) → room < length (turn_move f s last room).lines → taken_bytes f s ≡ 0
  unfolding taken_bytes
  short_none s h = on (tested (waits f)) (λ e. none-taken f s e) (λ e. rest s (rw (turn-rest f s last room e) at h))
    where
      rest : (s : List ℕ) → room < length (rest_move f s last).lines → taken_bytes f s ≡ 0
      rest [] h = refl
      rest (x ∷ s) h = absurd (omega arith)

-- ---- what it prints

-- after the last move nothing is left
last-over : (f : Fed) → waits f ≡ false → (last_move f).fed.over ≡ true
unfolding last_move
last-over f e =
    on (tested (closed f))
    (λ t. rw (chosen _ t) (not-waiting f.over (whole_line f.line) e t))
    (λ t. rw (other _ t) refl)

module _ (f : Fed) (t : List ℕ) (last : Bool) (all : last ≡ true → t ≡ []) where
  rest-left : (s : List ℕ) → waits f ≡ false → remaining f (s ++ t) ≡ (rest_move f s last).lines ++ remaining (rest_move f s last).fed (drop (taken_bytes f s) s ++ t)
  unfolding taken_bytes
  rest-left [] e =
      by_choice (λ (m : Move). remaining f t ≡ m.lines ++ remaining m.fed t) last
      (λ l. rw (all l) (laws.last f e ∙ sym (append-nil _) ∙ ap (λ (x : List ℕ). (last_move f).lines ++ x) (sym (left_over (last_move f).fed [] (last-over f e)))))
      (λ l. refl)
  rest-left (x ∷ s) e = sym (laws.takes f (x ∷ s) t)

  -- it prints what comes next
  pub turn-left : (s : List ℕ) (room : ℕ) → remaining f (s ++ t) ≡ (turn_move f s last room).lines ++ remaining (turn_move f s last room).fed (drop (taken_bytes f s) s ++ t)
  turn-left s room =
      on (tested (waits f))
      (λ e. rw (turn_step f s last room e, none-taken f s e) (laws.pairs f room (s ++ t)))
      (λ e. rw (turn-rest f s last room e) (rest-left s e))

-- ---- it goes on

due-few : (c : State) (l : DayLine) → Sized l → frames_due c l ≤ day_length
due-few c (wrong n) h = omega arith
due-few c (period p) h = omega arith
due-few c (server i p) h = omega arith
due-few c (entry t v a b) h = by_choice (λ (n : ℕ). n ≤ day_length) (known c v a b) (λ e. let l = h.0 in omega arith) (λ e. omega arith)
due-few c (end t) h = omega arith

pub steps-few : (f : Fed) → steps_left f < day_length + 2
unfolding steps_left due_frames
steps-few f =
    by_choice (λ (n : ℕ). n < day_length + 2) (waits f)
    (λ e.
    let few : choose (leb f.number last_line) (due_frames f.day (line_read f.line)) 0 ≤ day_length =
    by_choice (λ (n : ℕ). n ≤ day_length) (leb f.number last_line)
    (λ t. by_choice (λ (n : ℕ). n ≤ day_length) (eqb (place_refusal f.day.stage f.day.channel) 0) (λ t. due-few f.day.channel (line_read f.line) (read_sized f.line)) (λ t. omega arith))
    (λ t. omega arith) in
    omega arith)
    (λ e. omega arith)

-- no more bytes are taken than there are
pub taken-within : (f : Fed) (s : List ℕ) → taken_bytes f s ≤ length s
unfolding taken_bytes
taken-within f [] = omega arith
taken-within f (x ∷ s) =
    on (tested (closed f))
    (λ e. rw (count_none f (x ∷ s) e) (omega arith))
    (λ e. rw (count-more f x s e) (let h = taken-within (with_byte f x) s in omega arith))

one : (g : Fed) → choose g.over 0 1 ≤ 1
one g = by_choice (λ (n : ℕ). n ≤ 1) g.over (λ t. omega arith) (λ t. omega arith)

module _ (f : Fed) (last : Bool) (room : ℕ) where
  pub turn-bounded : (s : List ℕ) → Bounded f → Bounded (turn_move f s last room).fed
  unfolding turn_move last_move
  turn-bounded s q = by_choice (λ (m : Move). Bounded m.fed) (waits f) (λ e. laws.pairing-bounded f room q) (λ e. rest s)
    where
      rest : (s : List ℕ) → Bounded (rest_move f s last).fed
      rest [] = by_choice (λ (m : Move). Bounded m.fed) last (λ l. by_choice (λ (m : Move). Bounded m.fed) (closed f) (λ e. q) (λ e. record { number = q.number; channel = q.channel })) (λ l. q)
      rest (x ∷ s) = laws.taking-bounded f (x ∷ s) q

  pub turn-fits : (s : List ℕ) → Bounded f → step_bytes ≤ room → length (turn_move f s last room).lines ≤ room
  unfolding turn_move
  turn-fits s q h = by_choice (λ (m : Move). length m.lines ≤ room) (waits f) (λ e. laws.pairs-fit f room q h) (λ e. rest s)
    where
      rest : (s : List ℕ) → length (rest_move f s last).lines ≤ room
      rest [] = by_choice (λ (m : Move). length m.lines ≤ room) last (λ l. let k = laws.last_fits f q in omega arith) (λ l. omega arith)
      rest (x ∷ s) = omega arith

  -- a turn that takes no byte and after which the sheet is not over made steps
  pub turn-steps : (s : List ℕ) → busy f s last ≡ true → (0 < taken_bytes f s) ⊎ (((turn_move f s last room).fed.over ≡ true) ⊎ (waits f ≡ true))
  turn-steps s b = on (tested (waits f)) (λ e. inr (inr e)) (λ e. rw (turn-rest f s last room e) (rest s b e))
    where
      rest : (s : List ℕ) → busy f s last ≡ true → waits f ≡ false → (0 < taken_bytes f s) ⊎ (((rest_move f s last).fed.over ≡ true) ⊎ (waits f ≡ true))
      rest [] b e =
          on (tested last)
          (λ l. inr (inl (ap (λ (m : Move). m.fed.over) (chosen (nothing f) l) ∙ last-over f e)))
          (λ l. inr (inr (busy-last f.over (waits f) (ap (λ (x : Bool). not f.over && (waits f || (false || x))) (sym l) ∙ b))))
      rest (x ∷ s) b e = inl (laws.taking f x s (over_open f [] (busy_open f.over _ b) e))

  pub turn-less : (s : List ℕ) → busy f s last ≡ true → turns_left (turn_move f s last room).fed (length s - taken_bytes f s) < turns_left f (length s)
  unfolding turns_left
  turn-less s b =
      let is : ◌≡◌ {A = ℕ} (choose f.over 0 1) 1 = other 0 (busy_open f.over _ b) in
      let g = (turn_move f s last room).fed in
      let within = taken-within f s in
      let few = steps-few g in
      let small = one g in
      on (turn-steps s b)
      (λ some. omega arith)
      (λ p.
      on p
      (λ o.
      let none = left-none g (over_shut g s o).1 in
      let zero : ◌≡◌ {A = ℕ} (choose g.over 0 1) 0 = chosen 1 o in
      omega arith)
      (λ e. rw (turn_step f s last room e, none-taken f s e) (let l = laws.pairing f room e in let small = one (steps_move f room).fed in omega arith)))

  pub turn_no_more : (s : List ℕ) → turns_left (turn_move f s last room).fed (length s - taken_bytes f s) ≤ turns_left f (length s)
  turn_no_more s =
      on (tested (busy f s last))
      (λ b. let l = turn-less s b in omega arith)
      (λ b. let p = turn-idle f last room s b in rw (p.0, p.1) (let z = ap (turns_left f) (let z : length s - 0 ≡ length s = omega arith in z) in omega arith))
