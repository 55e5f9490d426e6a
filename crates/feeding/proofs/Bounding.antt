-- How much a step prints at the most. Assumes nothing.
use mathlib.Core.Path.{◌≡◌, refl, sym, ap, subst, ◌∙◌}
use mathlib.Core.List.{List, [], ◌∷◌, ◌++◌, append-nil}
use Prim.Native.Nat.{ℕ, suc, ◌-◌, ◌≤◌, ◌<◌}
use native.Mathlib.Omega.{arith}
use borrow.Author.Tests.{eq-eqb, ne_eqb, lt-ltb, le-ltb, le-leb, lt-leb, leb-true, eqb-true}
use lib.Dec.{leb, eqb}
use lib.ListN.{length, length-append}
use Rattle.lists.proofs.Cases.{equal, less, tested, on, chosen, other, by_choice, bit-small}
use Rattle.text.specs.Words.{bytes}
use Rattle.text.specs.Digits.{digits}
use Rattle.text.proofs.Digits.{digits-few}
use Rattle.lines.specs.Lines.{refused_word}
use Rattle.lines.proofs.Pieces.{line-long}
use Rattle.roles.specs.declared.Verb.{Verb}
use Rattle.group.specs.declared.State.{State}
use Rattle.group.specs.Table.{add_refusal, fresh_refusal}
use Rattle.group.specs.Hearing.{place}
use Rattle.group.specs.Frame.{frame_lines}
use Rattle.group.specs.Verbs.{known, verb_refusal, verb_outcome}
use Rattle.group.specs.Advance.{advanced_by, lines_by, fitting}
use Rattle.group.proofs.Laws.{fit_bounds}
use Rattle.frame.proofs.Bound.{said-most, frame-most}
use Rattle.day.specs.Read.{DayLine, wrong, period, server, entry, end, line_read}
use Rattle.day.specs.Day.{Stage, atPeriod, atServers, atEntries, atClose, Day, Effect, stop, go, on as during, table_of, refusal, period_effect, add_effect, server_effect, call_effect, entry_effect, end_effect, line_effect, in_place, last_line, beyond}
use Rattle.day.specs.Sheet.{input_refusal}
use Rattle.feeding.specs.Fed.{Fed, closed, waits, taken, with_byte}
use Rattle.feeding.specs.Moves.{Move, effect_move, place_refusal, frames_due, due_frames, frames_now, advancing, placed_move, line_move, step_move, both, last_lines, last_move}
use Rattle.feeding.specs.Bound.{step_bytes, SmallChannel, Bounded, BeginsBounded, TakingKeepsBounds, SteppingKeepsBounds, PairsKeepBounds, StepsFit, PairsFit, LastFits}
use Rattle.feeding.proofs.Refusals.{refusal-long}
use Rattle.feeding.proofs.Calling.{verb-number, allowed, not-allowed}
use Rattle.feeding.proofs.Placing.{in_place_lem, out_of_place}
use Rattle.feeding.proofs.Calming.{calm-empty, calm-added, calm-by, calm-did}
use Rattle.feeding.specs.Steps.{Sized}
use Rattle.feeding.proofs.Sizing.{read_sized}

-- ---- lines

refusal-short : (k n : ℕ) → k ≤ suc last_line → n < 100 → length (input_refusal k n) ≤ 200
refusal-short k n h p = omega (arith, refusal-long k n, digits-few 4 k (omega arith), digits-few 1 n (omega arith))

state-short : (c : State) (i n : ℕ) → i < 65536 → n < 100 → length (refusal c i n) ≤ 200
state-short c i n h p =
    omega (arith, line-long c.frame i (refused_word n), length-append (bytes "refused-") (digits n), digits-few 4 i (omega arith), digits-few 1 n (omega arith))

-- a frame of a calm channel
frame-short : (c : State) → SmallChannel c → length (frame_lines c) ≤ step_bytes
frame-short c q =
    frame-most c 2097151
    (record {
      bound =
          λ i h.
          let s = q.small i in
          let bit = bit-small (place c i).reveal in
          let b = s.beats in
          let p = s.pass in
          omega arith;
    })
    q.places
    (λ i h. (q.small i).identity)

-- ---- what a line does where no frame is due

abbrev Short : Effect → Type 0
Short (stop n) = n < 100
Short (go w e) = (length w ≤ 200) × SmallChannel e.channel

place-small : (g : Stage) (c : State) → place_refusal g c < 100
unfolding place_refusal fresh_refusal
place-small atPeriod c = omega arith
place-small atServers c =
    by_choice (λ (n : ℕ). n < 100) _
    (λ t. by_choice (λ (n : ℕ). n < 100) _ (λ t. omega arith) (λ t. by_choice (λ (n : ℕ). n < 100) _ (λ t. omega arith) (λ t. omega arith)))
    (λ t. omega arith)
place-small atEntries c = omega arith
place-small atClose c = omega arith

add_short : (c : State) (i p : ℕ) → i < 65536 → SmallChannel c → Short (add_effect c i p)
unfolding add_effect add_refusal
add_short c i p h q =
    by_choice Short (eqb (add_refusal (table_of c) i) 0)
    (λ t. (omega arith, calm-added (table_of c) i p c.period.frames h (eqb-true (add_refusal (table_of c) i) 0 t) q.places q.small))
    (λ t.
    by_choice (λ (n : ℕ). n < 100) _
    (λ t. by_choice (λ (n : ℕ). n < 100) _ (λ t. omega arith) (λ t. by_choice (λ (n : ℕ). n < 100) _ (λ t. omega arith) (λ t. omega arith)))
    (λ t. omega arith))

call-short : (c : State) (v : Verb) (a b : ℕ) → a < 65536 → b < 65536 → SmallChannel c → Short (call_effect [] c v a b)
call-short c v a b h p q =
    on (equal (verb_refusal c v a b) 0)
    (λ z. subst Short (sym (allowed c v a b z)) (let l : length (verb_outcome c v a b).lines ≤ 54 = said-most c.frame a _ h in omega arith, calm-did c v a b p q))
    (λ z. subst Short (sym (not-allowed c v a b z)) (state-short c a (verb_refusal c v a b) h (verb-number c v a b).1, q))

module _ (c : State) (q : SmallChannel c) where
  entry-short : (t : ℕ) (v : Verb) (a b : ℕ) → a < 65536 → b < 65536 → frames_due c (entry t v a b) ≡ 0 → Short (entry_effect c t v a b)
  unfolding entry_effect advanced_by lines_by
  entry-short t v a b h p z =
      on (tested (known c v a b))
      (λ k.
      let due : t - c.frame ≡ 0 = sym (chosen 0 k) ∙ z in
      on (less t c.frame)
      (λ l. subst Short (sym (let e : entry_effect c t v a b ≡ go (refusal c a 11) (during atEntries c) = rw (k, entry_effect) (rw (lt-ltb t c.frame l)) in e)) (state-short c a 11 h (omega arith), q))
      (λ l.
      subst Short
      (sym
      (let e : entry_effect c t v a b ≡ call_effect (lines_by (t - c.frame) c) (advanced_by (t - c.frame) c) v a b = rw (k, entry_effect) (rw (le-ltb t c.frame l)) in
      e ∙ ap (λ (n : ℕ). call_effect (lines_by n c) (advanced_by n c) v a b) due))
      (call-short c v a b h p q)))
      (λ k. subst Short (sym (let e : entry_effect c t v a b ≡ stop 8 = rw (k, entry_effect) in e)) (omega arith))

  end_short : (t : ℕ) → t - c.frame ≡ 0 → Short (end_effect c t)
  unfolding end_effect advanced_by lines_by
  end_short t z =
      on (less t c.frame)
      (λ l. subst Short (sym (let e : end_effect c t ≡ go (refusal c 0 11) (during atEntries c) = rw (lt-ltb t c.frame l, end_effect) in e)) (state-short c 0 11 (omega arith) (omega arith), q))
      (λ l.
      subst Short
      (sym
      (let e : end_effect c t ≡ go (lines_by (t - c.frame) c) (during atClose (advanced_by (t - c.frame) c)) = rw (le-ltb t c.frame l, end_effect) in
      e ∙ ap (λ (n : ℕ). go (lines_by n c) (during atClose (advanced_by n c))) z))
      (omega arith, q))

-- in place or not
placed_short : (d : Day) (l : DayLine) (s : Effect) → due_frames d l ≡ 0 → (frames_due d.channel l ≡ 0 → Short s) → Short (in_place d.stage d.channel s)
unfolding due_frames
placed_short d l s z h =
    on (equal (place_refusal d.stage d.channel) 0)
    (λ p. subst Short (sym (in_place_lem d.stage d.channel s p)) (h (sym (chosen 0 (eq-eqb _ 0 p)) ∙ z)))
    (λ p. subst Short (sym (out_of_place d.stage d.channel s refl p)) (place-small d.stage d.channel))

period-short : (g : Stage) (p : ℕ) → Short (period_effect g p)
period-short atPeriod p = (omega arith, calm-empty p)
period-short atServers p = omega arith
period-short atEntries p = omega arith
period-short atClose p = omega arith

server-short : (g : Stage) (c : State) (i p : ℕ) → i < 65536 → SmallChannel c → Short (server_effect g c i p)
server-short atPeriod c i p h q = omega arith
server-short atServers c i p h q = add_short c i p h q
server-short atEntries c i p h q = omega arith
server-short atClose c i p h q = omega arith

line-short : (d : Day) (l : DayLine) → Sized l → SmallChannel d.channel → due_frames d l ≡ 0 → Short (line_effect d l)
line-short d (wrong n) s q z = s
line-short d (period p) s q z = period-short d.stage p
line-short d (server i p) s q z = server-short d.stage d.channel i p s q
line-short d (entry t v a b) s q z = placed_short d (entry t v a b) _ z (λ y. entry-short d.channel q t v a b s.1 s.2 y)
line-short d (end t) s q z = placed_short d (end t) _ z (λ y. end_short d.channel q t y)

beyond-short : (l : DayLine) → Sized l → Short (beyond l)
beyond-short (wrong n) s = s
beyond-short (period p) s = omega arith
beyond-short (server i p) s = omega arith
beyond-short (entry t v a b) s = omega arith
beyond-short (end t) s = omega arith

-- ---- moves

-- it fits, and keeps the bounds
record Good (room : ℕ) (m : Move) : Type 0 where
  fits : step_bytes ≤ room → length m.lines ≤ room
  bounded : Bounded m.fed

module _ (f : Fed) (q : Bounded f) (room : ℕ) where
  effect_good : (x : Effect) → Short x → ((w : List ℕ) (e : Day) → x ≡ go w e → f.number ≤ last_line) → Good room (effect_move f x)
  effect_good (stop n) s h =
      record { fits = λ r. omega (arith, refusal-short f.number n q.number s); bounded = record { number = q.number; channel = q.channel } }
  effect_good (go w e) s h =
      record { fits = λ r. omega (arith, s.0); bounded = record { number = let n = h w e refl in omega arith; channel = s.1 } }

  advance-good : (n : ℕ) → 0 < n → Good room (advancing f f.day.channel (frames_now f.day.channel n room))
  unfolding frames_now lines_by
  advance-good n pos =
      let c = f.day.channel in
      record {
        fits =
            λ r.
            on (equal (fitting n c room) 0)
            (λ z.
            let one : frames_now c n room ≡ 1 = chosen _ (eq-eqb _ 0 z) in
            omega (arith, ap (λ (k : ℕ). length (lines_by k c)) one, ap length (append-nil (frame_lines c)), frame-short c q.channel))
            (λ z.
            let many : frames_now c n room ≡ fitting n c room = other 1 (ne_eqb _ 0 z) in
            omega (arith, ap (λ (k : ℕ). length (lines_by k c)) many, (fit_bounds n c room).1));
        bounded = record { number = q.number; channel = calm-by (frames_now c n room) c q.channel };
      }

  abbrev line : DayLine
  line = line_read f.line

  step-good : Good room (step_move f room)
  unfolding step_move line_move placed_move
  step-good =
      by_choice (Good room) (waits f)
      (λ e.
      on (less last_line f.number)
      (λ h. subst (Good room) (sym (other _ (lt-leb f.number last_line h))) (effect_good (beyond line) (beyond-short line (read_sized f.line)) (λ w d y. absurd (never line y))))
      (λ h.
      subst (Good room) (sym (chosen _ (le-leb f.number last_line h)))
      (on (equal (due_frames f.day line) 0)
      (λ z. subst (Good room) (sym (chosen _ (eq-eqb _ 0 z))) (effect_good (line_effect f.day line) (line-short f.day line (read_sized f.line) q.channel z) (λ w d y. h)))
      (λ z. subst (Good room) (sym (other _ (ne_eqb _ 0 z))) (advance-good (due_frames f.day line) (omega arith))))))
      (λ e. record { fits = λ r. omega arith; bounded = q })
    where
      never : (l : DayLine) {w : List ℕ} {d : Day} → beyond l ≡ go w d → ⊥
      never (wrong n) y = let z : ◌≡◌ {A = ℕ} 0 1 = cc in omega arith
      never (period p) y = let z : ◌≡◌ {A = ℕ} 0 1 = cc in omega arith
      never (server i p) y = let z : ◌≡◌ {A = ℕ} 0 1 = cc in omega arith
      never (entry t v a b) y = let z : ◌≡◌ {A = ℕ} 0 1 = cc in omega arith
      never (end t) y = let z : ◌≡◌ {A = ℕ} 0 1 = cc in omega arith

-- ---- the laws

pub begins-bounded : BeginsBounded
begins-bounded = record { number = omega arith; channel = calm-empty 0 }

pub taking-bounded : TakingKeepsBounds
unfolding taken
taking-bounded f [] q = q
taking-bounded f (x ∷ s) q =
    on (tested (closed f))
    (λ e. rw (e, taken) q)
    (λ e. rw (e, taken) (taking-bounded (with_byte f x) s (record { number = q.number; channel = q.channel })))

pub stepping-bounded : SteppingKeepsBounds
stepping-bounded f room q = (step-good f q room).bounded

pub steps-fit : StepsFit
steps-fit f room q r = (step-good f q room).fits r

pub pairs-bounded : PairsKeepBounds
unfolding both
pairs-bounded f room q =
    by_choice (λ (m : Move). Bounded m.fed) _ (λ t. stepping-bounded (step_move f room).fed _ (stepping-bounded f room q)) (λ t. stepping-bounded f room q)

pub pairs-fit : PairsFit
unfolding both
pairs-fit f room q r =
    let m = step_move f room in
    let n = step_move m.fed (room - length m.lines) in
    by_choice (λ (x : Move). length x.lines ≤ room) (leb (length (m.lines ++ n.lines)) room) {a = record { lines = m.lines ++ n.lines; fed = n.fed }} {b = m} (λ t. leb-true _ room t) (λ t. steps-fit f room q r)

last-short : (k : ℕ) (g : Stage) (l : List ℕ) → k ≤ suc last_line → length (last_lines k g l) ≤ 200
last-short k atPeriod [] h = refusal-short k 4 h (omega arith)
last-short k atServers [] h = refusal-short k 4 h (omega arith)
last-short k atEntries [] h = refusal-short k 4 h (omega arith)
last-short k atClose [] h = omega arith
last-short k g (x ∷ l) h = refusal-short k 1 h (omega arith)

pub last_fits : LastFits
unfolding last_move
last_fits f q =
    by_choice (λ (m : Move). length m.lines ≤ step_bytes) (closed f) (λ e. omega arith)
    (λ e. omega (arith, last-short f.number f.day.stage f.line q.number))
