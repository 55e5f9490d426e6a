-- A step prints what comes next of what is still to be printed. Assumes nothing.
use mathlib.Core.Bool.{Bool, true, false, not, ◌&&◌}
use mathlib.Core.Path.{◌≡◌, refl, sym, ap, ap₂, ◌∙◌}
use mathlib.Core.List.{List, [], ◌∷◌, ◌++◌, append-nil, append_assoc}
use Prim.Native.Nat.{ℕ, suc, ◌+◌, ◌-◌, ◌≤◌, ◌<◌}
use native.Mathlib.Omega.{arith}
use native.Mathlib.Numerals.{add-one}
use borrow.Author.Tests.{eq-eqb, ne_eqb, le-ltb, le-leb, lt-leb, not-true}
use lib.Dec.{ltb, eqb}
use lib.ListN.{length, get_or}
use Rattle.lists.specs.Choice.{choose}
use Rattle.lists.proofs.Cases.{equal, less, tested, on, chosen, other, fst_true, snd_true}
use Rattle.heartbeat.specs.declared.Rank.{Rank}
use Rattle.server.specs.declared.Server.{Server}
use Rattle.roles.specs.declared.Verb.{Verb}
use Rattle.server.specs.Server.{absent, rank_of}
use Rattle.roles.specs.Verbs.{paired}
use Rattle.group.specs.declared.State.{State}
use Rattle.group.specs.Table.{place_in, most}
use Rattle.group.specs.Verbs.{known, verb_outcome}
use Rattle.group.specs.Advance.{advanced_by, lines_by, fitting}
use Rattle.group.proofs.Laws.{keeps-by, fit_bounds}
use Rattle.group.proofs.Places.{frame-after}
use Rattle.group.proofs.Adding.{advanced_add, lines_add}
use Rattle.day.specs.Read.{DayLine, wrong, period, server, entry, end, lines_in, line_read}
use Rattle.day.specs.Day.{Day, Effect, stop, go, on as during, atEntries, refusal, call_effect, entry_effect, end_effect, line_effect, last_line, beyond, effect_of}
use Rattle.day.specs.Sheet.{input_refusal, sheet_from}
use Rattle.feeding.specs.Fed.{Fed, whole_line, waits, before, remaining}
use Rattle.feeding.specs.Moves.{ended, next_line, effect_move, place_refusal, frames_due, due_frames, frames_now, advancing, placed_move, line_move, step_move}
use Rattle.feeding.proofs.Taking.{whole-none}
use Rattle.feeding.proofs.Remaining.{left_over, left-on, left-whole, left-part, sheet-stop, sheet-go}
use Rattle.feeding.proofs.Placing.{in_place_lem}

-- ---- an advance leaves the table

same_place : (j : ℕ) (l m : List Server) → length l ≡ length m → ((i : ℕ) → rank_of (get_or l i absent) ≡ rank_of (get_or m i absent)) → place_in l j ≡ place_in m j
unfolding place_in
same_place j [] [] n h = refl
same_place j [] (y ∷ m) n h = absurd (omega arith)
same_place j (x ∷ l) [] n h = absurd (omega arith)
same_place j (x ∷ l) (y ∷ m) n h =
    ap₂ (λ (t : Bool) (k : ℕ). choose t 0 (suc k)) (ap (λ (r : Rank). not (eqb j 0) && eqb r.identity j) (h 0)) (same_place j l m (omega arith) (λ i. h (suc i)))

pub same_known : (k : ℕ) (c : State) (v : Verb) (a b : ℕ) → known (advanced_by k c) v a b ≡ known c v a b
unfolding known
same_known k c v a b =
    let t = keeps-by k c in
    let at : (j : ℕ) → place_in (advanced_by k c).servers j ≡ place_in c.servers j = λ j. same_place j (advanced_by k c).servers c.servers t.places t.ranks in
    ap₂ (λ (x y : ℕ). ltb x most && choose (paired v) (ltb y most && not (eqb a b)) true) (at a) (at b)

-- ---- a line done in two parts

-- what L does in the day d is what it does in e, after the lines x
record Parts (d e : Day) (x : List ℕ) (l : DayLine) : Type 0 where
  lines : List ℕ
  day : Day
  whole : line_effect d l ≡ go (x ++ lines) day
  rest : line_effect e l ≡ go lines day

record Called (w : List ℕ) (c : State) (v : Verb) (a b : ℕ) (x : List ℕ) : Type 0 where
  lines : List ℕ
  day : Day
  whole : call_effect (x ++ w) c v a b ≡ go (x ++ lines) day
  rest : call_effect w c v a b ≡ go lines day

call-parts : (w : List ℕ) (c : State) (v : Verb) (a b : ℕ) (x : List ℕ) → Called w c v a b x
unfolding call_effect
call-parts w c v a b x =
    let o = verb_outcome c v a b in
    on (tested (eqb o.number 0))
    (λ t. record { lines = w ++ o.lines; day = during atEntries o.channel; whole = rw (t, call_effect) (ap (λ (y : List ℕ). go y (during atEntries o.channel)) (append_assoc x w o.lines)); rest = rw (t, call_effect) })
    (λ t.
    record {
      lines = w ++ refusal c a o.number;
      day = during atEntries c;
      whole = rw (t, call_effect) (ap (λ (y : List ℕ). go y (during atEntries c)) (append_assoc x w (refusal c a o.number)));
      rest = rw (t, call_effect);
    })

-- k of the n frames that are due
module _ (d : Day) (k : ℕ) where
  abbrev c : State
  c = d.channel

  abbrev then : Day
  then = during atEntries (advanced_by k c)

  module _ (t : ℕ) (within : k ≤ t - c.frame) (some : 0 < t - c.frame) where
    left : t - (advanced_by k c).frame ≡ (t - c.frame) - k
    left = let e = frame-after k c in omega arith

    split : t - c.frame ≡ k + (t - (advanced_by k c).frame)
    split = omega (arith, left)

    lines_split : lines_by (t - c.frame) c ≡ lines_by k c ++ lines_by (t - (advanced_by k c).frame) (advanced_by k c)
    lines_split = ap (λ (n : ℕ). lines_by n c) split ∙ lines_add k (t - (advanced_by k c).frame) c

    state-split : advanced_by (t - c.frame) c ≡ advanced_by (t - (advanced_by k c).frame) (advanced_by k c)
    state-split = ap (λ (n : ℕ). advanced_by n c) split ∙ advanced_add k (t - (advanced_by k c).frame) c

    not-past : ltb t c.frame ≡ false
    not-past = le-ltb t c.frame (omega arith)

    not_past_then : ltb t (advanced_by k c).frame ≡ false
    not_past_then = le-ltb t (advanced_by k c).frame (let e = frame-after k c in omega arith)

    module _ (place : place_refusal d.stage c ≡ 0) where
      entry-parts : (v : Verb) (a b : ℕ) → known c v a b ≡ true → Parts d then (lines_by k c) (entry t v a b)
      unfolding entry_effect
      entry-parts v a b q =
          let n = t - (advanced_by k c).frame in
          let p = call-parts (lines_by n (advanced_by k c)) (advanced_by n (advanced_by k c)) v a b (lines_by k c) in
          let one : entry_effect c t v a b ≡ call_effect (lines_by (t - c.frame) c) (advanced_by (t - c.frame) c) v a b = rw (q, entry_effect) (rw not-past) in
          let two : entry_effect (advanced_by k c) t v a b ≡ call_effect (lines_by n (advanced_by k c)) (advanced_by n (advanced_by k c)) v a b = rw (same_known k c v a b ∙ q, entry_effect) (rw not_past_then) in
          record {
            lines = p.lines;
            day = p.day;
            whole = in_place_lem d.stage c (entry_effect c t v a b) place ∙ one ∙ ap₂ (λ (w : List ℕ) (s : State). call_effect w s v a b) lines_split state-split ∙ p.whole;
            rest = two ∙ p.rest;
          }

      end-parts : Parts d then (lines_by k c) (end t)
      unfolding end_effect
      end-parts =
          let n = t - (advanced_by k c).frame in
          let last = during Rattle.day.specs.Day.atClose (advanced_by n (advanced_by k c)) in
          let one : end_effect c t ≡ go (lines_by (t - c.frame) c) (during Rattle.day.specs.Day.atClose (advanced_by (t - c.frame) c)) = rw (not-past, end_effect) in
          let two : end_effect (advanced_by k c) t ≡ go (lines_by n (advanced_by k c)) last = rw (not_past_then, end_effect) in
          record {
            lines = lines_by n (advanced_by k c);
            day = last;
            whole = in_place_lem d.stage c (end_effect c t) place ∙ one ∙ ap₂ (λ (w : List ℕ) (s : State). go w (during Rattle.day.specs.Day.atClose s)) lines_split state-split;
            rest = two;
          }

  -- a line that waits for frames
  due-parts : (l : DayLine) → place_refusal d.stage c ≡ 0 → k ≤ frames_due c l → 0 < frames_due c l → Parts d then (lines_by k c) l
  due-parts (wrong n) place h p = absurd (omega arith)
  due-parts (period n) place h p = absurd (omega arith)
  due-parts (server i n) place h p = absurd (omega arith)
  due-parts (entry t v a b) place h p =
      on (tested (known c v a b))
      (λ e. let z : frames_due c (entry t v a b) ≡ t - c.frame = chosen 0 e in entry-parts t (omega arith) (omega arith) place v a b e)
      (λ e. absurd (let z : frames_due c (entry t v a b) ≡ 0 = other _ e in omega arith))
  due-parts (end t) place h p = end-parts t h p place

-- ---- the law of each move

pub now-some : (c : State) (n room : ℕ) → 0 < n → (0 < frames_now c n room) × (frames_now c n room ≤ n)
unfolding frames_now
now-some c n room h =
    on (equal (fitting n c room) 0)
    (λ e. let z : frames_now c n room ≡ 1 = chosen _ (eq-eqb _ 0 e) in (omega arith, omega arith))
    (λ e. let z : frames_now c n room ≡ fitting n c room = other _ (ne_eqb _ 0 e) in (omega arith, omega (arith, (fit_bounds n c room).0)))

-- f has a whole line
module _ (f : Fed) (s : List ℕ) (is-on : f.over ≡ false) (full : whole_line f.line ≡ true) where
  here : remaining f s ≡ sheet_from f.number f.day (f.line ∷ lines_in s)
  here = left-on f s is-on ∙ ap (sheet_from f.number f.day) (left-whole f.line s full)

  next_here : (e : Day) → remaining (next_line f e) s ≡ sheet_from (suc f.number) e (lines_in s)
  unfolding before
  next_here e = left-on (next_line f e) s is-on ∙ ap₂ (λ (k : ℕ) (ls : List (List ℕ)). sheet_from k e ls) (add-one f.number) (left-part [] s whole-none)

  effect_left : (x : Effect) → effect_of f.number f.day (line_read f.line) ≡ x → remaining f s ≡ (effect_move f x).lines ++ remaining (effect_move f x).fed s
  effect_left (stop n) e =
      here ∙ sheet-stop f.number f.day f.line (lines_in s) e
      ∙ sym (ap (λ (r : List ℕ). input_refusal f.number n ++ r) (left_over (ended f) s refl) ∙ append-nil (input_refusal f.number n))
  effect_left (go w e) q = here ∙ sheet-go f.number f.day f.line (lines_in s) q ∙ ap (λ (r : List ℕ). w ++ r) (sym (next_here e))

  abbrev read : DayLine
  read = line_read f.line

  in_number : f.number ≤ last_line → (d : Day) → effect_of f.number d read ≡ line_effect d read
  unfolding effect_of
  in_number h d = rw (le-leb f.number last_line h, effect_of)

  beyond-number : last_line < f.number → effect_of f.number f.day read ≡ beyond read
  unfolding effect_of
  beyond-number h = rw (lt-leb f.number last_line h, effect_of)

  advance-left :
      (room : ℕ) → f.number ≤ last_line → (due_frames f.day read ≡ 0 → ⊥) →
      let m = advancing f f.day.channel (frames_now f.day.channel (due_frames f.day read) room) in remaining f s ≡ m.lines ++ remaining m.fed s
  unfolding due_frames
  advance-left room h some =
      let c = f.day.channel in
      let n = due_frames f.day read in
      let k = frames_now c n room in
      let place : place_refusal f.day.stage c ≡ 0 = on (equal (place_refusal f.day.stage c) 0) (λ z. z) (λ z. absurd (some (other _ (ne_eqb _ 0 z)))) in
      let is : n ≡ frames_due c read = chosen 0 (eq-eqb _ 0 place) in
      let pos : 0 < n = on (equal n 0) (λ z. absurd (some z)) (λ z. omega arith) in
      let p = due-parts f.day k read place (omega (arith, (now-some c n room pos).1, is)) (omega (arith, is)) in
      let g : Fed = record { over = f.over; number = f.number; line = f.line; day = during atEntries (advanced_by k c) } in
      here
      ∙ sheet-go f.number f.day f.line (lines_in s) (in_number h f.day ∙ p.whole)
      ∙ append_assoc (lines_by k c) p.lines (sheet_from (suc f.number) p.day (lines_in s))
      ∙ ap (λ (r : List ℕ). lines_by k c ++ r)
      (sym
      (left-on g s is-on ∙ ap (sheet_from f.number g.day) (left-whole f.line s full)
      ∙ sheet-go f.number g.day f.line (lines_in s) (in_number h g.day ∙ p.rest)))

  placed_left : (room : ℕ) → f.number ≤ last_line → remaining f s ≡ (placed_move f room read).lines ++ remaining (placed_move f room read).fed s
  unfolding placed_move
  placed_left room h =
      on (equal (due_frames f.day read) 0)
      (λ z. rw (chosen _ (eq-eqb _ 0 z)) (effect_left (line_effect f.day read) (in_number h f.day)))
      (λ z. rw (other _ (ne_eqb _ 0 z)) (advance-left room h z))

  line-left : (room : ℕ) → remaining f s ≡ (line_move f room read).lines ++ remaining (line_move f room read).fed s
  unfolding line_move
  line-left room =
      on (less last_line f.number)
      (λ h. rw (other _ (lt-leb f.number last_line h)) (effect_left (beyond read) (beyond-number h)))
      (λ h. rw (chosen _ (le-leb f.number last_line h)) (placed_left room h))

pub step_left : (f : Fed) (room : ℕ) (s : List ℕ) → remaining f s ≡ (step_move f room).lines ++ remaining (step_move f room).fed s
unfolding step_move
step_left f room s =
    on (tested (waits f))
    (λ e. rw (chosen _ e) (line-left f s (not-true _ (fst_true (not f.over) _ e)) (snd_true (not f.over) _ e) room))
    (λ e. rw (other _ e) refl)
