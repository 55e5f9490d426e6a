-- Turns one after the other, in a lent slice. Assumes nothing.
use Rattle.std.specs.Prelude.{Option, Some, None, Result, Ok, Err}
use Rattle.refusal.specs.declared.Refusal.{Refusal}
use Rattle.refusal.specs.Answer.{Answer, accepted, refused, number_of}
use Rattle.refusal.proofs.Answers.{number-some, not-both, one_value}
use Rattle.text.specs.Write.{of_written}
use Rattle.feed.specs.declared.Feed.{Feed}
use mathlib.Core.Bool.{Bool, true, false}
use mathlib.Core.Path.{◌≡◌, refl, sym, ap, ap₂, subst, ◌∙◌}
use mathlib.Core.List.{List, [], ◌∷◌, ◌++◌, append-nil, append_assoc}
use Prim.Native.Nat.{ℕ, ◌+◌, ◌-◌, ◌≤◌, ◌<◌}
use native.Mathlib.Omega.{arith}
use borrow.Author.Tests.{lt-ltb, le-ltb}
use lib.ListN.{length, take, drop, length-append, length-drop}
use lib.Seq.{drop-drop}
use Rattle.lists.specs.Choice.{choose}
use Rattle.lists.specs.Splice.{splice}
use Rattle.lists.proofs.Cases.{less, tested, on, clash, chosen, other}
use Rattle.lists.proofs.Splicing.{splice-none, splices, splice-length}
use Rattle.lists.proofs.Parts.{part-rest}
use Rattle.feeding.specs.Fed.{Fed, taken_bytes}
use Rattle.feeding.specs.Moves.{Move}
use Rattle.feed.specs.Answers.{line_taken}
use Rattle.feed.proofs.Pairing.{part-written}
use Rattle.printer.specs.declared.Turned.{Turned}
use Rattle.printer.specs.Print.{turn_move, Print, rests, turns_left, print, short}
use Rattle.printer.specs.Steps.{busy, of_turned, Turns, Runs}
use Rattle.printer.proofs.Turning.{turn-idle, short_none, taken-within, turn-less}
use Rattle.printer.proofs.Printing.{line-none, print-first, print-short, print-idle}

-- w, for which n bytes were used, by which the line became what t says, and then p
abbrev pub onward : List ℕ → ℕ → (List ℕ → List ℕ) → Print → Print
onward w n t p = record { lines = w ++ p.lines; used = n + p.used; fed = p.fed; line = λ l. p.line (t l) }

-- the turns so far have written so much and taken i bytes; the others, on the rest of the piece and
-- of the slice, make it whole
pub record Running (f₀ : Fed) (l₀ s : List ℕ) (last : Bool) (d₀ : List ℕ) (f : Fed) (l d : List ℕ) (i at : ℕ) : Type 0 where
  pub within : i ≤ length s
  pub room : at ≤ length d₀
  pub written : List ℕ
  pub place : at ≡ length written
  pub slice : d ≡ splice d₀ 0 written
  pub filled : List ℕ → List ℕ
  pub bytes : l ≡ filled l₀
  pub whole : print f₀ s last (length d₀) ≡ onward written i filled (print f (drop i s) last (length d₀ - at))

-- the lines of the first of them fitted into the slice
pub record Told (f₀ : Fed) (s : List ℕ) (last : Bool) (d₀ : List ℕ) (f : Fed) (i at : ℕ) (first : Bool) : Type 0 where
  pub fresh : first ≡ true → (f ≡ f₀) × (i ≡ 0) × (at ≡ 0)
  pub fits : first ≡ false → short f₀ s last (length d₀) ≡ false

pub told-begins : (f : Fed) (s : List ℕ) (last : Bool) (d : List ℕ) → Told f s last d f 0 0 true
told-begins f s last d = record { fresh = λ e. (refl, refl, refl); fits = λ e. absurd (clash refl e) }

from-none : (p : Print) → p ≡ onward [] 0 (λ l. l) p
from-none p = ap (λ (n : ℕ). record { lines = p.lines; used = n; fed = p.fed; line = p.line }) (let z : p.used ≡ 0 + p.used = omega arith in z)

pub run_begins : (f : Fed) (l s : List ℕ) (last : Bool) (d : List ℕ) → Running f l s last d f l d 0 0
run_begins f l s last d =
    record {
      within = omega arith;
      room = omega arith;
      written = [];
      place = refl;
      slice = sym (splice-none d 0);
      filled = λ x. x;
      bytes = refl;
      whole = ap (print f s last) (let z : length d ≡ length d - 0 = omega arith in z) ∙ from-none (print f s last (length d - 0));
    }

-- the slice keeps its length
pub kept : {f₀ : Fed} {l₀ s : List ℕ} {last : Bool} {d₀ : List ℕ} {f : Fed} {l d : List ℕ} {i at : ℕ} → Running f₀ l₀ s last d₀ f l d i at → length d ≡ length d₀
kept {d₀ = d₀} v = ap length v.slice ∙ splice-length d₀ 0 v.written (let p = v.place in let h = v.room in omega arith)

-- an answer with what it holds
pub holds_in : {p : Result (Option ℕ) Refusal} {q o : Option ℕ} → p ≡ Ok q → q ≡ o → p ≡ Ok o
holds_in e z = e ∙ ap (λ (x : Option ℕ). Ok x) z

-- no turn does any more
pub run_ends : {f₀ : Fed} {l₀ s : List ℕ} {last : Bool} {d₀ : List ℕ} {f : Fed} {l d : List ℕ} {p : Result ℕ Refusal} {i at : ℕ} {x : Feed} → Running f₀ l₀ s last d₀ f l d i at → print f (drop i s) last (length d₀ - at) ≡ rests f →
    of_written p ≡ choose (short f₀ s last (length d₀)) (refused 9) (accepted (at ∷ [])) → Runs f₀ s last d₀ (record { written = p; used = i; feed = x }) f d × (l ≡ (print f₀ s last (length d₀)).line l₀)
run_ends {f₀} {l₀} {s} {last} {d₀} {f} {l} {d} {p} {i} {at} v e w =
    let is : print f₀ s last (length d₀) ≡ onward v.written i v.filled (rests f) = v.whole ∙ ap (onward v.written i v.filled) e in
    let lines : (print f₀ s last (length d₀)).lines ≡ v.written = ap (λ (p : Print). p.lines) is ∙ append-nil v.written in (
      record {
        answer = w ∙ ap (λ (n : ℕ). choose (short f₀ s last (length d₀)) (refused 9) (accepted (n ∷ []))) (v.place ∙ sym (ap length lines));
        used = let y = ap (λ (p : Print). p.used) is in omega arith;
        fed = sym (ap (λ (p : Print). p.fed) is);
        out = v.slice ∙ sym (ap (splice d₀ 0) lines);
      },
      v.bytes ∙ sym (ap (λ (p : Print). p.line l₀) is),
    )

-- one turn more: t is its answer on the rest of the piece and of the slice
module _ {f₀ : Fed} {l₀ s : List ℕ} {last : Bool} {d₀ : List ℕ} {f : Fed} {l d : List ℕ} {i at : ℕ} {r : Turned} {f' : Fed} {e : List ℕ} (v : Running f₀ l₀ s last d₀ f l d i at)
    (t₀ : Turns f (take (length s - i) (drop i s)) last (take (length d - at) (drop at d)) r f' e) where
  abbrev to-come : List ℕ
  to-come = drop i s

  abbrev room-left : ℕ
  room-left = length d₀ - at

  abbrev turned : Move
  turned = turn_move f to-come last room-left

  part-long : length (drop at d) ≡ room-left
  part-long = let l = length-drop at d in let k = kept v in omega arith

  t : Turns f to-come last (drop at d) r f' e
  t = subst (λ (x : List ℕ). Turns f x last (drop at d) r f' e) (part-rest s i) (subst (λ (x : List ℕ). Turns f (take (length s - i) (drop i s)) last x r f' e) (part-rest d at) t₀)

  same : turn_move f to-come last (length (drop at d)) ≡ turned
  same = ap (turn_move f to-come last) part-long

  lines_long : length (turn_move f to-come last (length (drop at d))).lines ≡ length turned.lines
  lines_long = ap (λ (m : Move). length m.lines) same

  pub used-within : i + r.used ≤ length s
  used-within = let u = t.move.used in let w = taken-within f to-come in let l = length-drop i s in let h = v.within in omega arith

  left-then : drop (i + r.used) s ≡ drop (taken_bytes f to-come) to-come
  left-then = sym (drop-drop r.used i s) ∙ ap (λ (n : ℕ). drop n to-come) t.move.used

  abbrev does : Bool
  does = busy f to-come last

  fitted : length turned.lines ≤ room-left → (of_turned r.written ≡ choose does (accepted (length turned.lines ∷ [])) (accepted [])) × (f' ≡ turned.fed) × (e ≡ splice (drop at d) 0 turned.lines)
  fitted h =
      let so = t.move.so (let l = lines_long in let k = part-long in omega arith) in (
        so.0 ∙ ap (λ (n : ℕ). choose does (accepted (n ∷ [])) (accepted [])) lines_long,
        so.1 ∙ ap (λ (m : Move). m.fed) same,
        so.2 ∙ ap (λ (m : Move). splice (drop at d) 0 m.lines) same,
      )

  not_fitted : room-left < length turned.lines → (of_turned r.written ≡ refused 9) × (f' ≡ f) × (e ≡ drop at d)
  not_fitted h = t.move.not (let l = lines_long in let k = part-long in omega arith)

  -- it wrote n bytes
  went : {n : ℕ} → r.written ≡ Ok (Some n) → (length turned.lines ≤ room-left) × (does ≡ true) × (n ≡ length turned.lines)
  went {n} y =
      on (less room-left (length turned.lines))
      (λ h. not-both (sym (not_fitted h).0 ∙ ap of_turned y))
      (λ h.
      on (tested does)
      (λ b. (h, b, sym (one_value (sym (chosen _ b) ∙ sym (fitted h).0 ∙ ap of_turned y))))
      (λ b. absurd (let z = ap (λ (a : Answer). length a.values) (sym (other _ b) ∙ sym (fitted h).0 ∙ ap of_turned y) in omega arith)))

  -- it did nothing
  idled : r.written ≡ Ok None → (length turned.lines ≤ room-left) × (does ≡ false)
  idled y =
      on (less room-left (length turned.lines))
      (λ h. absurd (let z = ap (λ (a : Answer). a.number) (sym (not_fitted h).0 ∙ ap of_turned y) in omega arith))
      (λ h.
      on (tested does)
      (λ b. absurd (let z = ap (λ (a : Answer). length a.values) (sym (chosen _ b) ∙ sym (fitted h).0 ∙ ap of_turned y) in omega arith))
      (λ b. (h, b)))

  -- it got 9
  too_long : {k : Refusal} → r.written ≡ Err k → (room-left < length turned.lines) × (refused (number_of k) ≡ refused 9)
  too_long {k} y =
      on (less room-left (length turned.lines))
      (λ h. (h, sym (ap of_turned y) ∙ (not_fitted h).0))
      (λ h.
      let some = number-some k in
      on (tested does)
      (λ b. absurd (let z = ap (λ (a : Answer). a.number) (sym (chosen _ b) ∙ sym (fitted h).0 ∙ ap of_turned y) in omega arith))
      (λ b. absurd (let z = ap (λ (a : Answer). a.number) (sym (other _ b) ∙ sym (fitted h).0 ∙ ap of_turned y) in omega arith)))

  -- whether the first turn fits
  module _ {first : Bool} (k : Told f₀ s last d₀ f i at first) where
    first_long : first ≡ true → (length (turn_move f₀ s last (length d₀)).lines ≡ length turned.lines) × (length d₀ ≡ room-left)
    first_long b =
        let z = k.fresh b in
        let all : length d₀ ≡ room-left = let a = z.2 in omega arith in
        let now : turn_move f₀ s last (length d₀) ≡ turned = ap₂ (λ (x : Fed) (y : List ℕ). turn_move x y last (length d₀)) (sym z.0) (sym (ap (λ (n : ℕ). drop n s) z.1)) ∙ ap (turn_move f to-come last) all in
        (ap (λ (m : Move). length m.lines) now, all)

    told_fits : length turned.lines ≤ room-left → short f₀ s last (length d₀) ≡ false
    told_fits h = on (tested first) (λ b. let p = first_long b in let l = p.0 in let a = p.1 in le-ltb (length d₀) _ (omega arith)) (λ b. k.fits b)

    told_short : first ≡ true → room-left < length turned.lines → short f₀ s last (length d₀) ≡ true
    told_short b h = let p = first_long b in let l = p.0 in let a = p.1 in lt-ltb (length d₀) _ (omega arith)

  module _ {d' l' : List ℕ} (z : d' ≡ take at d ++ (e ++ drop (length d - at) (drop at d))) (q₀ : l' ≡ line_taken f (take (length s - i) (drop i s)) l) where
    line-then : l' ≡ line_taken f to-come l
    line-then = q₀ ∙ ap (λ (x : List ℕ). line_taken f x l) (part-rest s i)

    put_back : (w : List ℕ) → e ≡ splice (drop at d) 0 w → d' ≡ splice d at w
    put_back w q = z ∙ ap (λ (x : List ℕ). take at d ++ (x ++ drop (length d - at) (drop at d))) q ∙ part-written d at w

    -- it did something
    pub run_turn : {n : ℕ} → r.written ≡ Ok (Some n) → Running f₀ l₀ s last d₀ f' l' d' (i + r.used) (at + n)
    run_turn {n} y =
        let w = went y in
        let h = w.0 in
        let wrote = w.2 in
        let so = fitted h in
        let fed = so.1 in
        let long = length-append v.written turned.lines in
        let place = v.place in
        let room = v.room in
        let rest = print turned.fed (drop (taken_bytes f to-come) to-come) last (room-left - length turned.lines) in
        let then : print f' (drop (i + r.used) s) last (length d₀ - (at + n)) ≡ rest = rw (fed, left-then) (ap (print turned.fed (drop (taken_bytes f to-come) to-come) last) (let y : length d₀ - (at + n) ≡ room-left - length turned.lines = omega arith in y)) in
        record {
          within = used-within;
          room = omega arith;
          written = v.written ++ turned.lines;
          place = omega arith;
          slice =
              put_back turned.lines so.2
              ∙ ap₂ (λ (x : List ℕ) (n : ℕ). splice x n turned.lines) v.slice (let y : at ≡ 0 + length v.written = omega arith in y)
              ∙ splices d₀ 0 v.written turned.lines (omega arith);
          filled = λ x. line_taken f to-come (v.filled x);
          bytes = line-then ∙ ap (line_taken f to-come) v.bytes;
          whole =
              v.whole
              ∙ ap (onward v.written i v.filled) (print-first f to-come last room-left h)
              ∙ ap₂ (λ (w : List ℕ) (n : ℕ). record { lines = w; used = n; fed = rest.fed; line = λ x. rest.line (line_taken f to-come (v.filled x)) }) (sym (append_assoc v.written turned.lines rest.lines)) (let u = t.move.used in let y : i + (taken_bytes f to-come + rest.used) ≡ (i + r.used) + rest.used = omega arith in y)
              ∙ ap (onward (v.written ++ turned.lines) (i + r.used) (λ x. line_taken f to-come (v.filled x))) (sym then);
        }

    -- it did nothing, and no other does anything
    stays : f' ≡ f → taken_bytes f to-come ≡ 0 → e ≡ drop at d → print f to-come last room-left ≡ rests f → Running f₀ l₀ s last d₀ f' l' d' (i + r.used) at × (print f' (drop (i + r.used) s) last room-left ≡ rests f')
    stays fed none slice is =
        let l-same : l' ≡ l = line-then ∙ line-none f to-come l none in
        let i-same : i + r.used ≡ i = let u = t.move.used in omega arith in
        let d-same : d' ≡ d = put_back [] (slice ∙ sym (splice-none (drop at d) 0)) ∙ splice-none d at in
        rw (i-same, d-same, l-same, fed) (v, is)

    stays_idle : r.written ≡ Ok None → Running f₀ l₀ s last d₀ f' l' d' (i + r.used) at × (print f' (drop (i + r.used) s) last room-left ≡ rests f')
    stays_idle y =
        let p = idled y in
        let so = fitted p.0 in
        let m = turn-idle f last room-left to-come p.1 in
        stays (so.1 ∙ ap (λ (x : Move). x.fed) m.0) m.1 (so.2 ∙ ap (λ (x : Move). splice (drop at d) 0 x.lines) m.0 ∙ splice-none (drop at d) 0) (print-idle f to-come last room-left p.1)

    stays_short : {k : Refusal} → r.written ≡ Err k → Running f₀ l₀ s last d₀ f' l' d' (i + r.used) at × (print f' (drop (i + r.used) s) last room-left ≡ rests f')
    stays_short y =
        let h = (too_long y).0 in
        let no = not_fitted h in
        stays no.1 (short_none f last room-left to-come h) no.2 (print-short f to-come last room-left h)

    -- so that they end
    module _ {first : Bool} (k : Told f₀ s last d₀ f i at first) {x : Feed} where
      pub ends_idle : r.written ≡ Ok None → Runs f₀ s last d₀ (record { written = Ok at; used = i + r.used; feed = x }) f' d' × (l' ≡ (print f₀ s last (length d₀)).line l₀)
      ends_idle y = let p = stays_idle y in run_ends p.0 p.1 (sym (other _ (told_fits k (idled y).0)))

      pub ends_later : {n : Refusal} → r.written ≡ Err n → first ≡ false → Runs f₀ s last d₀ (record { written = Ok at; used = i + r.used; feed = x }) f' d' × (l' ≡ (print f₀ s last (length d₀)).line l₀)
      ends_later y b = let p = stays_short y in run_ends p.0 p.1 (sym (other _ (k.fits b)))

      pub ends_short : {n : Refusal} → r.written ≡ Err n → first ≡ true → Runs f₀ s last d₀ (record { written = Err n; used = i + r.used; feed = x }) f' d' × (l' ≡ (print f₀ s last (length d₀)).line l₀)
      ends_short y b = let p = stays_short y in let q = too_long y in run_ends p.0 p.1 (q.1 ∙ sym (chosen _ (told_short k b q.0)))

  pub place-within : {n : ℕ} → r.written ≡ Ok (Some n) → at + n ≤ length d₀
  place-within y = let w = went y in let h = w.0 in let n = w.2 in let q = v.room in omega arith

  pub run_less : {n : ℕ} → r.written ≡ Ok (Some n) → turns_left f' (length s - (i + r.used)) < turns_left f (length s - i)
  run_less y =
      let w = went y in
      let l = length-drop i s in
      let left : length s - (i + r.used) ≡ length to-come - taken_bytes f to-come = let u = t.move.used in omega arith in
      let few = turn-less f last room-left to-come w.1 in
      let same_left = ap₂ turns_left (fitted w.0).1 left in
      let was = ap (turns_left f) l in
      omega arith

  pub told-turn : {first : Bool} {n : ℕ} → Told f₀ s last d₀ f i at first → r.written ≡ Ok (Some n) → Told f₀ s last d₀ f' (i + r.used) (at + n) false
  told-turn k y = record { fresh = λ e. absurd (clash e refl); fits = λ e. told_fits k (went y).0 }
