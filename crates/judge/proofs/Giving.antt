-- What the calls answer, from what the calls that they make answer. Assumes nothing.
use Rattle.std.specs.Prelude.{Result, Ok, Err, None}
use mathlib.Core.Bool.{Bool, true, false}
use mathlib.Core.Path.{◌≡◌, refl, sym, ap, ap₂, subst, ◌∙◌}
use mathlib.Core.List.{List, []}
use Prim.Native.Nat.{ℕ, ◌+◌, ◌-◌, ◌≤◌, ◌<◌}
use native.Mathlib.Omega.{arith}
use lib.ListN.{length, take, drop}
use Rattle.lists.proofs.Cases.{tested, on, clash, chosen, other}
use Rattle.refusal.specs.Answer.{refused}
use Rattle.refusal.proofs.Answers.{not-both}
use Rattle.text.specs.Write.{of_written}
use Rattle.day.specs.Sheet.{header}
use Rattle.departure.specs.declared.Compared.{Compared}
use Rattle.departure.specs.Compare.{compared}
use Rattle.departure.proofs.Comparing.{Way, apart, ends, stops, way, ends-few}
use Rattle.feeding.specs.Fed.{Fed}
use Rattle.feeding.specs.Bound.{step_bytes}
use Rattle.feed.specs.declared.Feed.{Feed}
use Rattle.feed.specs.declared.Step.{Step}
use Rattle.feed.specs.Answers.{fed_of, Begins as FeedBegins}
use Rattle.printer.specs.declared.Printed.{Printed}
use Rattle.printer.specs.Print.{Print, print, short}
use Rattle.printer.specs.Answers.{written_bytes, Prints, PrintsIn}
use Rattle.printer.proofs.Told.{begun_to, begun-slice, printed-to}
use Rattle.printer.proofs.Laws.{laws as print-laws}
use Rattle.judge.specs.declared.Judge.{Judge}
use Rattle.judging.specs.Bounds.{sheet_limit}
use Rattle.judging.specs.Judging.{closed, sated, Taking}
use Rattle.judge.specs.Answers.{end_in, start_in, held_in, judging_of, Begins, DayGiven, with_found, sheet_given, SheetGiven}
use Rattle.judging.proofs.Standing.{day-idle, day-busy, sheet-idle, sheet-busy}
use Rattle.judge.proofs.Holding.{in_order, held-length, held-written, held_after, open_few}
use Rattle.judging.proofs.Laws.{laws, bytes-few}
use Rattle.refusal.specs.declared.Refusal.{Refusal}

-- ---- the first call

abbrev judge_from : Feed → ℕ → Judge
judge_from f n = record { feed = f; from = 0; to = n; lines = 0; judgement = None }

pub begun-by : {d : List ℕ} {r : Step} {d' : List ℕ} {n : ℕ} → FeedBegins d r d' → step_bytes ≤ length d → n ≡ written_bytes r.written → Begins d (judge_from r.feed n) d'
begun-by {d} {r} {d'} {n} b h e =
    let room : length header ≤ length d = omega arith in
    let to : n ≡ length header = e ∙ ap written_bytes (begun_to b room) in
    let slice = begun-slice b room in
    record {
      judge = ap₂ judge_from b.feed to;
      due = slice;
      stands =
          λ l w k.
          ap₂ (λ (f : Fed) (x : List ℕ). record { fed = f; held = x; lines = 0; judgement = None })
          (b.fed l w k)
          (ap (held_in (judge_from r.feed n)) slice ∙ held-written (judge_from r.feed n) d header refl to room);
      laws = laws;
    }

-- ---- a piece of the day

pub day-waits :
    (x : Judge) (l w : List ℕ) (k : List Bool) (d s : List ℕ) (last : Bool) → length d ≡ step_bytes → sated (judging_of x l w k d) ≡ true →
    DayGiven x l w k d s last (record { used = 0; judge = x }) l w k d
day-waits x l w k d s last n e =
    let t = day-idle (judging_of x l w k d) s last (length d) e in
    record {
      room = n;
      used = sym (ap (λ (y : Taking). y.used) t);
      judging = sym (ap (λ (y : Taking). y.judging) t);
      idle = λ z. (refl, refl, refl, refl, refl);
      busy = λ z. absurd (clash e z);
    }

-- as many bytes were written as the lines have
no_bytes : (p : Result ℕ Refusal) {n : ℕ} → of_written p ≡ refused n → written_bytes p ≡ 0
no_bytes (Ok m) e = not-both (sym e)
no_bytes (Err k) e = refl

pub bytes_are : {f : Fed} {s : List ℕ} {last : Bool} {d : List ℕ} {r : Printed} {f' : Fed} {d' : List ℕ} → Prints f s last d r f' d' → written_bytes r.written ≡ length (print f s last (length d)).lines
bytes_are {f} {s} {last} {d} {r} p =
    on (tested (short f s last (length d)))
    (λ e.
    no_bytes r.written (p.answer ∙ chosen _ e)
    ∙ sym (ap (λ (x : Print). length x.lines) (print-laws.short f (record { piece = s; last = last; room = length d }) e)))
    (λ e. ap written_bytes (printed-to p e))

module _ (x : Judge) (l w : List ℕ) (k : List Bool) (d s : List ℕ) (last : Bool) (r : Printed) (l' w' : List ℕ) (k' : List Bool) (d' : List ℕ) where
  abbrev judge_by : ℕ → Judge
  judge_by n = record { feed = r.feed; from = 0; to = n; lines = x.lines; judgement = x.judgement }

  pub day-goes :
      {n : ℕ} → length d ≡ step_bytes → sated (judging_of x l w k d) ≡ false → PrintsIn x.feed l w k s last d r l' w' k' d' → n ≡ written_bytes r.written →
      DayGiven x l w k d s last (record { used = r.used; judge = judge_by n }) l' w' k' d'
  day-goes {n} room e p to =
      let q = p.prints in
      let t = day-busy (judging_of x l w k d) s last (length d) e in
      let many : n ≡ length (print (fed_of x.feed l w k) s last (length d)).lines = to ∙ bytes_are q in
      let within = (print-laws.within (fed_of x.feed l w k) (record { piece = s; last = last; room = length d })).0 in
      record {
        room = room;
        used = q.used ∙ sym (ap (λ (y : Taking). y.used) t);
        judging =
            ap₂ (λ (f : Fed) (h : List ℕ). record { fed = f; held = h; lines = x.lines; judgement = x.judgement })
            q.fed
            (ap (held_in (judge_by n)) q.out ∙ held-written (judge_by n) d (print (fed_of x.feed l w k) s last (length d)).lines refl many within)
            ∙ sym (ap (λ (y : Taking). y.judging) t);
        idle = λ z. absurd (clash z e);
        busy = λ z. record { printed = r; prints = p; given = ap (λ (m : ℕ). record { used = r.used; judge = judge_by m }) to };
      }

-- ---- a piece of the sheet

pub sheet-waits : (x : Judge) (d s : List ℕ) (last : Bool) → closed x.judgement x.lines ≡ true → SheetGiven x d s last (record { used = 0; judge = x })
unfolding sheet_given
sheet-waits x d s last e =
    record {
      given = sym (chosen _ e);
      used = λ l w k. sym (ap (λ (y : Taking). y.used) (sheet-idle (judging_of x l w k d) s last e));
      judging = λ l w k. sym (ap (λ (y : Taking). y.judging) (sheet-idle (judging_of x l w k d) s last e));
    }

module _ (x : Judge) (d s : List ℕ) (last : Bool) where
  abbrev c : Compared
  c = compared (held_in x d) s

  abbrev found : Judge
  found = with_found x (start_in x (length d)) (length (held_in x d)) (length s) last c

  few : c.bytes ≤ length (held_in x d)
  few = (bytes-few (judging_of x [] [] [] d) s last).1

  held_found : held_in found d ≡ drop c.bytes (held_in x d)
  held_found = held_after x found d c.bytes refl refl few

  sheet_goes_exactly : closed x.judgement x.lines ≡ false → SheetGiven x d s last (record { used = c.bytes; judge = found })
  unfolding sheet_given
  sheet_goes_exactly e =
      record {
        given = sym (other _ e);
        used = λ l w k. sym (ap (λ (y : Taking). y.used) (sheet-busy (judging_of x l w k d) s last e));
        judging =
            λ l w k.
            ap (λ (h : List ℕ). record { fed = fed_of x.feed l w k; held = h; lines = found.lines; judgement = found.judgement }) held_found
            ∙ sym (ap (λ (y : Taking). y.judging) (sheet-busy (judging_of x l w k d) s last e));
      }

  pub sheet-goes :
      {c' : Compared} {v : Judge} {start end : ℕ} → closed x.judgement x.lines ≡ false → start ≡ start_in x (length d) → end ≡ end_in x (length d) →
      c' ≡ compared (take (end - start) (drop start d)) s → v ≡ with_found x start (end - start) (length s) last c' →
      SheetGiven x d s last (record { used = c'.bytes; judge = v })
  sheet-goes {c'} {v} {start} {end} e es ee ec ev =
      let same : c' ≡ c = ec ∙ ap₂ (λ (a b : ℕ). compared (take (b - a) (drop a d)) s) es ee in
      let size : end - start ≡ length (held_in x d) = ap₂ (λ (a b : ℕ). b - a) es ee ∙ sym (held-length x d) in
      let all : v ≡ found = ev ∙ ap₂ (λ (a n : ℕ). with_found x a n (length s) last c') es size ∙ ap (with_found x (start_in x (length d)) (length (held_in x d)) (length s) last) same in
      subst (SheetGiven x d s last)
      (sym (ap₂ (λ (m : ℕ) (y : Judge). record { used = m; judge = y }) (ap (λ (y : Compared). y.bytes) same) all))
      (sheet_goes_exactly e)

  -- what `with_found` asks for
  lines-few : (c' : Compared) → Way (held_in x d) s c' → c'.lines ≤ c'.bytes
  lines-few c' (apart t y z a b h ea eb e n l) = let f = ends-few t in omega arith
  lines-few c' (ends b e' e n l) = let f = ends-few (held_in x d) in omega arith
  lines-few c' (stops y a e' e n l) = let f = ends-few s in omega arith

  pub found-asks :
      {c' : Compared} {start end : ℕ} → closed x.judgement x.lines ≡ false → length d ≡ step_bytes → start ≡ start_in x (length d) → end ≡ end_in x (length d) →
      c' ≡ compared (take (end - start) (drop start d)) s → (x.lines < sheet_limit) × (start + c'.bytes ≤ step_bytes) × (c'.lines ≤ c'.bytes)
  found-asks {c'} {start} {end} e long es ee ec =
      let same : c' ≡ c = ec ∙ ap₂ (λ (a b : ℕ). compared (take (b - a) (drop a d)) s) es ee in
      let bytes : c'.bytes ≡ c.bytes = ap (λ (y : Compared). y.bytes) same in
      let lines : c'.lines ≡ c.lines = ap (λ (y : Compared). y.lines) same in
      let f = few in
      let l = held-length x d in
      let o = in_order x (length d) in
      let o₀ = o.0 in
      let o₁ = o.1 in
      let k = lines-few c (way (held_in x d) s) in
      (open_few x.judgement x.lines e, omega arith, omega arith)
