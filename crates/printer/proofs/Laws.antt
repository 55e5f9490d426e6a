-- Every way of calling prints the sheet. Assumes nothing.
use mathlib.Core.Bool.{true, false}
use mathlib.Core.Path.{◌≡◌, refl, sym, ap, subst, ◌∙◌}
use mathlib.Core.List.{List, [], ◌∷◌, ◌++◌, append-nil, append_assoc, Memᴰ}
use Prim.Native.Nat.{ℕ, ◌+◌, ◌≤◌}
use native.Mathlib.Omega.{arith}
use borrow.Author.Tests.{ltb-true, le-ltb}
use lib.ListN.{length, drop, length-append, length-drop}
use lib.Seq.{drop-append-le}
use Rattle.lists.proofs.Cases.{tested, on, clash}
use Rattle.day.specs.Sheet.{header}
use Rattle.feeding.specs.Fed.{Fed, beginning, remaining}
use Rattle.feeding.specs.Bound.{Bounded}
use Rattle.feeding.proofs.Laws.{laws as fed-laws}
use Rattle.printer.specs.Laws.{Call, answer, ShortDoesNothing, Calls, none, next, CallsPrintTheSheet, OverIsTheSheet, Ample, Moves, AmpleCallsMove, AmpleCallsEnd, Laws}
use Rattle.printer.proofs.Turning.{turn-fits}
use Rattle.printer.proofs.Printing.{print-short, stays_within, prints-next, keeps_bounds, stays-over, goes_on_lem, one-call}

short_does_nothing : ShortDoesNothing
short_does_nothing f c e = print-short f c.piece c.last c.room (ltb-true c.room _ e)

-- ---- one call

module _ (f : Fed) (c : Call) {s rest : List ℕ} (is : s ≡ c.piece ++ rest) (all : c.last ≡ true → rest ≡ []) where
  -- what is still to come after it
  left-then : drop (answer f c).used s ≡ drop (answer f c).used c.piece ++ rest
  left-then = ap (drop (answer f c).used) is ∙ drop-append-le (answer f c).used c.piece rest (stays_within f c.piece c.last c.room).1

  prints-then : remaining f s ≡ (answer f c).lines ++ remaining (answer f c).fed (drop (answer f c).used s)
  prints-then =
      ap (remaining f) is
      ∙ prints-next f c.piece rest c.last c.room all
      ∙ ap (λ (x : List ℕ). (answer f c).lines ++ remaining (answer f c).fed x) (sym left-then)

  -- and how much
  long-then : length (remaining f s) ≡ length (answer f c).lines + length (remaining (answer f c).fed (drop (answer f c).used s))
  long-then = ap length prints-then ∙ length-append (answer f c).lines _

  used-then : length (drop (answer f c).used s) + (answer f c).used ≡ length s
  used-then =
      let l = length-drop (answer f c).used s in
      let w = (stays_within f c.piece c.last c.room).1 in
      let a = ap length is in
      let b = length-append c.piece rest in
      omega arith

ample_moves : (f : Fed) (c : Call) → Bounded f → Ample c → f.over ≡ false → Moves f c
ample_moves f c q a o =
    record {
      accepted = le-ltb c.room _ (turn-fits f c.last c.room c.piece q a.room);
      so = goes_on_lem f c.piece c.last c.room q a.room o a.more;
    }

-- ---- calls one after the other

calls-left : {f g : Fed} {s t w : List ℕ} {cs : List Call} → Calls f s cs w g t → remaining f s ≡ w ++ remaining g t
calls-left none = refl
calls-left {f} (next {w = w} {c = c} is all r) = prints-then f c is all ∙ ap (λ (x : List ℕ). (answer f c).lines ++ x) (calls-left r) ∙ sym (append_assoc (answer f c).lines w _)

pub calls-bounded : {f g : Fed} {s t w : List ℕ} {cs : List Call} → Calls f s cs w g t → Bounded f → Bounded g
calls-bounded none q = q
calls-bounded {f} (next {c = c} is all r) q = calls-bounded r (keeps_bounds f c.piece c.last c.room q)

calls-over : {f g : Fed} {s t w : List ℕ} {cs : List Call} → Calls f s cs w g t → f.over ≡ true → g.over ≡ true
calls-over none o = o
calls-over {f} (next {c = c} is all r) o = calls-over r (stays-over f c.piece c.last c.room o)

-- each call with room enough leaves less to take and to print
calls-few : {f g : Fed} {s t w : List ℕ} {cs : List Call} → Calls f s cs w g t → Bounded f → ((c : Call) → Memᴰ c cs → Ample c) → g.over ≡ false →
    length cs + (length t + length (remaining g t)) ≤ length s + length (remaining f s)
calls-few none q a o = omega arith
calls-few {f} {s = s} (next {c = c} is all r) q a o =
    let still = calls-few r (keeps_bounds f c.piece c.last c.room q) (λ x m. a x (Memᴰ.tail m)) o in
    let open-then = on (tested (answer f c).fed.over) (λ e. absurd (clash (calls-over r e) o)) (λ e. e) in
    let open_now = on (tested f.over) (λ e. absurd (clash (calls-over r (stays-over f c.piece c.last c.room e)) o)) (λ e. e) in
    let l = long-then f c is all in
    let u = used-then f c is all in
    on (ample_moves f c q (a c (Memᴰ.head refl)) open_now).so
    (λ some. omega arith)
    (λ p. on p (λ some. omega arith) (λ e. absurd (clash e open-then)))

-- one call more
pub call-more :
    {f g : Fed} {s t rest w : List ℕ} {cs : List Call} (c : Call) → Calls f s cs w g t → t ≡ c.piece ++ rest → (c.last ≡ true → rest ≡ []) →
    Calls f s (cs ++ (c ∷ [])) (w ++ (answer g c).lines) (answer g c).fed (drop (answer g c).used t)
call-more {f} {s = s} c none is all = subst (λ (x : List ℕ). Calls f s (c ∷ []) x (answer f c).fed (drop (answer f c).used s)) (append-nil (answer f c).lines) (next is all none)
call-more {f} {g} {s} {t} c (next {w = w} {c = b} {cs = cs} is₀ all₀ r) is all =
    subst (λ (x : List ℕ). Calls f s (b ∷ (cs ++ (c ∷ []))) x (answer g c).fed (drop (answer g c).used t)) (sym (append_assoc (answer f b).lines w (answer g c).lines)) (next is₀ all₀ (call-more c r is all))

calls-print : CallsPrintTheSheet
calls-print s t w cs f r = ap (λ (x : List ℕ). header ++ x) (sym (calls-left r)) ∙ fed-laws.begins s

over-is : OverIsTheSheet
over-is s t w cs f r o =
    ap (λ (x : List ℕ). header ++ x) (sym (ap (λ (x : List ℕ). w ++ x) (fed-laws.over f t o) ∙ append-nil w)) ∙ calls-print s t w cs f r

ample_calls_move : AmpleCallsMove
ample_calls_move s t w cs f r c a o = ample_moves f c (calls-bounded r fed-laws.bounded) a o

ample_calls_end : AmpleCallsEnd
ample_calls_end s t w cs f r a h =
    on (tested f.over) (λ o. o)
    (λ o.
    absurd
    (let few = calls-few r fed-laws.bounded a o in
    let l = ap length (fed-laws.begins s) in
    let k = length-append header (remaining beginning s) in
    omega arith))

pub laws : Laws
laws =
    record {
      within = λ f c. stays_within f c.piece c.last c.room;
      short = short_does_nothing;
      one = one-call;
      calls = calls-print;
      over = over-is;
      moves = ample_calls_move;
      ends = ample_calls_end;
    }
