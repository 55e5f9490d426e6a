-- A whole day, counted call by call. Assumes nothing.
use Rattle.std.specs.Prelude.{Option, Some, None}
use mathlib.Core.Bool.{true, false}
use mathlib.Core.Path.{◌≡◌, refl, sym, ap, subst, ◌∙◌}
use mathlib.Core.List.{List, [], ◌∷◌, ◌++◌, append-nil}
use mathlib.Core.Logic.{inr}
use Prim.Native.Nat.{ℕ, ◌+◌, ◌-◌, ◌≤◌, ◌<◌}
use native.Mathlib.Omega.{arith}
use lib.ListN.{length, take, drop, length-append, length-drop}
use lib.Seq.{drop-drop}
use Rattle.lists.specs.Choice.{choose}
use Rattle.lists.proofs.Cases.{less, on, chosen, other, by_choice}
use Rattle.lists.proofs.Parts.{part-rest}
use Rattle.day.specs.Sheet.{header, sheet}
use Rattle.feeding.specs.Fed.{Fed, beginning, remaining}
use Rattle.feeding.specs.Bound.{step_bytes}
use Rattle.feed.specs.declared.Step.{Step}
use Rattle.feed.specs.Answers.{Begins}
use Rattle.printer.specs.declared.Printed.{Printed}
use Rattle.printer.specs.Answers.{Prints}
use Rattle.printer.specs.Laws.{Call, answer, Calls, none, Moves}
use Rattle.printer.proofs.Told.{begun_to, printed-to}
use Rattle.printer.proofs.Laws.{call-more, laws}
use Rattle.daysheet.specs.Steps.{Spends}

-- calls so far, over the first i bytes, and what they and the header left of the room
pub record Counting (s : List ℕ) (room : ℕ) (f : Fed) (left i : ℕ) : Type 0 where
  pub within : i ≤ length s
  pub made : List Call
  pub printed : List ℕ
  pub calls : Calls beginning s made printed f (drop i s)
  pub sum : left + (length header + length printed) ≡ room

-- each call makes it less
unfoldable pub to_count : Fed → ℕ → ℕ → ℕ
to_count f n left = n + left + choose f.over 0 1

same-some : {m n : ℕ} → ◌≡◌ {A = Option ℕ} (Some m) (Some n) → m ≡ n
same-some e = cc

not-none : {A : Type 0} {n : ℕ} → ◌≡◌ {A = Option ℕ} (Some n) None → A
not-none e = absurd (let z : ◌≡◌ {A = ℕ} 0 1 = cc in omega arith)

-- ---- the header

header-first : (s : List ℕ) → length header ≤ length (sheet s)
header-first s = let l = ap length (laws.calls s s [] [] beginning none) in let k = length-append header (remaining beginning s) in omega arith

module _ (s : List ℕ) {room : ℕ} {d : List ℕ} {r : Step} {d' : List ℕ} {p : Option ℕ} (b : Begins d r d') (q : Spends r.written room p) (h : step_bytes ≤ length d) where
  pub header-over : p ≡ None → room < length (sheet s)
  header-over e =
      on (less room (length header))
      (λ l. let k = header-first s in omega arith)
      (λ l. not-none (sym (q.so (length header) (begun_to b (omega arith)) l) ∙ e))

  pub count-begins : {f : Fed} {left : ℕ} → p ≡ Some left → f ≡ beginning → Counting s room f left 0
  count-begins {f} {left} e is =
      on (less room (length header))
      (λ l. not-none (sym e ∙ q.not (length header) (begun_to b (omega arith)) l))
      (λ l.
      subst (λ (g : Fed). Counting s room g left 0) (sym is)
      (record { within = omega arith; made = []; printed = []; calls = none; sum = let k = same-some (sym e ∙ q.so (length header) (begun_to b (omega arith)) l) in omega arith }))

-- ---- a call

module _ {s : List ℕ} {room : ℕ} {f : Fed} {left i : ℕ} {d : List ℕ} {r : Printed} {f' : Fed} {d' : List ℕ} (v : Counting s room f left i)
    (p₀ : Prints f (take (length s - i) (drop i s)) true d r f' d') (h : step_bytes ≤ length d) (o : f.over ≡ false) where
  abbrev rest : List ℕ
  rest = drop i s

  p : Prints f rest true d r f' d'
  p = subst (λ (x : List ℕ). Prints f x true d r f' d') (part-rest s i) p₀

  abbrev now : Call
  now = record { piece = rest; last = true; room = length d }

  abbrev lines : List ℕ
  lines = (answer f now).lines

  moves : Moves f now
  moves = laws.moves s rest v.printed v.made f v.calls now (record { room = h; more = inr refl }) o

  pub used-within : i + r.used ≤ length s
  used-within = let w = (laws.within f now).1 in let u = p.used in let l = length-drop i s in let k = v.within in omega arith

  after : drop (answer f now).used rest ≡ drop (i + r.used) s
  after = ap (λ (n : ℕ). drop n rest) (sym p.used) ∙ drop-drop r.used i s

  calls-then : Calls beginning s (v.made ++ (now ∷ [])) (v.printed ++ lines) f' (drop (i + r.used) s)
  calls-then =
      subst (λ (x : List ℕ). Calls beginning s (v.made ++ (now ∷ [])) (v.printed ++ lines) f' x) after
      (subst (λ (g : Fed). Calls beginning s (v.made ++ (now ∷ [])) (v.printed ++ lines) g (drop (answer f now).used rest)) (sym p.fed)
      (call-more now v.calls (sym (append-nil rest)) (λ e. refl)))

  long : length (v.printed ++ lines) ≡ length v.printed + length lines
  long = length-append v.printed lines

  -- the sheet has these bytes
  at_least : length header + length (v.printed ++ lines) ≤ length (sheet s)
  at_least =
      let t = drop (i + r.used) s in
      let a = ap length (laws.calls s t (v.printed ++ lines) (v.made ++ (now ∷ [])) f' calls-then) in
      let b = length-append header ((v.printed ++ lines) ++ remaining f' t) in
      let c = length-append (v.printed ++ lines) (remaining f' t) in
      omega arith

  module _ {q : Option ℕ} (z : Spends r.written left q) where
    pub count-over : q ≡ None → room < length (sheet s)
    count-over e =
        on (less left (length lines))
        (λ l. let a = at_least in let b = long in let c = v.sum in omega arith)
        (λ l. not-none (sym (z.so (length lines) (printed-to p moves.accepted) l) ∙ e))

    left-then : {n : ℕ} → q ≡ Some n → n + length lines ≡ left
    left-then e =
        on (less left (length lines))
        (λ l. not-none (sym e ∙ z.not (length lines) (printed-to p moves.accepted) l))
        (λ l. let k = same-some (sym e ∙ z.so (length lines) (printed-to p moves.accepted) l) in omega arith)

    pub count_turn : {n : ℕ} → q ≡ Some n → Counting s room f' n (i + r.used)
    count_turn e =
        record {
          within = used-within;
          made = v.made ++ (now ∷ []);
          printed = v.printed ++ lines;
          calls = calls-then;
          sum = let a = left-then e in let b = long in let c = v.sum in omega arith;
        }

    pub count_less : {n : ℕ} → q ≡ Some n → to_count f' (length s - (i + r.used)) n < to_count f (length s - i) left
    unfolding to_count
    count_less e =
        let a = left-then e in
        let u = p.used in
        let w = used-within in
        let k = v.within in
        let was : ◌≡◌ {A = ℕ} (choose f.over 0 1) 1 = other 0 o in
        let is : choose f'.over 0 1 ≤ 1 = by_choice (λ (n : ℕ). n ≤ 1) f'.over (λ t. omega arith) (λ t. omega arith) in
        on moves.so
        (λ some. omega arith)
        (λ m.
        on m
        (λ some. omega arith)
        (λ t. let over : ◌≡◌ {A = ℕ} (choose f'.over 0 1) 0 = chosen 1 (ap (λ (g : Fed). g.over) p.fed ∙ t) in omega arith))

pub count-ends : {s : List ℕ} {room : ℕ} {f : Fed} {left i : ℕ} → Counting s room f left i → f.over ≡ true → length (sheet s) ≤ room
count-ends {s} {room} {f} {left} {i} v o =
    let a = ap length (laws.over s (drop i s) v.printed v.made f v.calls o) in
    let b = length-append header v.printed in
    let c = v.sum in
    omega arith
