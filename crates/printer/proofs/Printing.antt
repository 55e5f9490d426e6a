-- One call: turn by turn. Assumes nothing.
use mathlib.Core.Bool.{Bool, true, false, not}
use mathlib.Core.Path.{◌≡◌, refl, sym, ap, ap₂, subst, fun_ext, ◌∙◌}
use mathlib.Core.List.{List, [], ◌++◌, append-nil, append_assoc}
use mathlib.Core.Logic.{◌⊎◌, inl, inr}
use Prim.Native.Nat.{ℕ, zero, suc, ◌+◌, ◌-◌, ◌≤◌, ◌<◌}
use native.Mathlib.Omega.{arith}
use borrow.Author.Tests.{le-leb, lt-leb}
use lib.ListN.{length, take, drop, length-append, length-drop}
use lib.Seq.{drop-drop}
use Rattle.lists.specs.Splice.{splice}
use Rattle.lists.proofs.Cases.{tested, on, less, and_left}
use Rattle.lists.proofs.Splicing.{splice-none}
use Rattle.feeding.specs.Fed.{Fed, taken_bytes, remaining}
use Rattle.feeding.specs.Moves.{Move, nothing}
use Rattle.feeding.specs.Bound.{step_bytes, Bounded}
use Rattle.feed.specs.Answers.{line_taken}
use Rattle.printer.specs.Print.{turn_move, Print, rests, first, turns, turns_left, print}
use Rattle.printer.specs.Steps.{busy}
use Rattle.printer.proofs.Turning.{busy-more, turn-idle, idle-over, turn-left, taken-within, turn-bounded, turn-fits, turn-less, turn_no_more}

-- ---- the first turn, and the others

module _ (n : ℕ) (f : Fed) (s : List ℕ) (last : Bool) (room : ℕ) where
  abbrev move : Move
  move = turn_move f s last room

  turns_fit : length move.lines ≤ room → turns (suc n) f s last room ≡ first f s move (turns n move.fed (drop (taken_bytes f s) s) last (room - length move.lines))
  unfolding turns
  turns_fit h = rw (le-leb (length move.lines) room h, turns)

  turns-short : room < length move.lines → turns (suc n) f s last room ≡ rests f
  unfolding turns
  turns-short h = rw (lt-leb (length move.lines) room h, turns)

turns-none : (f : Fed) (s : List ℕ) (last : Bool) (room : ℕ) → turns zero f s last room ≡ rests f
unfolding turns
turns-none f s last room = refl

-- no byte taken to the line
pub line-none : (f : Fed) (s l : List ℕ) → taken_bytes f s ≡ 0 → line_taken f s l ≡ l
line-none f s l e = ap (λ (n : ℕ). splice l (length f.line) (take n s)) e ∙ splice-none l (length f.line)

first-none : (f : Fed) (s : List ℕ) {m : Move} → m ≡ nothing f → taken_bytes f s ≡ 0 → first f s m (rests f) ≡ rests f
first-none f s e z =
    ap (λ (x : Move). first f s x (rests f)) e
    ∙ ap₂ (λ (n : ℕ) (t : List ℕ → List ℕ). record { lines = []; used = n; fed = f; line = t }) (let y : taken_bytes f s + 0 ≡ 0 = omega arith in y) (fun_ext (λ l. line-none f s l z))

-- nothing to do
turns-idle : (n : ℕ) (f : Fed) (s : List ℕ) (last : Bool) (room : ℕ) → busy f s last ≡ false → turns n f s last room ≡ rests f
turns-idle zero f s last room b = turns-none f s last room
turns-idle (suc n) f s last room b =
    let p = turn-idle f last room s b in
    let z = ap (λ (x : Move). length x.lines) p.0 in
    turns_fit n f s last room (omega arith)
    ∙ ap (first f s (turn_move f s last room))
    (ap₂ (λ (x : Move) (k : ℕ). turns n x.fed (drop k s) last (room - length x.lines)) p.0 p.1 ∙ turns-idle n f s last (room - 0) b)
    ∙ first-none f s p.0 p.1

left-long : (f : Fed) (s : List ℕ) → length (drop (taken_bytes f s) s) ≡ length s - taken_bytes f s
left-long f s = length-drop (taken_bytes f s) s

-- no turn is left
spent_idle : (f : Fed) (s : List ℕ) (last : Bool) → turns_left f (length s) ≤ 0 → busy f s last ≡ false
spent_idle f s last h = on (tested (busy f s last)) (λ b. absurd (let l = turn-less f last 0 s b in omega arith)) (λ b. b)

-- more turns than are left make no difference
enough : (n k : ℕ) (f : Fed) (s : List ℕ) (last : Bool) (room : ℕ) → turns_left f (length s) ≤ n → turns_left f (length s) ≤ k → turns n f s last room ≡ turns k f s last room
enough zero k f s last room h i = let b = spent_idle f s last h in turns-idle zero f s last room b ∙ sym (turns-idle k f s last room b)
enough (suc n) zero f s last room h i = let b = spent_idle f s last i in turns-idle (suc n) f s last room b ∙ sym (turns-idle zero f s last room b)
enough (suc n) (suc k) f s last room h i =
    on (tested (busy f s last))
    (λ b.
    let m = turn_move f s last room in
    let fewer : turns_left m.fed (length (drop (taken_bytes f s) s)) < turns_left f (length s) = rw (left-long f s) (turn-less f last room s b) in
    on (less room (length m.lines))
    (λ o. turns-short n f s last room o ∙ sym (turns-short k f s last room o))
    (λ o.
    turns_fit n f s last room o
    ∙ ap (first f s m) (enough n k m.fed (drop (taken_bytes f s) s) last (room - length m.lines) (omega arith) (omega arith))
    ∙ sym (turns_fit k f s last room o)))
    (λ b. turns-idle (suc n) f s last room b ∙ sym (turns-idle (suc k) f s last room b))

-- ---- a call

module _ (f : Fed) (s : List ℕ) (last : Bool) (room : ℕ) where
  abbrev turned : Move
  turned = turn_move f s last room

  one_more_lem : print f s last room ≡ turns (suc (turns_left f (length s))) f s last room
  unfolding print
  one_more_lem = enough (turns_left f (length s)) (suc (turns_left f (length s))) f s last room (omega arith) (omega arith)

  -- a turn that fits, and what comes after it
  pub print-first : length turned.lines ≤ room → print f s last room ≡ first f s turned (print turned.fed (drop (taken_bytes f s) s) last (room - length turned.lines))
  unfolding print
  print-first h =
      let no_more : turns_left turned.fed (length (drop (taken_bytes f s) s)) ≤ turns_left f (length s) = rw (left-long f s) (turn_no_more f last room s) in
      one_more_lem
      ∙ turns_fit (turns_left f (length s)) f s last room h
      ∙ ap (first f s turned) (enough (turns_left f (length s)) (turns_left turned.fed (length (drop (taken_bytes f s) s))) turned.fed (drop (taken_bytes f s) s) last (room - length turned.lines) no_more (omega arith))

  -- one that does not
  pub print-short : room < length turned.lines → print f s last room ≡ rests f
  print-short h = one_more_lem ∙ turns-short (turns_left f (length s)) f s last room h

  -- nothing to do
  pub print-idle : busy f s last ≡ false → print f s last room ≡ rests f
  unfolding print
  print-idle b = turns-idle (turns_left f (length s)) f s last room b

-- ---- what holds of what is printed holds of turns one after the other

-- a fact of a call that nothing, and every turn before it, keeps
module _ (P : Fed → List ℕ → ℕ → Print → Type 0) (last : Bool)
    (rest : (f : Fed) (s : List ℕ) (room : ℕ) → P f s room (rests f))
    (turn : (f : Fed) (s : List ℕ) (room : ℕ) (p : Print) → length (turn_move f s last room).lines ≤ room →
    P (turn_move f s last room).fed (drop (taken_bytes f s) s) (room - length (turn_move f s last room).lines) p → P f s room (first f s (turn_move f s last room) p)) where
  by-turns : (n : ℕ) (f : Fed) (s : List ℕ) (room : ℕ) → P f s room (turns n f s last room)
  by-turns zero f s room = subst (P f s room) (sym (turns-none f s last room)) (rest f s room)
  by-turns (suc n) f s room =
      let m = turn_move f s last room in
      on (less room (length m.lines))
      (λ o. subst (P f s room) (sym (turns-short n f s last room o)) (rest f s room))
      (λ o. subst (P f s room) (sym (turns_fit n f s last room o)) (turn f s room _ o (by-turns n m.fed (drop (taken_bytes f s) s) (room - length m.lines))))

  pub by-print : (f : Fed) (s : List ℕ) (room : ℕ) → P f s room (print f s last room)
  unfolding print
  by-print f s room = by-turns (turns_left f (length s)) f s room

-- it stays within the slice and the piece
pub stays_within : (f : Fed) (s : List ℕ) (last : Bool) (room : ℕ) → (length (print f s last room).lines ≤ room) × ((print f s last room).used ≤ length s)
stays_within f s last room =
    by-print (λ (f : Fed) (s : List ℕ) (room : ℕ) (p : Print). (length p.lines ≤ room) × (p.used ≤ length s)) last
    (λ f s room. (omega arith, omega arith))
    (λ f s room p o q.
    let m = turn_move f s last room in
    let a = q.0 in
    let b = q.1 in
    let l = length-append m.lines p.lines in
    let k = left-long f s in
    let w = taken-within f s in
    (omega arith, omega arith))
    f s room

-- what it prints is what comes next
pub prints-next : (f : Fed) (s t : List ℕ) (last : Bool) (room : ℕ) → (last ≡ true → t ≡ []) → remaining f (s ++ t) ≡ (print f s last room).lines ++ remaining (print f s last room).fed (drop (print f s last room).used s ++ t)
prints-next f s t last room all =
    by-print (λ (f : Fed) (s : List ℕ) (room : ℕ) (p : Print). remaining f (s ++ t) ≡ p.lines ++ remaining p.fed (drop p.used s ++ t)) last
    (λ f s room. refl)
    (λ f s room p o q.
    let m = turn_move f s last room in
    turn-left f t last all s room
    ∙ ap (λ (x : List ℕ). m.lines ++ x) (q ∙ ap (λ (x : List ℕ). p.lines ++ remaining p.fed (x ++ t)) (drop-drop p.used (taken_bytes f s) s))
    ∙ sym (append_assoc m.lines p.lines _))
    f s room

-- a feed that began, took and stepped is bounded after it
pub keeps_bounds : (f : Fed) (s : List ℕ) (last : Bool) (room : ℕ) → Bounded f → Bounded (print f s last room).fed
keeps_bounds f s last room =
    by-print (λ (f : Fed) (s : List ℕ) (room : ℕ) (p : Print). Bounded f → Bounded p.fed) last
    (λ f s room q. q)
    (λ f s room p o q b. q (turn-bounded f last room s b))
    f s room

-- a sheet that is over stays so
pub stays-over : (f : Fed) (s : List ℕ) (last : Bool) (room : ℕ) → f.over ≡ true → (print f s last room).fed.over ≡ true
stays-over f s last room o = ap (λ (p : Print). p.fed.over) (print-idle f s last room (and_left _ (ap not o))) ∙ o

-- ---- it goes on

abbrev pub Moved : Print → Type 0
Moved p = (0 < p.used) ⊎ ((0 < length p.lines) ⊎ (p.fed.over ≡ true))

moved-first : (f : Fed) (s : List ℕ) (m : Move) (p : Print) → Moved p → Moved (first f s m p)
moved-first f s m p (inl h) = inl (omega arith)
moved-first f s m p (inr (inl h)) = inr (inl (let l = length-append m.lines p.lines in omega arith))
moved-first f s m p (inr (inr h)) = inr (inr h)

-- with room for every step it takes, writes or is over: a step that prints nothing leaves fewer
moves : (n : ℕ) (f : Fed) (s : List ℕ) (last : Bool) (room : ℕ) → turns_left f (length s) ≤ n → Bounded f → step_bytes ≤ room → busy f s last ≡ true →
    ((g : Fed) → g.over ≡ false → busy g s last ≡ true) → Moved (print f s last room)
moves zero f s last room h q r b more = absurd (let l = turn-less f last room s b in omega arith)
moves (suc n) f s last room h q r b more =
    let m = turn_move f s last room in
    let k = taken_bytes f s in
    let fit = turn-fits f last room s q r in
    let rest = print m.fed (drop k s) last (room - length m.lines) in
    subst Moved (sym (print-first f s last room fit))
    (on (tested m.fed.over)
    (λ o. moved-first f s m rest (inr (inr (stays-over m.fed (drop k s) last (room - length m.lines) o))))
    (λ o.
    on (less 0 k)
    (λ some. inl (omega arith))
    (λ none.
    let z : k ≡ 0 = omega arith in
    on (less 0 (length m.lines))
    (λ some. inr (inl (let l = length-append m.lines rest.lines in omega arith)))
    (λ blank.
    let fewer = turn-less f last room s b in
    moved-first f s m rest
    (rw z
    (moves n m.fed s last (room - length m.lines) (let e = ap (turns_left m.fed) (let y : length s - k ≡ length s = omega arith in y) in omega arith) (turn-bounded f last room s q) (omega arith) (more m.fed o) more))))))

pub goes_on_lem : (f : Fed) (s : List ℕ) (last : Bool) (room : ℕ) → Bounded f → step_bytes ≤ room → f.over ≡ false → ((0 < length s) ⊎ (last ≡ true)) → Moved (print f s last room)
goes_on_lem f s last room q r o some = moves (turns_left f (length s)) f s last room (omega arith) q r (busy-more f s last o some) (λ g e. busy-more g s last e some)

-- where all that is still to be printed fits, and the piece is the last, all of it is printed
prints-all : (n : ℕ) (f : Fed) (s : List ℕ) (room : ℕ) → turns_left f (length s) ≤ n → length (remaining f s) ≤ room → (print f s true room).fed.over ≡ true
prints-all zero f s room h fit =
    let b = spent_idle f s true h in
    ap (λ (p : Print). p.fed.over) (print-idle f s true room b) ∙ idle-over f true room s refl b
prints-all (suc n) f s room h fit =
    on (tested (busy f s true))
    (λ b.
    let m = turn_move f s true room in
    let t = drop (taken_bytes f s) s in
    let all = ap length (turn-left f [] true (λ e. refl) s room) in
    let long = length-append m.lines (remaining m.fed (t ++ [])) in
    let e = ap (λ (x : List ℕ). length (remaining f x)) (append-nil s) in
    let e' = ap (λ (x : List ℕ). length (remaining m.fed x)) (append-nil t) in
    let fewer : turns_left m.fed (length t) < turns_left f (length s) = rw (left-long f s) (turn-less f true room s b) in
    ap (λ (p : Print). p.fed.over) (print-first f s true room (omega arith))
    ∙ prints-all n m.fed t (room - length m.lines) (omega arith) (omega arith))
    (λ b. ap (λ (p : Print). p.fed.over) (print-idle f s true room b) ∙ idle-over f true room s refl b)

pub one-call : (f : Fed) (s : List ℕ) (room : ℕ) → length (remaining f s) ≤ room → (print f s true room).fed.over ≡ true
one-call f s room fit = prints-all (turns_left f (length s)) f s room (omega arith) fit
