-- A piece of the day is taken as far as it goes: where nothing is printed of it, nothing more could
-- be. Assumes nothing.
use mathlib.Core.Bool.{Bool, true, false, not, ◌&&◌, ◌||◌}
use mathlib.Core.Path.{◌≡◌, refl, sym, ap, subst, ◌∙◌}
use mathlib.Core.List.{List, [], ◌∷◌, ◌++◌}
use Prim.Native.Nat.{ℕ, zero, suc, ◌+◌, ◌-◌, ◌≤◌, ◌<◌}
use native.Mathlib.Omega.{arith}
use lib.ListN.{length, drop, length-append, length-drop}
use lib.Seq.{drop-drop}
use Rattle.lists.proofs.Cases.{tested, on}
use Rattle.feeding.specs.Fed.{Fed, taken_bytes}
use Rattle.feeding.specs.Bound.{step_bytes, Bounded}
use Rattle.printer.specs.Print.{Print, turn_move, turns_left, first, print}
use Rattle.printer.specs.Steps.{busy}
use Rattle.printer.proofs.Turning.{turn-bounded, turn-fits, turn-less}
use Rattle.printer.proofs.Printing.{print-first, print-idle}

-- nothing was printed, and nothing is to be done
abbrev Idle : List ℕ → Bool → Print → Type 0
Idle s last p = length p.lines ≡ 0 → busy p.fed (drop p.used s) last ≡ false

at_rest : (f : Fed) (s : List ℕ) (last : Bool) (room : ℕ) → busy f s last ≡ false → Idle s last (print f s last room)
at_rest f s last room b = subst (Idle s last) (sym (print-idle f s last room b)) (λ z. b)

runs-out : (n : ℕ) (f : Fed) (s : List ℕ) (last : Bool) (room : ℕ) → turns_left f (length s) ≤ n → Bounded f → step_bytes ≤ room → Idle s last (print f s last room)
runs-out zero f s last room h q r =
    on (tested (busy f s last)) (λ b. absurd (let l = turn-less f last room s b in omega arith)) (λ b. at_rest f s last room b)
runs-out (suc n) f s last room h q r =
    on (tested (busy f s last))
    (λ b.
    let m = turn_move f s last room in
    let k = taken_bytes f s in
    let rest = print m.fed (drop k s) last (room - length m.lines) in
    subst (Idle s last) (sym (print-first f s last room (turn-fits f last room s q r)))
    (λ z.
    let all = length-append m.lines rest.lines in
    let none : length m.lines ≡ 0 = omega arith in
    let fewer = turn-less f last room s b in
    let fewer' = ap (turns_left m.fed) (length-drop k s) in
    ap (λ (x : List ℕ). busy rest.fed x last) (sym (drop-drop rest.used k s))
    ∙ runs-out n m.fed (drop k s) last (room - length m.lines) (omega arith) (turn-bounded f last room s q) (omega arith) (omega arith)))
    (λ b. at_rest f s last room b)

pub idle-after : (f : Fed) (s : List ℕ) (last : Bool) (room : ℕ) → Bounded f → step_bytes ≤ room → Idle s last (print f s last room)
idle-after f s last room q r = runs-out (turns_left f (length s)) f s last room (omega arith) q r
