use Rattle.std.specs.Prelude.{Some, None}
use mathlib.Core.Path.{refl, sym, ◌∙◌}
use native.Mathlib.Omega.{arith}
use Rattle.printer.proofs.Told.{not-to}
use Rattle.printer.proofs.Leaving.{leaving_begins, leaving_turn}
use Rattle.printer.proofs.Running.{told-begins, run_begins, used-within, place-within, run_turn, run_less, told-turn, holds_in, ends_idle, ends_later, ends_short}
use Rattle.printer.proofs.run.Goals as goal

pub loop-n-init : goal.loop-n-init
loop-n-init c = (run_begins _ _ _ _ _, told-begins _ _ _ _, leaving_begins _)

pub overflow_add-used : goal.overflow_add-used
overflow_add-used c = omega (arith, c.well_formed.1.1.1.1.0.0, used-within c.loop-n.invariant.0 c.turn-turned.ensures.turns)

pub overflow_add-at : goal.overflow_add-at
overflow_add-at c = let n = c.in-Ok-Some in omega (arith, c.well_formed.1.1.1.1.1.1.0.0, place-within c.loop-n.invariant.0 c.turn-turned.ensures.turns (holds_in {o = Some n.n} n.is (rw n.is at n.field-0-is)))

pub returns-in-Err : goal.returns-in-Err
returns-in-Err c =
    let v = c.loop-n.invariant in
    let t = c.turn-turned.ensures in
    let e = ends_short v.0 t.turns refl t.line v.1 {x = c.turn-turned.result.feed} c.in-Err.is c.if-first.true in
    record { runs = e.0; leaves = (leaving_turn v.2 t).leaves; line = e.1; same = λ n z. t.same _ c.in-Err.is ∙ v.2.fresh c.if-first.true }

pub returns-in-Ok-None : goal.returns-in-Ok-None
returns-in-Ok-None c =
    let v = c.loop-n.invariant in
    let t = c.turn-turned.ensures in
    let n = c.in-Ok-None in
    let e = ends_idle v.0 t.turns refl t.line v.1 {x = c.turn-turned.result.feed} (holds_in {o = None} n.is (rw n.is at n.field-0-is)) in
    record { runs = e.0; leaves = (leaving_turn v.2 t).leaves; line = e.1; same = λ n z. not-to (sym z) }

pub returns-in-Err-2 : goal.returns-in-Err-2
returns-in-Err-2 c =
    let v = c.loop-n.invariant in
    let t = c.turn-turned.ensures in
    let e = ends_later v.0 t.turns refl t.line v.1 {x = c.turn-turned.result.feed} c.in-Err.is c.if-first.false in
    record { runs = e.0; leaves = (leaving_turn v.2 t).leaves; line = e.1; same = λ n z. not-to (sym z) }

pub loop-n-smaller : goal.loop-n-smaller
loop-n-smaller c = let n = c.in-Ok-Some in run_less c.loop-n.invariant.0 c.turn-turned.ensures.turns (holds_in {o = Some n.n} n.is (rw n.is at n.field-0-is))

pub loop-n-preserved : goal.loop-n-preserved
loop-n-preserved c =
    let v = c.loop-n.invariant in
    let t = c.turn-turned.ensures in
    let n = c.in-Ok-Some in
    let y = holds_in {o = Some n.n} n.is (rw n.is at n.field-0-is) in
    (run_turn v.0 t.turns refl t.line y, told-turn v.0 t.turns v.1 y, leaving_turn v.2 t)
