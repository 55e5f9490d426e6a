use mathlib.Core.Bool.{true}
use mathlib.Core.Path.{sym, ◌∙◌}
use native.Mathlib.Omega.{arith}
use lib.ListN.{replicate}
use Rattle.lists.proofs.Cases.{not_so, not_some}
use Rattle.dayjudge.proofs.Turning.{rests-begin, day-within, sheet-within, rests-turn, rests-less, rests-end}
use Rattle.dayjudge.proofs.departure.Goals as goal

pub loop-due-init : goal.loop-due-init
loop-due-init c = rests-begin (replicate 65 0) (replicate 80 0) (replicate 256 true) c.begin-judge.ensures

pub slice_bounds-turn-count : goal.slice_bounds-turn-count
slice_bounds-turn-count c = let w = c.loop-due.invariant.day in omega arith

pub slice_bounds-turn-start : goal.slice_bounds-turn-start
slice_bounds-turn-start c = let w = c.loop-due.invariant.day in omega arith

pub slice_bounds-turn-count-in-loop-due : goal.slice_bounds-turn-count-in-loop-due
slice_bounds-turn-count-in-loop-due c = let w = c.loop-due.invariant.sheet in omega arith

pub slice_bounds-turn-start-in-loop-due : goal.slice_bounds-turn-start-in-loop-due
slice_bounds-turn-start-in-loop-due c = let w = c.loop-due.invariant.sheet in omega arith

pub overflow_add-i : goal.overflow_add-i
overflow_add-i c =
    let at-loop = c.loop-due in
    let args = c.args in
    let w = day-within args.day.now args.sheet.now at-loop.judge at-loop.line at-loop.words at-loop.whole at-loop.due at-loop.i at-loop.j c.turn-turned.result _ _ _ _ c.turn-turned.ensures at-loop.invariant in
    omega (arith, w, c.well_formed.0.0)

pub overflow_add-j : goal.overflow_add-j
overflow_add-j c =
    let at-loop = c.loop-due in
    let args = c.args in
    let w = sheet-within args.day.now args.sheet.now at-loop.judge at-loop.line at-loop.words at-loop.whole at-loop.due at-loop.i at-loop.j c.turn-turned.result _ _ _ _ c.turn-turned.ensures at-loop.invariant in
    omega (arith, w, c.well_formed.1.0.0)

pub loop-due-smaller : goal.loop-due-smaller
loop-due-smaller c =
    let at-loop = c.loop-due in
    let args = c.args in
    rests-less args.day.now args.sheet.now at-loop.judge at-loop.line at-loop.words at-loop.whole at-loop.due at-loop.i at-loop.j c.turn-turned.result _ _ _ _
    c.turn-turned.ensures at-loop.invariant
    (not_so _ (sym c.is_open.ensures ∙ c.loop-due-test.true))

pub loop-due-preserved : goal.loop-due-preserved
loop-due-preserved c =
    let at-loop = c.loop-due in
    let args = c.args in
    rests-turn args.day.now args.sheet.now at-loop.judge at-loop.line at-loop.words at-loop.whole at-loop.due at-loop.i at-loop.j c.turn-turned.result _ _ _ _
    c.turn-turned.ensures at-loop.invariant

pub returns : goal.returns
returns c =
    rests-end c.begin-judge.ensures.laws.judges c.loop-due.invariant (not_some _ (sym c.is_open.ensures ∙ c.loop-due-test.false)) c.judgement.ensures c.unwrap_or.ensures
