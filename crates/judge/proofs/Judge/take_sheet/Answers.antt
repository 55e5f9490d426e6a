use mathlib.Core.Path.{sym, ◌∙◌}
use native.Mathlib.Omega.{arith}
use lib.ListN.{length}
use Rattle.judge.proofs.Holding.{in_order}
use Rattle.judge.proofs.Giving.{sheet-waits, sheet-goes, found-asks}
use Rattle.judge.proofs.Judge.take_sheet.Goals as goal

pub returns-then-closed : goal.returns-then-closed
returns-then-closed c =
    let args = c.args in
    sheet-waits args.self args.due.now args.piece.now args.last (sym c.closed.ensures ∙ c.if-closed.true)

pub slice_bounds-compare-count : goal.slice_bounds-compare-count
slice_bounds-compare-count c =
    let args = c.args in
    let o = (in_order args.self (length args.due.now)).0 in
    let a = c.start-start.ensures in
    let b = c.end-end.ensures in
    omega arith

pub slice_bounds-compare-start : goal.slice_bounds-compare-start
slice_bounds-compare-start c =
    let args = c.args in
    let o = (in_order args.self (length args.due.now)).0 in
    let a = c.start-start.ensures in
    let b = c.end-end.ensures in
    omega arith

pub slice_bounds-compare-end : goal.slice_bounds-compare-end
slice_bounds-compare-end c = let args = c.args in let o = (in_order args.self (length args.due.now)).1 in let b = c.end-end.ensures in omega arith

pub overflow_sub-end : goal.overflow_sub-end
overflow_sub-end c = let args = c.args in let o = (in_order args.self (length args.due.now)).0 in let a = c.start-start.ensures in let b = c.end-end.ensures in omega arith

pub with_found-requires : goal.with_found-requires
with_found-requires c =
    let args = c.args in
    found-asks args.self args.due.now args.piece.now args.last (sym c.closed.ensures ∙ c.if-closed.false)
    c.all-1.given
    c.start-start.ensures
    c.end-end.ensures
    c.compare-compared.ensures.answer

pub returns : goal.returns
returns c =
    let args = c.args in
    sheet-goes args.self args.due.now args.piece.now args.last (sym c.closed.ensures ∙ c.if-closed.false)
    c.start-start.ensures
    c.end-end.ensures
    c.compare-compared.ensures.answer
    c.with_found.ensures
