use Rattle.std.proofs.Common.{sym, length-take-le}
use Rattle.vectors.proofs.Numbers.{head_in, body_in, tail_in, head-fits, body-fits, tail_fits}
use Rattle.vectors.proofs.Comparing.{within, built, day-there, no_day}
use Rattle.vectors.proofs.one.Goals as goal

pub overflow_add-body : goal.overflow_add-body
overflow_add-body c = head-fits c.args.line c.requires

pub overflow_add-tail : goal.overflow_add-tail
overflow_add-tail c = body-fits c.args.line c.requires

pub overflow_add-shown : goal.overflow_add-shown
overflow_add-shown c = tail_fits c.args.line c.requires

pub part-requires : goal.part-requires
part-requires c = head_in c.args.line c.requires

pub part-requires-2 : goal.part-requires-2
part-requires-2 c = body_in c.args.line c.requires

pub part-requires-3 : goal.part-requires-3
part-requires-3 c = tail_in c.args.line c.requires

pub slice_bounds-compare_sheet-end : goal.slice_bounds-compare_sheet-end
slice_bounds-compare_sheet-end c = within c.build-built.ensures _ c.in-Ok.is

pub slice_bounds-compare_sheet-end-in-Ok : goal.slice_bounds-compare_sheet-end-in-Ok
slice_bounds-compare_sheet-end-in-Ok c = sym (length-take-le _ _ (within c.build-built.ensures _ c.in-Ok.is))

pub returns-in-Ok : goal.returns-in-Ok
returns-in-Ok c =
    let a = c.args in
    let v = built a.file.now a.line c.part.ensures c.part-2.ensures c.part-3.ensures c.build-built.ensures in
    day-there a.file.now a.line v _ _ c.in-Ok.is c.part-in-Ok.ensures c.compare_sheet.ensures

pub returns-in-Err : goal.returns-in-Err
returns-in-Err c =
    let a = c.args in
    let v = built a.file.now a.line c.part.ensures c.part-2.ensures c.part-3.ensures c.build-built.ensures in
    no_day a.file.now a.line v _ _ c.in-Err.is
