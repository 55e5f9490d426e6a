use Rattle.std.proofs.Common.{sym, length-take-le}
use Rattle.text.proofs.Writing.{first_piece}
use Rattle.vectors.proofs.Comparing.{within, sheet-there, no_room}
use Rattle.vectors.proofs.compare_sheet.Goals as goal

pub slice_bounds-compare-end : goal.slice_bounds-compare-end
slice_bounds-compare-end c = within (first_piece c.sheet.ensures) _ c.in-Ok.is

pub slice_bounds-compare-end-in-Ok : goal.slice_bounds-compare-end-in-Ok
slice_bounds-compare-end-in-Ok c = sym (length-take-le _ _ (within (first_piece c.sheet.ensures) _ c.in-Ok.is))

pub returns-in-Ok : goal.returns-in-Ok
returns-in-Ok c = sheet-there _ (first_piece c.sheet.ensures) _ _ _ _ c.in-Ok.is c.compare.ensures

pub returns-in-Err : goal.returns-in-Err
returns-in-Err c = no_room _ (first_piece c.sheet.ensures) _ _ _ _ c.in-Err.is
