use Rattle.std.proofs.Common.{rules}
use Rattle.accept.specs.Steps.{Holds}
use Rattle.accept.proofs.Taking.{sheet-within, fits, rest}
use Rattle.accept.proofs.Run.give_sheet.Goals as goal

pub without-requires : goal.without-requires
without-requires g c = let h : Holds c.filled.new.buffer c.in_ok-sheet.sheet = search rules in fits h (sheet-within c.take_sheet-given.ensures)

pub returns : goal.returns
returns g c r e =
    let h : Holds c.filled.new.buffer c.in_ok-sheet.sheet = search rules in
    let k : Holds c.filled.new.buffer c.without.result = rest h (sheet-within c.take_sheet-given.ensures) c.without.ensures in
    search (rules, k, e)
