use mathlib.Core.Path.{sym, ◌∙◌}
use Rattle.dayjudge.proofs.Turning.{turns-day, turns-sheet}
use Rattle.dayjudge.proofs.turn.Goals as goal

-- the day is asked for
pub returns-then-asks : goal.returns-then-asks
returns-then-asks c =
    let args = c.args in
    turns-day (sym (c.asks.ensures args.line.now args.words.now args.whole.now) ∙ c.if-asks.true) c.take_day-given.ensures

pub returns : goal.returns
returns c =
    let args = c.args in
    turns-sheet args.line.now args.words.now args.whole.now
    (sym (c.asks.ensures args.line.now args.words.now args.whole.now) ∙ c.if-asks.false)
    c.take_sheet-given.ensures
