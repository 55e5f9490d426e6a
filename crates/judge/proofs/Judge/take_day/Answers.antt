use mathlib.Core.Path.{refl, sym, ◌∙◌}
use Rattle.judge.proofs.Holding.{sated-by}
use Rattle.judge.proofs.Giving.{day-waits, day-goes}
use Rattle.judge.proofs.Judge.take_day.Goals as goal

-- the day waits
pub returns-then-closed-held : goal.returns-then-closed-held
returns-then-closed-held c =
    let args = c.args in
    day-waits args.self args.line.now args.words.now args.whole.now args.due.now args.piece.now args.last
    c.all-2-1.given
    (sym (sated-by args.self args.due.now refl c.closed.ensures c.held.ensures) ∙ c.if-closed-held.true)

pub returns : goal.returns
returns c =
    let args = c.args in
    day-goes args.self args.line.now args.words.now args.whole.now args.due.now args.piece.now args.last c.print-printed.result _ _ _ _
    c.all-2-1.given
    (sym (sated-by args.self args.due.now refl c.closed.ensures c.held.ensures) ∙ c.if-closed-held.false)
    c.print-printed.ensures
    c.bytes.ensures
