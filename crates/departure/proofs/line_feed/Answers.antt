use mathlib.Core.Path.{sym}
use Rattle.departure.proofs.Lines.{end_line_lem, end_none}
use Rattle.departure.proofs.line_feed.Goals as goal

pub returns-then-x-eq10 : goal.returns-then-x-eq10
returns-then-x-eq10 c = sym (end_line_lem _ c.if-x-eq10.true)

pub returns : goal.returns
returns c = sym (end_none _ c.if-x-eq10.false)
