use mathlib.Core.Path.{sym, ap, ◌∙◌}
use lib.ListN.{set}
use Rattle.places.specs.Words.{servers_of}
use Rattle.places.proofs.Canonical.{keeps-all, becomes-keeps}
use Rattle.frame.proofs.Frames.{does_as, ticks-none}
use Rattle.frame.proofs.tick_at.Goals as goal

pub run_due-t-requires : goal.run_due-t-requires
run_due-t-requires c = sym c.ticks.ensures ∙ c.if-ticks.true

pub returns-then-ticks : goal.returns-then-ticks
returns-then-ticks c =
    let a = c.args in
    let p = c.put.ensures.words in
    let q = does_as a.frame a.period c.server-s.ensures c.run_due-t.ensures in
    (becomes-keeps p, record { servers = p.servers ∙ ap (set (servers_of a.words.now) a.j) q.server; out = q.out })

pub returns-else-ticks : goal.returns-else-ticks
returns-else-ticks c =
    let a = c.args in
    (keeps-all, ticks-none a.frame a.period (servers_of a.words.now) a.j c.server-s.ensures (sym c.ticks.ensures ∙ c.if-ticks.false))
