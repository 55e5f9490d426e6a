use mathlib.Core.Path.{sym, ◌∙◌}
use native.Mathlib.Omega.{arith}
use Rattle.bench.proofs.Listing.{few, list_turn}
use Rattle.bench.proofs.table_of.Goals as goal

pub loop-server-preserved : goal.loop-server-preserved
loop-server-preserved c =
    let v = c.loop-server.invariant in
    let s = c.in-Some.ensures.steps in
    (s.0 ∙ v.0, list_turn c.loop-server.table c.in-Some.server.now c.next.new.self.rest.now s.1.0 (s.1.1 ∙ v.0) c.add.ensures.table ∙ v.1)

pub returns : goal.returns
returns c =
    let v = c.loop-server.invariant in
    let s = c.in-None.ensures.steps in
    sym (few c.loop-server.table c.loop-server.server-iterator.rest.now (omega (arith, s.1.0, v.0))) ∙ v.1
