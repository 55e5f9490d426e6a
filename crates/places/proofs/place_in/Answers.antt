use mathlib.Core.Path.{◌≡◌, ◌∙◌, sym, ap}
use native.Mathlib.Omega.{arith}
use Rattle.lists.proofs.FindLoop as search-loop
use Rattle.server.specs.Server.{absent}
use Rattle.group.specs.Table.{named, place_in}
use Rattle.places.proofs.Words.{long_of}
use Rattle.places.proofs.place_in.Goals as goal

pub loop-i-init : goal.loop-i-init
loop-i-init c = search-loop.begin (long_of _)

pub returns-then-named : goal.returns-then-named
unfolding place_in
returns-then-named c = search-loop.hit absent c.loop-i.invariant (omega arith) (ap (named c.args.identity) (sym c.server_at-s.ensures) ∙ sym c.named.ensures ∙ c.if-named.true)

pub loop-i-preserved : goal.loop-i-preserved
loop-i-preserved c = search-loop.miss absent c.loop-i.invariant (omega arith) (ap (named c.args.identity) (sym c.server_at-s.ensures) ∙ sym c.named.ensures ∙ c.if-named.false)

pub returns : goal.returns
unfolding place_in
returns c = let e : 16 ≡ c.loop-i.i = omega arith in e ∙ search-loop.none c.loop-i.invariant (omega arith)
