use mathlib.Core.Bool.{true, false}
use mathlib.Core.Path.{◌≡◌, sym, ap, ◌∙◌}
use Prim.Native.Nat.{◌+◌}
use native.Mathlib.Omega.{arith}
use borrow.Author.Tests.{lt-ltb, le-ltb}
use Rattle.lists.proofs.Cases.{chosen, other}
use Rattle.timecode.specs.Label.{day_length}
use Rattle.server.specs.declared.Server.{Server}
use Rattle.server.specs.Server.{cleared}
use Rattle.front.specs.declared.Front.{Front}
use Rattle.front.specs.Front.{with_server, goes_on}
use Rattle.front.proofs.Front.begun.Goals as goal

pub returns-then-self : goal.returns-then-self
returns-then-self c =
    let f = c.args.self in
    let on : goes_on f ≡ true = lt-ltb (f.frame + 1) day_length (omega (arith, c.if-self.true)) in
    let next : c.with_server-front.result ≡ with_server (cleared f.server) f = c.with_server-front.ensures ∙ ap (λ (s : Server). with_server s f) c.cleared-cleared.ensures in
    record { number = sym (chosen _ on); front = ap (λ (g : Front). record { server = g.server; frame = f.frame + 1; period = g.period }) next ∙ sym (chosen _ on) }

pub returns-else-self : goal.returns-else-self
returns-else-self c =
    let f = c.args.self in
    let over : goes_on f ≡ false = le-ltb (f.frame + 1) day_length (omega (arith, c.if-self.false)) in
    record { number = sym (other _ over); front = sym (other _ over) }
