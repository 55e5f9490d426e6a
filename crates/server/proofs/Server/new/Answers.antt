use mathlib.Core.Path.{sym, ◌∙◌}
use borrow.Author.Tests.{eq-eqb, ne_eqb}
use Rattle.lists.proofs.Cases.{chosen, other}
use Rattle.server.proofs.Server.new.Goals as goal

pub returns-then-identity-eq0 : goal.returns-then-identity-eq0
returns-then-identity-eq0 c =
    let e = eq-eqb _ _ c.if-identity-eq0.true in
    record { number = sym (chosen _ e); server = c.absent-server.ensures ∙ sym (chosen _ e) }

pub returns-else-identity-eq0 : goal.returns-else-identity-eq0
returns-else-identity-eq0 c =
    let e = ne_eqb _ _ c.if-identity-eq0.false in
    record { number = sym (other _ e); server = c.idle-server.ensures ∙ sym (other _ e) }
