use mathlib.Core.Path.{sym, subst, ◌∙◌}
use mathlib.Core.List.{List}
use Rattle.lists.proofs.Cases.{length_mapped}
use Rattle.server.specs.declared.Server.{Server}
use Rattle.places.proofs.Canonical.{packs_keeps}
use Rattle.frame.specs.Answers.{state_of}
use Rattle.frame.specs.Steps.{SenderList, Still, Lists, Runs}
use borrow.Author.Rules.{rules}
use Rattle.frame.proofs.turn_all.Goals as goal

pub turned-t-requires : goal.turned-t-requires
turned-t-requires c =
    let a = c.args in
    let p = c.requires in
    let r : SenderList = record { places = a.listed.now; ranks = a.ranks.now; sendings = a.sendings.now; count = a.count } in
    let e = sym c.servers_of-servers.ensures in
    (p.0, (subst (Still a.n) e p.1.0, (p.1.1.0, subst (λ (l : List Server). Lists l r) e p.1.1.1)))

pub returns : goal.returns
returns c =
    let a = c.args in
    let t = c.turned-t in
    let runs = subst (λ (l : List Server). Runs a.wet (state_of a.before a.period l a.whole.now) a.out.now a.at (record { servers = t.result.servers; at = t.result.at }) t.new.out) c.servers_of-servers.ensures t.ensures in
    let p = c.words_of.ensures in
    (packs_keeps (search rules) (search (rules, length_mapped)) p, record { servers = p.servers ∙ runs.servers; out = runs.out })
