use mathlib.Core.Bool.{false, ◌&&◌}
use mathlib.Core.Path.{◌≡◌, ◌∙◌, sym}
use lib.ListN.{get_or}
use Rattle.server.specs.Server.{cleared}
use Rattle.lists.proofs.Cases.{on, or_false}
use Rattle.frame.specs.Answers.{ticks_in}
use Rattle.frame.specs.Steps.{SenderList, inbox_by}
use Rattle.frame.proofs.Hearings.{idle-turn}
use Rattle.frame.proofs.Heeding.{and_false, Silent, silent-nothing, aside_still}
use Rattle.frame.proofs.Still.{still-heard}
use Rattle.frame.proofs.Lookup.{unheard}
use Rattle.frame.proofs.turn_of.Goals as goal

pub act-requires : goal.act-requires
act-requires c = c.requires.1

pub returns-then-heard-j : goal.returns-then-heard-j
returns-then-heard-j c = c.act.ensures

pub returns-else-heard-j : goal.returns-else-heard-j
returns-else-heard-j c =
    let a = c.args in
    let p = c.requires in
    let e = or_false (get_or a.heard.now a.j false && c.is_active.result) c.ticks.result c.if-heard-j.false in
    let quiet : ticks_in a.s.role a.frame a.period a.s ≡ false = sym c.ticks.ensures ∙ e.1 in
    let r : SenderList = record { places = a.listed.now; ranks = a.ranks.now; sendings = a.sendings.now; count = a.count } in
    let silent : Silent a.frame (cleared a.s) (inbox_by r a.whole.now a.j) (cleared a.s) =
    on (and_false (get_or a.heard.now a.j false) c.is_active.result e.0)
    (λ h. silent-nothing (unheard r a.whole.now a.j p.1.1.listed (p.0.none a.j p.1.0 h)))
    (λ h. let x = still-heard (cleared a.s) (aside_still a.s (sym c.is_active.ensures ∙ h)) a.frame (inbox_by r a.whole.now a.j) in record { server = x.0; lines = x.1 }) in
    rw c.cleared-next.ensures (idle-turn a.frame a.period a.s silent.server silent.lines quiet)
