use mathlib.Core.Path.{refl, sym, ◌∙◌}
use Rattle.places.specs.Words.{servers_of}
use Rattle.frame.specs.Answers.{state_of}
use Rattle.places.proofs.Words.{long_of}
use Rattle.frame.proofs.Listing.{lists_all}
use Rattle.frame.proofs.Lookup.{inbox-same, unheard}
use Rattle.frame.proofs.Unheard.{unheard_run}
use Rattle.frame.proofs.heard_frame.Goals as goal

pub list_senders-count-requires : goal.list_senders-count-requires
list_senders-count-requires c = (c.requires.1, (refl, refl))

pub hearers-heard-requires : goal.hearers-heard-requires
hearers-heard-requires c = c.list_senders-count.ensures.listed

pub unheard_frame-requires : goal.unheard_frame-requires
unheard_frame-requires c = c.requires

pub returns-then-nobody_hears : goal.returns-then-nobody_hears
returns-then-nobody_hears c =
    let a = c.args in
    let ch = state_of a.before a.period (servers_of a.words.now) a.whole.now in
    let v = lists_all c.ranks_of-ranks.ensures c.list_senders-count.ensures in
    let h = c.hearers-heard.ensures in
    let d = c.nobody_hears.ensures c.if-nobody_hears.true in
    let p = c.unheard_frame.ensures in
    (p.0, unheard_run ch (long_of a.words.now) (λ j g. sym (inbox-same ch _ v j) ∙ unheard _ a.whole.now j v.numbers.listed (h.none j g (d.none j g))) p.1)

pub turn_all-requires : goal.turn_all-requires
turn_all-requires c =
    let p = c.requires in
    (p.0, (p.1, (c.hearers-heard.ensures, lists_all c.ranks_of-ranks.ensures c.list_senders-count.ensures)))

pub returns : goal.returns
returns c = c.turn_all.ensures
