use mathlib.Core.Path.{◌∙◌, sym}
use native.Mathlib.Omega.{arith}
use Rattle.refusal.specs.declared.Refusal.TheVariants.{Number, Servers, Period}
use Rattle.group.proofs.Opening.{opens_not, no_table, nobody, too_many, enough, opens}
use Rattle.group.proofs.open_with.Goals as goal

pub returns-then-not-is_table : goal.returns-then-not-is_table
returns-then-not-is_table c =
    let a = c.args in
    opens_not a.table _ Number (no_table a.table _ (sym c.is_table.ensures ∙ c.if-not-is_table.true)) c.unopened.ensures

pub returns-then-n-eq0 : goal.returns-then-n-eq0
returns-then-n-eq0 c =
    let a = c.args in
    let p = c.requires in
    let made = sym c.is_table.ensures ∙ c.if-not-is_table.false in
    opens_not a.table _ Servers (nobody a.table _ p.0 p.1 made (sym c.count-n.ensures ∙ c.if-n-eq0.true)) c.unopened-then-n-eq0.ensures

pub returns-then-beat_limit-n : goal.returns-then-beat_limit-n
returns-then-beat_limit-n c =
    let a = c.args in
    let p = c.requires in
    let made = sym c.is_table.ensures ∙ c.if-not-is_table.false in
    let n = c.count-n.ensures in
    opens_not a.table _ Period
    (too_many a.table _ p.0 p.1 made (λ z. c.if-n-eq0.false (n ∙ z)) (omega (arith, n, c.beat_limit.ensures, c.if-beat_limit-n.true)))
    c.unopened-then-beat_limit-n.ensures

pub returns : goal.returns
returns c =
    let a = c.args in
    let p = c.requires in
    let made = sym c.is_table.ensures ∙ c.if-not-is_table.false in
    let n = c.count-n.ensures in
    opens a.table _
    (enough a.table _ p.0 p.1 made (λ z. c.if-n-eq0.false (n ∙ z)) (omega (arith, n, c.beat_limit.ensures, c.if-beat_limit-n.false)))
    c.open-state.ensures
