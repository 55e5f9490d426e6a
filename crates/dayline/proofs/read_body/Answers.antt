use mathlib.Core.Path.{sym, ◌∙◌}
use Rattle.dayline.proofs.Body.{period-body, server-body, end_body, entry-body}
use Rattle.dayline.proofs.read_body.Goals as goal

pub returns-then-same : goal.returns-then-same
returns-then-same c =
    c.counted.ensures
    ∙ period-body _ c.field_count-count.ensures c.field_to-first.ensures c.field_from-rest.ensures
    (sym c.same.ensures ∙ c.if-same.true)
    c.read_period.ensures

pub returns-then-same-2 : goal.returns-then-same-2
returns-then-same-2 c =
    c.counted-then-same-2.ensures
    ∙ server-body _ c.field_count-count.ensures c.field_to-first.ensures c.field_from-rest.ensures
    (sym c.same.ensures ∙ c.if-same.false)
    (sym c.same-2.ensures ∙ c.if-same-2.true)
    c.read_server.ensures

pub returns-then-same-3 : goal.returns-then-same-3
returns-then-same-3 c =
    c.counted-then-same-3.ensures
    ∙ end_body _ c.field_count-count.ensures c.field_to-first.ensures c.field_from-rest.ensures
    (sym c.same.ensures ∙ c.if-same.false)
    (sym c.same-2.ensures ∙ c.if-same-2.false)
    (sym c.same-3.ensures ∙ c.if-same-3.true)
    c.read_end.ensures

pub returns : goal.returns
returns c =
    c.from_verb.ensures
    ∙ entry-body _ c.field_count-count.ensures c.field_to-first.ensures c.field_from-rest.ensures
    (sym c.same.ensures ∙ c.if-same.false)
    (sym c.same-2.ensures ∙ c.if-same-2.false)
    (sym c.same-3.ensures ∙ c.if-same-3.false)
