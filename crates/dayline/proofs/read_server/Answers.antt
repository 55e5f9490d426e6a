use Rattle.std.proofs.lemmas.Result.{err_from_is_err_and}
use mathlib.Core.Path.{ap, ◌∙◌}
use mathlib.Core.List.{[], ◌∷◌}
use native.Mathlib.Omega.{arith}
use Rattle.refusal.specs.Answer.{Answer, in_turn}
use Rattle.text.specs.Line.{field}
use Rattle.text.proofs.Reading.{number-within}
use Rattle.heartbeat.specs.Rank.{read_identity, read_priority}
use Rattle.heartbeat.proofs.Fields.{next_field, took-last, stops-last}
use Rattle.dayline.specs.Steps.{server_of}
use Rattle.dayline.proofs.Good.{good, bad, bad-first}
use Rattle.dayline.proofs.read_server.Goals as goal

pub overflow_cast-result : goal.overflow_cast-result
overflow_cast-result c = omega (arith, (number-within 1 65535 _ _ c.in_ok-identity.ensures).1)

pub overflow_cast-result-2 : goal.overflow_cast-result-2
overflow_cast-result-2 c = omega (arith, (number-within 0 255 _ _ c.in_ok-priority.ensures).1)

pub returns-in_err-identity : goal.returns-in_err-identity
returns-in_err-identity c =
    let p = err_from_is_err_and c.from_residual.result c.from_residual.ensures.1 in
    rw (p.1, p.2) (bad-first server_of _ _ (c.in_err-identity.ensures ∙ ap read_identity c.first_field.ensures))

pub returns-in_err-priority : goal.returns-in_err-priority
returns-in_err-priority c =
    let s = c.args.s.now in
    let p = err_from_is_err_and c.from_residual-in_err-priority.result c.from_residual-in_err-priority.ensures.1 in
    rw (p.1, p.2)
    (bad server_of _
    (stops-last (c.in_ok-identity.identity ∷ []) _
    (c.in_err-priority.ensures ∙ ap read_priority (c.first_field-2.ensures ∙ next_field s 0 c.after_field-rest.ensures))
    ∙ ap (λ (a : Answer). in_turn a (read_priority (field s 1))) (c.in_ok-identity.ensures ∙ ap read_identity c.first_field.ensures)))

pub returns : goal.returns
returns c =
    let s = c.args.s.now in
    good server_of
    (took-last (c.in_ok-identity.identity ∷ [])
    (c.in_ok-priority.ensures ∙ ap read_priority (c.first_field-2.ensures ∙ next_field s 0 c.after_field-rest.ensures))
    ∙ ap (λ (a : Answer). in_turn a (read_priority (field s 1))) (c.in_ok-identity.ensures ∙ ap read_identity c.first_field.ensures))
