use Rattle.std.proofs.lemmas.Result.{err_from_is_err_and}
use mathlib.Core.Path.{sym, ◌∙◌}
use native.Mathlib.Omega.{arith}
use Rattle.refusal.proofs.Answers.{number-some}
use Rattle.verbs.proofs.Acting.{judged_not, says_state, verb_refused, verb_decided, verb_short, does_as, tells_as}
use Rattle.verbs.proofs.decide.Goals as goal

pub returns-in_err-judge : goal.returns-in_err-judge
returns-in_err-judge c ch t p q s w =
    let a = c.args in
    let k = c.in_err-judge.field-0.0 in
    let e = err_from_is_err_and c.from_residual.result c.from_residual.ensures.1 in
    rw (e.1, e.2) (verb_refused ch a.verb a.a a.b p q (judged_not ch a.verb a.a a.b p q c.in_err-judge.ensures (number-some k)))

pub returns-in_err-deed : goal.returns-in_err-deed
returns-in_err-deed c ch t p q s w =
    let a = c.args in
    let r = c.from_residual-in_err-deed in
    let e = err_from_is_err_and r.result r.ensures.1 in
    let d = does_as t s w c.attempt.ensures in
    rw (e.1, e.2)
    (verb_refused ch a.verb a.a a.b p q (says_state ch a.verb a.a a.b p q c.in_ok-judge.ensures ∙ d.refused _ c.in_err-deed.was))

pub returns-in_err-written : goal.returns-in_err-written
returns-in_err-written c ch t p q s w =
    let a = c.args in
    let r = c.from_residual-in_err-written in
    let e = err_from_is_err_and r.result r.ensures.1 in
    let d = (does_as t s w c.attempt.ensures).allowed _ c.in_ok-deed.was in
    rw (e.1, e.2)
    (verb_short ch a.verb a.a a.b p q c.say.result (says_state ch a.verb a.a a.b p q c.in_ok-judge.ensures ∙ d.0) d.1
    (tells_as a.a _ c.say.result t c.say.ensures) c.in_err-written.was)

pub returns : goal.returns
returns c ch t p q s w =
    let a = c.args in
    let d = (does_as t s w c.attempt.ensures).allowed _ c.in_ok-deed.was in
    verb_decided ch a.verb a.a a.b p q c.say.result (says_state ch a.verb a.a a.b p q c.in_ok-judge.ensures ∙ d.0) d.1
    (tells_as a.a _ c.say.result t c.say.ensures) c.in_ok-written.was
