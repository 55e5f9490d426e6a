use Rattle.std.proofs.lemmas.Result.{err_from_is_err_and}
use mathlib.Core.Path.{refl}
use native.Mathlib.Omega.{arith}
use Rattle.places.specs.Words.{servers_of}
use Rattle.places.proofs.Canonical.{keeps-all, becomes-keeps}
use Rattle.frame.specs.Answers.{state_of}
use Rattle.verbs.proofs.Acting.{acted, ok_or_err}
use Rattle.verbs.proofs.act.Goals as goal

pub returns-in_err-done : goal.returns-in_err-done
returns-in_err-done c =
    let a = c.args in
    let e = err_from_is_err_and c.from_residual.result c.from_residual.ensures.1 in
    rw (e.1, e.2)
    (acted keeps-all
    (λ p. (c.decide.ensures (state_of a.frame p (servers_of a.words.now) a.whole.now) refl c.place_in-first.ensures c.second_place-second.ensures c.server-s.ensures refl).refused _ c.in_err-done.was)
    (λ k e. (refl, refl)))

pub put-requires : goal.put-requires
put-requires c = (omega arith, omega arith)

pub returns : goal.returns
returns c =
    let a = c.args in
    let put = c.put.ensures in
    acted (becomes-keeps put.0)
    (λ p.
    rw (put.0.servers, put.1)
    ((c.decide.ensures (state_of a.frame p (servers_of a.words.now) a.whole.now) refl c.place_in-first.ensures c.second_place-second.ensures c.server-s.ensures refl).allowed _ c.in_ok-done.was))
    (λ k e. ok_or_err e)
