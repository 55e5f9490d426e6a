use Rattle.std.proofs.lemmas.Result.{err_from_is_err_and}
use mathlib.Core.Path.{◌≡◌, sym, ap, ◌∙◌}
use mathlib.Core.List.{List, [], ◌∷◌}
use Prim.Native.Nat.{ℕ}
use native.Mathlib.Omega.{arith}
use borrow.Author.Tests.{eq-eqb, ne_eqb}
use lib.ListN.{take}
use lib.Seq.{length-take-le}
use Rattle.lists.proofs.Cases.{chosen, other}
use Rattle.refusal.specs.Answer.{Answer, accepted, refused}
use Rattle.refusal.proofs.Answers.{number-some}
use Rattle.text.specs.Line.{read_line}
use Rattle.text.proofs.Lines.{line-body, line-whole, line_refused}
use Rattle.heartbeat.specs.Heartbeat.{read_body, read_heartbeat}
use Rattle.heartbeat.proofs.Heartbeat.read.Goals as goal

-- a line, and the bytes before its line feed
body-read : (s : List ℕ) {n : ℕ} → accepted (n ∷ []) ≡ read_line s → read_body (take n s) ≡ read_heartbeat s
unfolding read_heartbeat
body-read s e =
    ap (λ (k : ℕ). read_body (take k s)) (sym (line-body s e)) ∙ sym (chosen _ (eq-eqb _ 0 (sym (ap (λ (a : Answer). a.number) e))))

pub slice_bounds-read_body-end : goal.slice_bounds-read_body-end
slice_bounds-read_body-end c =
    let s = c.args.line.now in
    let e = c.in_ok-whole.ensures in
    sym (length-take-le _ s (omega (arith, line-body s e, line-whole s e)))

pub returns : goal.returns
returns c =
    c.read_body.ensures ∙ body-read _ c.in_ok-whole.ensures

pub returns-in_err-whole : goal.returns-in_err-whole
unfolding read_heartbeat
returns-in_err-whole c =
    let s = c.args.line.now in
    let e = c.in_err-whole.ensures in
    let p = err_from_is_err_and c.from_residual.result c.from_residual.ensures.1 in
    rw (p.1, p.2)
    (ap refused (sym (line_refused s e))
    ∙ sym (other _ (ne_eqb (read_line s).number 0 (λ z. omega (arith, ap (λ (a : Answer). a.number) e, number-some c.in_err-whole.field-0.0)))))
