use Rattle.std.proofs.lemmas.Result.{err_from_is_err_and}
use mathlib.Core.Path.{◌≡◌, sym, ap, ◌∙◌}
use mathlib.Core.Bool.{true, false}
use mathlib.Core.List.{List, [], ◌∷◌}
use Prim.Native.Nat.{ℕ}
use native.Mathlib.Omega.{arith}
use borrow.Author.Tests.{eq-eqb, ne_eqb}
use lib.Dec.{eqb}
use lib.ListN.{take}
use lib.Seq.{length-take-le}
use Rattle.refusal.specs.Answer.{Answer, accepted, refused}
use Rattle.refusal.proofs.Answers.{number-some}
use Rattle.text.specs.Line.{read_line}
use Rattle.text.proofs.Lines.{line-body, line-whole, line_refused}
use Rattle.day.specs.Read.{wrong, body_read, line_read}
use Rattle.dayline.proofs.DayLine.read.Goals as goal

-- a line, and the bytes before its line feed
body-read : (s : List ℕ) {n : ℕ} → accepted (n ∷ []) ≡ read_line s → body_read (take n s) ≡ line_read s
unfolding line_read
body-read s {n} e =
    let p : eqb (read_line s).number 0 ≡ true = eq-eqb _ 0 (sym (ap (λ (a : Answer). a.number) e)) in
    ap (λ (k : ℕ). body_read (take k s)) (sym (line-body s e)) ∙ sym (rw (p, line_read))

-- no line
no_line : (s : List ℕ) {k : ℕ} → (k ≡ 0 → ⊥) → refused k ≡ read_line s → wrong k ≡ line_read s
unfolding line_read
no_line s {k} h e =
    let p : eqb (read_line s).number 0 ≡ false = ne_eqb _ 0 (λ z. h (ap (λ (a : Answer). a.number) e ∙ z)) in
    ap wrong (sym (line_refused s e)) ∙ sym (rw (p, line_read))

pub slice_bounds-read_body-end : goal.slice_bounds-read_body-end
slice_bounds-read_body-end c =
    let s = c.args.line.now in
    let e = c.in_ok-whole.ensures in
    sym (length-take-le _ s (omega (arith, line-body s e, line-whole s e)))

pub returns : goal.returns
returns c = c.read_body.ensures ∙ body-read _ c.in_ok-whole.ensures

pub returns-in_err-whole : goal.returns-in_err-whole
returns-in_err-whole c =
    let p = err_from_is_err_and c.from_residual.result c.from_residual.ensures.1 in
    rw (p.1, p.2) (no_line _ (λ z. omega (arith, number-some c.in_err-whole.field-0.0)) c.in_err-whole.ensures)
