use Rattle.std.proofs.lemmas.Result.{err_from_is_err_and}
use mathlib.Core.Path.{◌≡◌, refl, ap, ap₂, ◌∙◌}
use mathlib.Core.List.{[], ◌∷◌}
use Prim.Native.Nat.{ℕ}
use Rattle.refusal.specs.Answer.{accepted, in_turn}
use Rattle.dayline.specs.Steps.{entry_of}
use Rattle.dayline.proofs.Good.{alike, bad-first}
use Rattle.dayline.proofs.read_entry.Goals as goal

one : {m n : ℕ} → m ≡ n → accepted (m ∷ []) ≡ accepted (n ∷ [])
one e = ap (λ (k : ℕ). accepted (k ∷ [])) e

pub returns-in_err-time : goal.returns-in_err-time
returns-in_err-time c =
    let p = err_from_is_err_and c.from_residual.result c.from_residual.ensures.1 in
    rw (p.1, p.2) (bad-first (entry_of c.args.verb) _ _ c.in_err-time.ensures)

pub returns : goal.returns
returns c =
    c.from_first.ensures
    ∙ alike (entry_of c.args.verb) (ap₂ in_turn (one c.frame.ensures ∙ c.in_ok-time.ensures) refl)
