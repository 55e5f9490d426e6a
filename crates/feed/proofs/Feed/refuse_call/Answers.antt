use mathlib.Core.Path.{refl, sym, ◌∙◌}
use borrow.Author.Tests.{eqb-true, eqb-false}
use Rattle.refusal.specs.Answer.{number_of}
use Rattle.refusal.proofs.Answers.{is_short}
use Rattle.feed.proofs.Feed.refuse_call.Goals as goal

pub returns-then-eq : goal.returns-then-eq
returns-then-eq c =
    let k = c.args.k in
    record { short = λ e. (refl, refl, refl); long = λ h. absurd (h (eqb-true (number_of k) 9 (sym (is_short k) ∙ sym c.if-eq.ensures))) }

pub returns-else-eq : goal.returns-else-eq
returns-else-eq c =
    let k = c.args.k in
    record { short = λ e. absurd (eqb-false (number_of k) 9 (sym (is_short k) ∙ sym c.if-eq.ensures) e); long = λ h. c.refuse.ensures }
