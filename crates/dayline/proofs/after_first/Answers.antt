use mathlib.Core.Path.{refl, sym, ap, ◌∙◌}
use mathlib.Core.List.{[], ◌∷◌}
use Rattle.lists.proofs.Cases.{chosen, other}
use Rattle.refusal.specs.Answer.{accepted, in_turn}
use Rattle.refusal.proofs.Answers.{turn-accepted}
use Rattle.dayline.specs.Steps.{entry_of}
use Rattle.dayline.proofs.Good.{alike, good}
use Rattle.dayline.proofs.after_first.Goals as goal

pub returns-then-paired : goal.returns-then-paired
returns-then-paired c =
    let a = c.args in
    c.from_second.ensures
    ∙ alike (entry_of a.verb) (ap (in_turn (accepted (a.time ∷ a.first ∷ []))) (sym (chosen _ (sym c.paired.ensures ∙ c.if-paired.true))))

pub returns-else-paired : goal.returns-else-paired
returns-else-paired c =
    let a = c.args in
    good (entry_of a.verb)
    (sym (turn-accepted (a.time ∷ a.first ∷ []) (accepted []) refl)
    ∙ ap (in_turn (accepted (a.time ∷ a.first ∷ []))) (sym (other _ (sym c.paired.ensures ∙ c.if-paired.false))))
