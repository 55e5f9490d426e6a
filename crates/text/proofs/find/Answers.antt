use mathlib.Core.Path.{◌≡◌, refl, sym, ◌∙◌}
use Prim.Native.Nat.{ℕ}
use native.Mathlib.Numerals.{add-one}
use borrow.Author.Tests.{tests, eq-eqb, ne_eqb}
use Rattle.std.proofs.Common.{rules, ◌≢◌}
use Rattle.std.proofs.lemmas.Iterator.{YieldsList-from_slice, IsFirst-from_position, index_from_first}
use Rattle.lists.specs.Lists.{up_to}
use Rattle.lists.proofs.Cases.{chosen, other}
use Rattle.text.proofs.find.Goals as goal

pub returns : goal.returns
unfolding up_to
returns c =
    let b = c.args.b in
    let s = c.args.s.now in
    c.unwrap_or.ensures
    ∙ sym (index_from_first (up_to b) (λ x. x ≡ b) (λ x. x ≢ b) refl
    (λ x xs h. chosen _ (eq-eqb x b h))
    (λ x xs h. other _ (ne_eqb x b h) ∙ sym (add-one _))
    s c.position.result
    (IsFirst-from_position _ _ c.position.result (λ x. x ≡ b) (λ x. x ≢ b) c.position.ensures.ran (YieldsList-from_slice s cc) (λ x q k. search (rules, tests)) (λ x q k. search (rules, tests))))
