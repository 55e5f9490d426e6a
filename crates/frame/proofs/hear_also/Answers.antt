use mathlib.Core.Bool.{Bool, false, ◌||◌}
use mathlib.Core.Path.{◌≡◌, refl, sym, ◌∙◌}
use Prim.Native.Nat.{ℕ, ◌<◌}
use native.Mathlib.Omega.{arith}
use borrow.Author.Rules.{rules}
use lib.ListN.{get_or}
use Rattle.lists.proofs.Cases.{or_false}
use Rattle.places.specs.Order.{hears_at}
use Rattle.places.proofs.Order.{hears-at}
use Rattle.frame.proofs.Filled.{filled_from}
use Rattle.frame.proofs.hear_also.Goals as goal

pub returns : goal.returns
returns c =
    let a = c.args in
    let P : ℕ → Bool → Type 0 = λ j b. b ≡ (get_or a.heard j false || hears_at a.whole.now j a.i) in
    let made = filled_from _ _ P (λ j b q k. search rules) c.from_fn.result 0 16 _ refl c.from_fn.ensures.items.each in
    let none : (j : ℕ) → j < 16 → get_or c.from_fn.result j false ≡ false → (get_or a.heard j false ≡ false) × (hears_at a.whole.now j a.i ≡ false) =
    λ j h e. or_false _ _ (sym (made j false (omega arith) (omega arith)) ∙ e) in
    record { before = λ j h e. (none j h e).0; also = λ j h e. sym (hears-at a.whole.now j a.i c.requires h) ∙ (none j h e).1 }
