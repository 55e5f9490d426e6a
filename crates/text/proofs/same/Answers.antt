use mathlib.Core.Bool.{◌&&◌}
use mathlib.Core.List.{List, [], ◌∷◌}
use mathlib.Core.Path.{◌≡◌, refl, ap, ◌∙◌}
use Prim.Native.Nat.{ℕ}
use lib.Dec.{eqb}
use lib.Pointwise.{pointwise}
use Rattle.lists.specs.Lists.{same}
use Rattle.text.proofs.same.Goals as goal

-- place by place is the same
by_place : (a b : List ℕ) → pointwise eqb a b ≡ same a b
unfolding same
by_place [] [] = refl
by_place [] (y ∷ b) = refl
by_place (x ∷ a) [] = refl
by_place (x ∷ a) (y ∷ b) = ap (λ r. eqb x y && r) (by_place a b)

pub returns : goal.returns
returns c = c.eq.ensures ∙ by_place _ _
