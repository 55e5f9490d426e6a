use mathlib.Core.Bool.{Bool, ◌&&◌}
use mathlib.Core.List.{List, [], ◌∷◌}
use mathlib.Core.Path.{◌≡◌, refl, ap, ◌∙◌}
use Prim.Native.Nat.{ℕ, ◌<◌}
use native.Mathlib.Omega.{arith}
use lib.ListN.{take, get_or}
use lib.Seq.{get_or-take}
use Rattle.std.proofs.Common.{rules}
use Rattle.std.proofs.lemmas.Grind.{get_or_default_zero}
use Rattle.std.proofs.lemmas.Iterator.{YieldsList-from_slice}
use Rattle.std.proofs.lemmas.Iterator.Adapters.{serves_from_places}
use Rattle.std.proofs.lemmas.Iterator.Search.{all_from_yields_List}
use Rattle.std.specs.List.{list_all}
use Rattle.lists.specs.Lists.{every}
use Rattle.frame.proofs.Lookup.{long}
use Rattle.frame.specs.Steps.{higher_at}
use Rattle.frame.proofs.only_higher.Goals as goal

pub all-requires-clause-callable : goal.all-requires-clause-callable
all-requires-clause-callable c =
    let near = take c.args.m c.args.near.now in
    serves_from_places {all = near} (YieldsList-from_slice near (cc)) (λ x q k. search rules)
    (λ x k h e.
    let below : k < c.args.m = omega (arith, long c.requires) in
    let at : x.now ≡ get_or c.args.near.now k 0 = e ∙ get_or_default_zero near k x.now h ∙ get_or-take c.args.m c.args.near.now k 0 below in
    let place : x.now < 16 = omega (arith, c.requires.places k below) in
    search (rules, place))

-- the library's test of each element is the same
all_every : (p : ℕ → Bool) (l : List ℕ) → list_all p l ≡ every p l
all_every p [] = refl
all_every p (x ∷ l) = ap (λ (t : Bool). p x && t) (all_every p l)

pub returns : goal.returns
returns c =
    let a = c.args in
    let test = higher_at a.ranks.now a.sendings.now a.own in
    let near = take a.m a.near.now in
    all_from_yields_List test _ _ _ c.all.ensures.ran (YieldsList-from_slice _ (cc)) (λ x b q k. search rules) ∙ all_every test near
