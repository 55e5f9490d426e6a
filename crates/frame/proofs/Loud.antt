-- The greatest number of what was sent. Assumes nothing.
use mathlib.Core.Bool.{false}
use mathlib.Core.Path.{◌≡◌, refl, sym, subst, ◌∙◌}
use mathlib.Core.List.{List}
use mathlib.Core.Logic.{⊎_elim}
use Prim.Native.Nat.{ℕ, zero, suc, ◌≤◌, ◌<◌}
use native.Mathlib.Omega.{arith}
use borrow.Author.Tests.{eq-eqb}
use lib.ListN.{get_or}
use Rattle.lists.specs.Choice.{choose}
use Rattle.lists.specs.Lists.{any_below}
use Rattle.lists.proofs.Cases.{tested, less, on, chosen}
use Rattle.server.specs.declared.Server.{Server}
use Rattle.server.specs.Server.{absent, sent_any}
use Rattle.places.specs.Words.{sending_number}
use Rattle.frame.specs.Steps.{Still, Loud, any_sent}
use Rattle.frame.proofs.Lookup.{sent-number}
use Rattle.frame.proofs.Listing.{unsent-number}
use Rattle.frame.proofs.Still.{still-unsent}

-- a loop over the places: none of the first i sent a greater number
pub record Louder (l : List Server) (i r : ℕ) : Type 0 where
  pub so_far : (k : ℕ) → k < i → sending_number (get_or l k absent) ≤ r

pub loud_end : {l : List Server} {n i r : ℕ} → Still n l → Louder l i r → n ≤ i → Loud l r
loud_end {l} {n} {i} {r} s v h =
    record {
      bound = λ k g. ⊎_elim (λ w. v.so_far k w) (λ w. omega (arith, unsent-number (get_or l k absent) (still-unsent (get_or l k absent) (s.still k (omega arith) g)))) (less k i);
    }

-- who sent has a number above 0
silent-number : (s : Server) → sending_number s ≡ 0 → sent_any s ≡ false
silent-number s e =
    let q : ◌≡◌ {A = ℕ} 0 (choose (sent_any s) 1 0) = sym (chosen {a = 0} 1 (eq-eqb (sending_number s) 0 e)) ∙ sent-number s in
    on (tested (sent_any s)) (λ t. absurd (let z : ◌≡◌ {A = ℕ} 0 1 = q ∙ chosen 0 t in omega arith)) (λ t. t)

none_below : (l : List Server) → Loud l 0 → (n : ℕ) → n ≤ 16 → any_below n (λ (k : ℕ). sent_any (get_or l k absent)) ≡ false
unfolding any_below
none_below l v zero h = refl
none_below l v (suc n) h = rw (none_below l v n (omega arith)) (silent-number (get_or l n absent) (omega (arith, v.bound n (omega arith))))

-- where the greatest is 0, nobody sent
pub loud_quiet : {l : List Server} {r : ℕ} → Loud l r → r ≡ 0 → any_sent l ≡ false
loud_quiet {l} {r} v e = none_below l (subst (Loud l) e v) 16 (omega arith)
