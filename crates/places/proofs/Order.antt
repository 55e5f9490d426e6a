-- Places and links, and the look-up of who comes next. Assumes nothing.
use mathlib.Core.Bool.{Bool, true, false, ◌&&◌}
use mathlib.Core.Path.{◌≡◌, refl, sym, ap, ap₂, subst, ◌∙◌}
use mathlib.Core.List.{List}
use Prim.Native.Nat.{ℕ, ◌+◌, ◌<◌}
use native.Mathlib.Omega.{arith}
use borrow.Author.Tests.{lt-ltb, le-ltb, le-leb, lt-leb}
use lib.Dec.{ltb, leb}
use lib.ListN.{get_or}
use Rattle.lists.specs.Choice.{choose}
use Rattle.lists.proofs.Cases.{tested, less, on, chosen, other}
use Rattle.group.specs.Hearing.{is_place}
use Rattle.places.specs.declared.Best.{Best}
use Rattle.places.specs.Order.{over_by, comes_by, heard_by, hears_at, rank_end, rank_under, no_best, better_of}

-- of two places it is the link alone
pub hears-at : (w : List Bool) (j i : ℕ) → i < 16 → j < 16 → hears_at w j i ≡ heard_by w j i
hears-at w j i h g = chosen _ (ap₂ ◌&&◌ (lt-ltb i 16 h) (lt-ltb j 16 g))

-- ---- the best so far

module _ (under : ℕ) (best : Best) (n rank i : ℕ) (e : n ≡ rank) where
  test-is : ltb rank under && leb best.least rank ≡ ltb n under && leb best.least n
  test-is = ap (λ (k : ℕ). ltb k under && leb best.least k) (sym e)

  pub better_is : (ltb n under && leb best.least n) ≡ true → ◌≡◌ {A = Best} (record { place = i; least = n + 1 }) (better_of under best rank i)
  better_is t = ap (λ (k : ℕ). record { place = i; least = k + 1 }) e ∙ sym (chosen _ (test-is ∙ t))

  pub better_not : (ltb n under && leb best.least n) ≡ false → best ≡ better_of under best rank i
  better_not t = sym (other _ (test-is ∙ t))

-- its least rank is one more than its own
pub record IsBest (ranks : List ℕ) (b : Best) : Type 0 where
  pub least : b.least ≡ choose (is_place b.place) (get_or ranks b.place 0 + 1) 0

pub best_none : (ranks : List ℕ) → IsBest ranks no_best
best_none ranks = record { least = sym (other _ (le-ltb 16 16 (omega arith))) }

suc_leb : (a n : ℕ) → leb (a + 1) n ≡ ltb a n
suc_leb a n =
    on (less a n)
    (λ h. le-leb (a + 1) n (omega arith) ∙ sym (lt-ltb a n h))
    (λ h. lt-leb (a + 1) n (omega arith) ∙ sym (le-ltb a n h))

module _ (ranks : List ℕ) (last i : ℕ) (small : get_or ranks i 0 < rank_end) where
  abbrev n : ℕ
  n = get_or ranks i 0

  under-is : ltb n (rank_under ranks last) ≡ choose (is_place last) (over_by ranks last i) true
  under-is =
      on (tested (is_place last))
      (λ t. ap (ltb n) (chosen _ t) ∙ sym (chosen _ t))
      (λ t. ap (ltb n) (other _ t) ∙ lt-ltb n rank_end small ∙ sym (other _ t))

  module _ (b : Best) (q : IsBest ranks b) where
    least-is : leb b.least n ≡ choose (is_place b.place) (over_by ranks i b.place) true
    least-is =
        on (tested (is_place b.place))
        (λ t. ap (λ (k : ℕ). leb k n) (q.least ∙ chosen _ t) ∙ suc_leb (get_or ranks b.place 0) n ∙ sym (chosen _ t))
        (λ t. ap (λ (k : ℕ). leb k n) (q.least ∙ other _ t) ∙ le-leb 0 n (omega arith) ∙ sym (other _ t))

    sooner : ltb n (rank_under ranks last) && leb b.least n ≡ comes_by ranks true last b.place i
    sooner = ap₂ ◌&&◌ under-is least-is

    -- one place more is looked at
    pub best_turn : i < 16 → ((better_of (rank_under ranks last) b n i).place ≡ choose (comes_by ranks true last b.place i) i b.place) × IsBest ranks (better_of (rank_under ranks last) b n i)
    best_turn h =
        on (tested (ltb n (rank_under ranks last) && leb b.least n))
        (λ t.
        subst (λ (r : Best). (r.place ≡ choose (comes_by ranks true last b.place i) i b.place) × IsBest ranks r) (sym (chosen b t))
        (sym (chosen _ (sym sooner ∙ t)), record { least = sym (chosen _ (lt-ltb i 16 h)) }))
        (λ t.
        subst (λ (r : Best). (r.place ≡ choose (comes_by ranks true last b.place i) i b.place) × IsBest ranks r) (sym (other _ t))
        (sym (other _ (sym sooner ∙ t)), q))
