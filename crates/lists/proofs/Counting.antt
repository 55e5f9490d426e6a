-- How many numbers below m pass a test. Assumes nothing.
use mathlib.Core.Path.{◌≡◌}
use mathlib.Core.Bool.{Bool, true, false}
use Prim.Native.Nat.{ℕ, zero, suc, ◌+◌, ◌<◌, ◌≤◌}
use native.Mathlib.Omega.{arith}
use Rattle.lists.specs.Choice.{choose}
use Rattle.lists.specs.Lists.{count_below}
use Rattle.lists.proofs.Cases.{tested, on, less}

-- who passes p passes q: p is passed by no more
pub count_le : (p q : ℕ → Bool) (m : ℕ) → ((i : ℕ) → i < m → p i ≡ true → q i ≡ true) → count_below p m ≤ count_below q m
unfolding count_below
count_le p q zero h = omega arith
count_le p q (suc m) h =
    let below = count_le p q m (λ i l. h i (omega arith)) in
    on (tested (p m)) (λ e. rw (e, h m (omega arith) e) (omega arith)) λ e.
    on (tested (q m)) (λ g. rw (e, g) (omega arith)) (λ g. rw (e, g) (omega arith))

-- and one passes q alone: p is passed by fewer
pub count_lt : (p q : ℕ → Bool) (m : ℕ) → ((i : ℕ) → i < m → p i ≡ true → q i ≡ true)
    → (x : ℕ) → x < m → p x ≡ false → q x ≡ true → count_below p m < count_below q m
unfolding count_below
count_lt p q zero h x l a b = absurd (omega arith)
count_lt p q (suc m) h x l a b =
    let below = count_lt p q m (λ i l. h i (omega arith)) x in
    let most = count_le p q m (λ i l. h i (omega arith)) in
    on (less x m)
    (λ g. let s = below g a b in
    on (tested (p m)) (λ e. rw (e, h m (omega arith) e) (omega arith)) λ e.
    on (tested (q m)) (λ f. rw (e, f) (omega arith)) (λ f. rw (e, f) (omega arith)))
    (λ g. let e : x ≡ m = omega arith in rw (rw e at a, rw e at b) (omega arith))

-- no more pass than there are
pub count-size : (p : ℕ → Bool) (m : ℕ) → count_below p m ≤ m
unfolding count_below
count-size p zero = omega arith
count-size p (suc m) = let below = count-size p m in
    on (tested (p m)) (λ e. rw e (omega arith)) (λ e. rw e (omega arith))

-- the first of them apart
pub count_shift : (p : ℕ → Bool) (n : ℕ) → count_below p (suc n) ≡ choose (p 0) 1 0 + count_below (λ i. p (suc i)) n
unfolding count_below choose
count_shift p zero = on (tested (p 0)) (λ e. rw e) (λ e. rw e)
count_shift p (suc n) =
    let e = count_shift p n in
    on (tested (p (suc n))) (λ q. rw q (omega (arith, e))) (λ q. rw q e)
