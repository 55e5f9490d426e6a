-- A test of all numbers below one. Assumes nothing.
use mathlib.Core.Bool.{Bool, true, false}
use mathlib.Core.Path.{◌≡◌, refl, subst, ◌∙◌}
use Prim.Native.Nat.{ℕ, ◌+◌, ◌<◌}
use native.Mathlib.Omega.{arith}
use lib.ListN.{length}
use Rattle.std.specs.Bool.{MatchBool}
use Rattle.std.specs.List.{range_with_len, AllWithin}
use Rattle.std.proofs.lemmas.List.FromFn.{length-range_with_len, get_or-range_with_len}
use Rattle.lists.proofs.Cases.{clash}

-- where the test answers true, each passed
pub all_below :
    (fails : Type 0) (r : Bool) (n : ℕ) (p : ℕ → Type 0) → MatchBool r (AllWithin p (range_with_len 0 n) 0 (length (range_with_len 0 n))) fails → r ≡ true → (i : ℕ) →
    i < n → p i
all_below fails true n p m e i h =
    let at = get_or-range_with_len 0 n i 0 h in
    let same : 0 + i ≡ i = omega arith in
    subst p (at ∙ same) (m i 0 (omega arith) (rw length-range_with_len h))
all_below fails false n p m e i h = absurd (clash e refl)
