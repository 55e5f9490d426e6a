-- The last of eight numbers. Assumes nothing.
use mathlib.Core.Path.{◌≡◌}
use Prim.Native.Nat.{ℕ, ◌+◌, ◌≤◌}
use native.Mathlib.Omega.{arith}

above : {m k : ℕ} → m ≤ k → (k ≡ m → ⊥) → m + 1 ≤ k
above h n = omega arith

last : {k : ℕ} → 7 ≤ k → k ≤ 7 → 7 ≡ k
last g h = omega arith

pub seven :
    {k : ℕ} → k ≤ 7 → (k ≡ 0 → ⊥) → (k ≡ 1 → ⊥) → (k ≡ 2 → ⊥) → (k ≡ 3 → ⊥) → (k ≡ 4 → ⊥) → (k ≡ 5 → ⊥) → (k ≡ 6 → ⊥) → 7 ≡ k
seven {k} h a b c d e f g = last (above {m = 6} (above {m = 5} (above {m = 4} (above {m = 3} (above {m = 2} (above {m = 1} (above {m = 0} (omega arith) a) b) c) d) e) f) g) h
