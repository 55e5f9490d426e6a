-- Days or pairs, counted. Assumes nothing.
use Rattle.std.proofs.Common.{◌≡◌, ℕ, ◌+◌, ◌^◌, ◌<◌, ◌≤◌, arith, Ok, Err}
use Rattle.vectors.specs.Found.{Found}
use Rattle.vectors.specs.declared.Tally.{Tally}
use Rattle.vectors.specs.Tally.{agreeing, beginning, counted, stopped, Counted}

agree-small : (f : Found) → agreeing f ≤ 1
agree-small (Ok _) = omega arith
agree-small (Err _) = omega arith

-- one more fits
pub told : (f : Found) {a r : ℕ} → r ≡ agreeing f → a < 2097152 → a + r < 2 ^ 64
told f e h = omega (arith, e, agree-small f)

pub begun : {n at : ℕ} {t : Tally} → t ≡ beginning at → at ≤ n → Counted n 0 t
begun e h = rw e (record { read = h; agree = omega arith; repeated = omega arith })

module _ {n k : ℕ} {t : Tally} (v : Counted n k t) where
  pub few : k < 2097152 → (t.agree < 2097152) × (t.repeated < 2097152)
  few h = (omega (arith, v.agree), omega (arith, v.repeated))

  pub counts : (f : Found) {end r : ℕ} {q : Tally} → q ≡ counted t f end r → end ≤ n → r ≤ 1 → Counted n (k + 1) q
  counts f e h g =
      rw e
      (record { read = h; agree = omega (arith, v.agree, agree-small f); repeated = omega (arith, v.repeated) })

  pub stops : {q : Tally} → q ≡ stopped t → Counted n (k + 1) q
  stops e = rw e (record { read = v.read; agree = omega (arith, v.agree); repeated = omega (arith, v.repeated) })
