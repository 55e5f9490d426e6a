use mathlib.Core.Path.{◌≡◌, ap, ◌∙◌}
use Prim.Native.Nat.{ℕ, ◌+◌, ◌*◌, ◌/◌, ◌%◌, ◌<◌}
use native.Mathlib.Omega.{arith}
use borrow.Author.Rules.{rules}
use Rattle.timecode.proofs.pair.Goals as goal

-- the two bytes of a number
lower : (a b : ℕ) → b < 256 → (a * 256 + b) % 256 ≡ b
lower a b h = omega arith

upper : (a b : ℕ) → b < 256 → (a * 256 + b) / 256 ≡ a
upper a b h = omega arith

both : (n : ℕ) → n % 10 * 256 + n / 10 + 12336 ≡ (48 + n % 10) * 256 + (48 + n / 10)
both n = omega arith

pub returns : goal.returns
returns c =
    let n = c.args.n in
    let h : n < 100 = search rules in
    record {
      tens = ap (λ (r : ℕ). r % 256) (both n) ∙ lower _ _ (omega arith) ∙ omega arith;
      ones = ap (λ (r : ℕ). r / 256) (both n) ∙ upper _ _ (omega arith);
    }
