-- The check, a byte a turn. Assumes nothing.
use Rattle.std.proofs.Common.{◌≡◌, ℕ, ◌+◌, ◌*◌, ◌/◌, ◌%◌, ◌^◌, List, [], ◌∷◌, sym, refl, ap, ◌∙◌, arith}
use Rattle.std.specs.List.{fold}
use native.Mathlib.Nat.{add-mod-mod, mul-add-mod_self_left}
use Rattle.vectors.specs.Check.{stepped, check_from, check_of}

-- the three parts of the product, and what they leave out
pub parts :
    (x : ℕ) {m r : ℕ} → m ≡ (((x / 4294967296) * 435) % 4294967296 * 4294967296 + (x % 4294967296) * 435) % 2 ^ 64 →
    r ≡ ((x % 16777216) * 1099511627776 + m) % 2 ^ 64 → r ≡ (x * 1099511628211) % 2 ^ 64
parts x {m} {r} e f =
    let M = 2 ^ 64 in
    let top = (x % 16777216) * 1099511627776 in
    let rest = ((x / 4294967296) * 435) % 4294967296 * 4294967296 + (x % 4294967296) * 435 in
    let over = x / 16777216 + ((x / 4294967296) * 435) / 4294967296 in
    let whole : x * 1099511628211 ≡ M * over + (top + rest) = omega arith in
    f ∙ ap (λ (n : ℕ). (top + n) % M) e ∙ add-mod-mod top rest M ∙ sym (ap (λ (n : ℕ). n % M) whole ∙ mul-add-mod_self_left M over (top + rest))

-- the check is a fold
from : (k : ℕ) (s : List ℕ) → check_from k s ≡ fold stepped k s
from k [] = refl
from k (x ∷ s) = from (stepped k x) s

pub folded : (s : List ℕ) → check_of s ≡ fold stepped 14695981039346656037 s
unfolding check_of
folded s = from 14695981039346656037 s
