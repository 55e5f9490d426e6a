use Rattle.std.proofs.Common.{◌≡◌, ℕ, ◌+◌, ◌-◌, take, drop, ap, arith}
use Rattle.vectors.proofs.part.Goals as goal

pub returns : goal.returns
returns c =
    let a = c.args in
    let e : (a.at + a.n) - a.at ≡ a.n = omega arith in
    ap (λ (k : ℕ). take k (drop a.at a.file.now)) e
