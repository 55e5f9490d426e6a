use Rattle.lists.proofs.Cases.{bit-small}
use native.Mathlib.Omega.{arith}
use mathlib.Core.Path.{ap}
use Prim.Native.Nat.{ℕ, ◌+◌, ◌*◌}
use Rattle.places.proofs.sending_number.Goals as goal

pub overflow_add-result : goal.overflow_add-result
overflow_add-result c = omega (arith, c.flag.ensures, bit-small c.args.s.reveal)

pub overflow_mul-result-2 : goal.overflow_mul-result-2
overflow_mul-result-2 c = omega (arith, c.flag.ensures, bit-small c.args.s.reveal)

pub overflow_add-result-2 : goal.overflow_add-result-2
overflow_add-result-2 c = omega (arith, c.flag.ensures, bit-small c.args.s.reveal)

pub returns : goal.returns
returns c =
    let s = c.args.s in
    (ap (λ (n : ℕ). (s.beats * 2 + n) * 65536 + s.pass) c.flag.ensures, (omega arith, omega arith))
