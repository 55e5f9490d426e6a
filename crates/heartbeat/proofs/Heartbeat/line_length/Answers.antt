use native.Mathlib.Omega.{arith}
use Rattle.text.proofs.Digits.{width_few}
use Rattle.heartbeat.proofs.Line.{line-long}
use Rattle.heartbeat.proofs.Heartbeat.line_length.Goals as goal

pub overflow_add-result : goal.overflow_add-result
overflow_add-result c =
    let s = c.args.self in
    omega (arith, width_few s.bs c.width.ensures (omega arith), width_few s.priority c.width-2.ensures (omega arith))

pub overflow_add-result-2 : goal.overflow_add-result-2
overflow_add-result-2 c =
    let s = c.args.self in
    let bs = width_few s.bs c.width.ensures (omega arith) in
    let priority = width_few s.priority c.width-2.ensures (omega arith) in
    omega (arith, width_few s.tiebreaker c.width-3.ensures (omega arith))

pub overflow_add-result-3 : goal.overflow_add-result-3
overflow_add-result-3 c =
    let s = c.args.self in
    let bs = width_few s.bs c.width.ensures (omega arith) in
    let priority = width_few s.priority c.width-2.ensures (omega arith) in
    omega (arith, width_few s.tiebreaker c.width-3.ensures (omega arith))

pub returns : goal.returns
returns c =
    omega (
      arith,
      line-long c.args.self,
      c.width.ensures,
      c.width-2.ensures,
      c.width-3.ensures,
    )
