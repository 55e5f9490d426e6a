use native.Mathlib.Omega.{arith}
use Rattle.places.proofs.Words.{role-small}
use Rattle.plain.proofs.plain_server.Goals as goal

pub overflow_cast-result : goal.overflow_cast-result
overflow_cast-result c = omega (arith, c.role_number.ensures, role-small c.args.s.role)

pub returns : goal.returns
returns c = rw (c.bit.ensures, c.role_number.ensures)
