use mathlib.Core.Path.{◌≡◌}
use Rattle.bench.specs.Bench.{table_from, table_of}
use Rattle.bench.proofs.table_of.Given as goal

abbrev pub invariant-loop-server : goal.invariant-loop-server
invariant-loop-server l = (l.server-iterator.size ≡ 2) × (table_from l.table l.server-iterator.rest.now ≡ table_of l.servers)
