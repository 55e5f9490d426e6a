use Rattle.bench.proofs.Running.{calls-end}
use Rattle.bench.proofs.bench_calls.Goals as goal

pub returns : goal.returns
returns c =
    calls-end c.table_of-table.ensures c.frame.ensures c.run_list-ended.ensures
