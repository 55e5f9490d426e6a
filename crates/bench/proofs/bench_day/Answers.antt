use mathlib.Core.List.{List}
use mathlib.Core.Path.{ap, ◌∙◌}
use Rattle.server.specs.declared.Server.{Server}
use Rattle.frame.specs.Answers.{state_of}
use Rattle.bench.proofs.Running.{day-ends}
use Rattle.bench.proofs.bench_day.Goals as goal

pub returns : goal.returns
returns c =
    let f = c.fresh-opened in
    let s = f.result.state in
    day-ends c.table_of-table.ensures (ap (λ (l : List Server). state_of s.frame s.period l s.whole) c.words_of-words.ensures.servers ∙ f.ensures.state) c.day.ensures
