use mathlib.Core.List.{[]}
use mathlib.Core.Path.{ap, ap₂, ◌∙◌}
use Prim.Native.Nat.{ℕ}
use Rattle.group.specs.declared.Table.{Table}
use Rattle.group.specs.Table.{is_table, fresh}
use Rattle.group.proofs.Made.{table_empty}
use Rattle.day.specs.Day.{on, atServers}
use Rattle.feeding.specs.Moves.{going}
use Rattle.feed.specs.Answers.{fed_of}
use Rattle.feed.proofs.Making.{does_as}
use Rattle.feed.proofs.Staging.{period-is, period-taken}
use Rattle.feed.proofs.Feed.first_line.Goals as goal

pub listed-requires : goal.listed-requires
listed-requires c = (c.requires.0, ap (λ (t : Table). is_table t.servers) c.empty-table.ensures ∙ table_empty)

pub returns-in-Ok : goal.returns-in-Ok
returns-in-Ok c l =
    let a = c.args in
    let q = c.requires in
    let p = c.of in
    does_as
    (ap₂ (λ (t : Table) (n : ℕ). going (fed_of a.self l a.words.now a.whole.now) [] (on atServers (fresh t n))) c.empty-table.ensures
    (period-is q.1 q.2 p.result p.ensures c.in-Ok.is))
    (c.listed.ensures a.out.now l)

pub returns-in-Err : goal.returns-in-Err
returns-in-Err c l = let q = c.requires in let p = c.of in absurd (period-taken q.1 q.2 p.result p.ensures c.in-Err.is)
