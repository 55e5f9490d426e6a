use Rattle.std.proofs.lemmas.Result.{err_from_is_err_and}
use mathlib.Core.List.{List}
use mathlib.Core.Path.{sym, ap, ◌∙◌}
use Rattle.server.specs.declared.Server.{Server}
use Rattle.periods.specs.Period.{beat_limit}
use Rattle.group.specs.declared.Table.{Table}
use Rattle.group.specs.Table.{is_table, fresh_refusal}
use Rattle.group.proofs.Opening.{no_table}
use Rattle.feed.proofs.Staging.{is-taken, not_taken}
use Rattle.feed.proofs.Feed.complete.Goals as goal

pub returns : goal.returns
returns c =
    let n = beat_limit c.args.self.period in
    let t = is-taken c.of-made.ensures c.in_ok-made.was in
    c.opens.ensures ∙ ap (λ (x : Table). fresh_refusal x n) t ∙ ap (λ (l : List Server). fresh_refusal (record { servers = l }) n) c.servers_of.ensures

pub returns-in_err-made : goal.returns-in_err-made
returns-in_err-made c =
    let t = not_taken c.of-made.ensures c.in_err-made.was in
    let p = err_from_is_err_and c.from_residual.result c.from_residual.ensures.1 in
    rw (p.1, p.2) (t.1 ∙ sym (no_table (record { servers = _ }) _ (ap is_table (sym c.servers_of.ensures) ∙ t.0)))
