use Rattle.std.specs.Prelude.{ℕ, Result}
use mathlib.Core.Path.{sym, ap}
use Rattle.feed.specs.Steps.{if_written}
use Rattle.feed.proofs.Feed.put.Goals as goal
use Rattle.refusal.specs.declared.Refusal.{Refusal}

pub returns-in-Ok : goal.returns-in-Ok
returns-in-Ok c = let a = c.args in record { written = sym c.in-Ok.is; feed = ap (λ (p : Result ℕ Refusal). if_written p a.after a.self) (sym c.in-Ok.is) }

pub returns-in-Err : goal.returns-in-Err
returns-in-Err c = let a = c.args in record { written = sym c.in-Err.is; feed = ap (λ (p : Result ℕ Refusal). if_written p a.after a.self) (sym c.in-Err.is) }
