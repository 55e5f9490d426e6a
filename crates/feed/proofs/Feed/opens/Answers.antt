use mathlib.Core.Path.{ap, ◌∙◌}
use Prim.Native.Nat.{ℕ}
use Rattle.group.specs.Table.{fresh_refusal}
use Rattle.feed.proofs.Feed.opens.Goals as goal

pub returns : goal.returns
returns c = c.fresh-opened.ensures.number ∙ ap (λ (n : ℕ). fresh_refusal c.args.table n) c.beat_limit.ensures
