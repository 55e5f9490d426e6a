use Rattle.std.proofs.Common.{rules}
use borrow.Author.Tests.{tests}
use Rattle.std.proofs.lemmas.Fn.{always_returns_same}
use Rattle.group.specs.Table.{follows}
use Rattle.group.proofs.Tables.{rise-answer}
use Rattle.group.proofs.rise.Goals as goal

pub returns : goal.returns
returns c =
    rise-answer c.args.servers _ (c.is_sorted_by.ensures.cases follows (always_returns_same _ _ _ (λ a r f k. search (rules, tests))))
