use Rattle.group.specs.Table.{stands_before}
use borrow.Author.Rules.{rules}
use Rattle.group.proofs.stands_before.Goals as goal

pub returns : goal.returns
unfolding stands_before
returns c = search rules
