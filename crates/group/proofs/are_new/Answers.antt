use Rattle.std.proofs.Common.{◌∙◌, rules}
use borrow.Author.Tests.{tests}
use Rattle.std.proofs.lemmas.Iterator.{YieldsList-from_slice}
use Rattle.std.proofs.lemmas.Iterator.Search.{all_from_yields_List}
use Rattle.group.specs.Table.{is_new}
use Rattle.group.proofs.Chains.{all-every}
use Rattle.group.proofs.are_new.Goals as goal

pub returns : goal.returns
returns c =
    all_from_yields_List is_new _ _ _ c.all.ensures.ran (YieldsList-from_slice c.args.servers cc) (λ x b q k. search (rules, tests))
    ∙ all-every is_new c.args.servers
