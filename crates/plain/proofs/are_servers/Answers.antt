use Rattle.std.proofs.Common.{◌∙◌, rules}
use borrow.Author.Tests.{tests}
use Rattle.std.proofs.lemmas.Iterator.{YieldsList-from_slice}
use Rattle.std.proofs.lemmas.Iterator.Search.{all_from_yields_List}
use Rattle.group.proofs.Chains.{all-every}
use Rattle.plain.specs.Plain.{is_server}
use Rattle.plain.proofs.are_servers.Goals as goal

pub returns : goal.returns
returns c =
    all_from_yields_List is_server _ _ _ c.all.ensures.ran (YieldsList-from_slice c.args.servers cc) (λ x b q k. search (rules, tests))
    ∙ all-every is_server c.args.servers
