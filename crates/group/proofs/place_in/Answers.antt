use Rattle.std.proofs.Common.{◌∙◌, ap, rules}
use borrow.Author.Tests.{tests}
use Rattle.std.specs.Option.{unwrap_or}
use Rattle.std.proofs.lemmas.Iterator.{YieldsList-from_slice}
use Rattle.std.proofs.lemmas.Iterator.Search.{position_from_yields_List}
use Rattle.lists.proofs.Cases.{length_mapped}
use Rattle.group.specs.Table.{named, place_in}
use Rattle.group.proofs.Chains.{position-index}
use Rattle.group.proofs.place_in.Goals as goal

pub returns : goal.returns
unfolding place_in
returns c =
    c.unwrap_or.ensures
    ∙ ap (λ o. unwrap_or o 16)
    (position_from_yields_List (named c.args.identity) _ _ c.position-found.result c.position-found.ensures.ran (YieldsList-from_slice c.args.servers cc) (λ x b q k. search (rules, tests)))
    ∙ position-index (named c.args.identity) c.args.servers 16 (search (rules, length_mapped))
