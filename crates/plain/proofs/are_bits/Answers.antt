use Rattle.std.proofs.Common.{◌∙◌, rules}
use borrow.Author.Tests.{tests}
use Rattle.std.proofs.lemmas.Iterator.{YieldsList-from_slice}
use Rattle.std.proofs.lemmas.Iterator.Search.{all_from_yields_List}
use Rattle.group.proofs.Chains.{all-every}
use Rattle.plain.specs.Numbers.{is_bit}
use Rattle.plain.proofs.are_bits.Goals as goal

pub returns : goal.returns
returns c =
    all_from_yields_List is_bit _ _ _ c.all.ensures.ran (YieldsList-from_slice c.args.whole cc) (λ x b q k. search (rules, tests))
    ∙ all-every is_bit c.args.whole
