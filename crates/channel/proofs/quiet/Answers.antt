use Rattle.std.proofs.Common.{◌≡◌, ◌∙◌, rules}
use borrow.Author.Tests.{tests}
use mathlib.Core.Path.{sym}
use Rattle.std.specs.List.{list_any}
use Rattle.std.proofs.lemmas.Iterator.{YieldsList-from_slice}
use Rattle.std.proofs.lemmas.Iterator.Search.{any_from_yields_List}
use Rattle.lists.proofs.Cases.{length_mapped, not_so}
use Rattle.channel.proofs.Resting.{stirring, quiet_next}
use Rattle.channel.proofs.quiet.Goals as goal

pub returns : goal.returns
returns c e =
    let found : c.any.result ≡ list_any (stirring c.args.state) c.args.state.servers =
    any_from_yields_List (stirring c.args.state) _ _ c.any.result c.any.ensures.ran (YieldsList-from_slice c.args.state.servers cc) (λ x b q k. search (rules, tests))
    in
    quiet_next c.args.state (search (rules, length_mapped)) (sym found ∙ not_so c.any.result e)
