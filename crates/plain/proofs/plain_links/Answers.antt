use mathlib.Core.Bool.{false}
use borrow.Author.Rules.{rules}
use Rattle.lists.proofs.Cases.{length_mapped}
use Rattle.group.proofs.Chains.{made_map}
use Rattle.plain.specs.Plain.{plain_bit}
use Rattle.plain.proofs.plain_links.Goals as goal

pub returns : goal.returns
returns c = made_map plain_bit false c.args.whole (search (rules, length_mapped)) (λ i y q k. search rules) c.from_fn.ensures.items
