use borrow.Author.Rules.{rules}
use Rattle.lists.proofs.Cases.{length_mapped}
use Rattle.group.proofs.Chains.{made_map}
use Rattle.plain.specs.Plain.{bit_of}
use Rattle.plain.proofs.links_of.Goals as goal

pub returns : goal.returns
returns c = made_map bit_of 0 c.args.whole (search (rules, length_mapped)) (λ i y q k. search rules) c.from_fn.ensures.items
