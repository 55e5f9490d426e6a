use borrow.Author.Rules.{rules}
use Rattle.lists.proofs.Cases.{length_mapped}
use Rattle.group.proofs.Chains.{made_map}
use Rattle.plain.specs.Plain.{server_of, no_server}
use Rattle.plain.proofs.servers_of.Goals as goal

pub returns : goal.returns
returns c = made_map server_of no_server c.args.servers (search (rules, length_mapped)) (λ i y q k. search rules) c.from_fn.ensures.items
