use borrow.Author.Rules.{rules}
use Rattle.lists.proofs.Cases.{length_mapped}
use Rattle.server.specs.Server.{absent}
use Rattle.group.proofs.Chains.{made_map}
use Rattle.plain.specs.Plain.{plain_server}
use Rattle.plain.proofs.plain_servers.Goals as goal

pub returns : goal.returns
returns c = made_map plain_server absent c.args.servers (search (rules, length_mapped)) (λ i y q k. search rules) c.from_fn.ensures.items
