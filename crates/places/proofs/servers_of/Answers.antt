use borrow.Author.Rules.{rules}
use Rattle.server.specs.Server.{absent}
use Rattle.group.proofs.Chains.{made_list}
use Rattle.places.proofs.Words.{long_of}
use Rattle.places.proofs.servers_of.Goals as goal

pub returns : goal.returns
returns c = made_list absent (long_of _) (λ i y q k. search rules) c.from_fn.ensures.items
