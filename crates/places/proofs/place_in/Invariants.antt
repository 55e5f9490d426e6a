use Rattle.lists.proofs.FindLoop as search-loop
use Rattle.group.specs.Table.{named}
use Rattle.places.specs.Words.{servers_of}
use Rattle.places.proofs.place_in.Given as goal

abbrev pub invariant-loop-i : goal.invariant-loop-i
invariant-loop-i l = search-loop.Missed (named l.identity) (servers_of l.words) 16 l.i
