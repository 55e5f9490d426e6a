use Rattle.places.specs.Words.{servers_of}
use Rattle.frame.proofs.Listing.{Listing}
use Rattle.frame.proofs.list_senders.Given as goal

abbrev pub invariant-loop-i : goal.invariant-loop-i
invariant-loop-i l = Listing (servers_of l.words) l.listed l.sendings l.count l.i
