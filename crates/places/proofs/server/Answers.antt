use Rattle.server.specs.Server.{absent}
use Rattle.places.specs.Words.{servers_of}
use mathlib.Core.Path.{◌∙◌, sym}
use native.Mathlib.Omega.{arith}
use lib.ListN.{get_or-eq_default}
use Rattle.places.proofs.Words.{long_of}
use Rattle.places.proofs.server.Goals as goal

pub returns-then-i-lt-SERVERS : goal.returns-then-i-lt-SERVERS
returns-then-i-lt-SERVERS c = c.server_at.ensures

pub returns-else-i-lt-SERVERS : goal.returns-else-i-lt-SERVERS
returns-else-i-lt-SERVERS c = c.absent.ensures ∙ sym (get_or-eq_default (servers_of c.args.words.now) absent {n = c.args.i} (omega (arith, c.if-i-lt-SERVERS.false, long_of c.args.words.now)))
