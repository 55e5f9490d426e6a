use mathlib.Core.Path.{◌≡◌, ◌∙◌, ap, sym}
use native.Mathlib.Omega.{arith}
use borrow.Author.Tests.{le-ltb}
use lib.ListN.{length}
use lib.Seq.{set_out}
use Rattle.lists.proofs.Cases.{other}
use Rattle.places.proofs.Words.{long_of}
use Rattle.places.proofs.Canonical.{put_is, becomes, keeps-all}
use borrow.Author.Rules.{rules}
use Rattle.places.proofs.put.Goals as goal

pub returns-then-i-lt-SERVERS : goal.returns-then-i-lt-SERVERS
returns-then-i-lt-SERVERS c =
    let long : length c.args.words.now ≡ 80 = search rules in
    let s = c.store.ensures in
    put_is long c.if-i-lt-SERVERS.true s.fits s.numbers

pub returns-else-i-lt-SERVERS : goal.returns-else-i-lt-SERVERS
returns-else-i-lt-SERVERS c =
    record {
      numbers = sym (other _ (le-ltb _ _ c.if-i-lt-SERVERS.false));
      words = becomes keeps-all (sym (set_out _ _ _ (omega (arith, c.if-i-lt-SERVERS.false, long_of c.args.words.now))));
    }
