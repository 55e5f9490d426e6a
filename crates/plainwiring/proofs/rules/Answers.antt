use borrow.Author.Rules.{rules}
use Rattle.plainwiring.proofs.Group.{plain_groups_play, plain_groups_settle}
use Rattle.plainwiring.proofs.Playing.{moves_always_go, plain_groups_can_play}
use Rattle.plainwiring.proofs.Sorting.{plain_sort_is_heard}
use Rattle.plainwiring.proofs.rules.Goals as goal

-- the number is playout's, and what its contract says of fronts is said of the structs
pub returns : goal.returns
returns c =
    let rules = c.playout_rules.ensures in
    record {
      number = rules.number;
      groups = plain_groups_play rules.sheets;
      go = moves_always_go;
      played = plain_groups_can_play;
      sorted = plain_sort_is_heard rules.sheets rules.sorted;
      settles = plain_groups_settle rules.sheets rules.settles;
    }
