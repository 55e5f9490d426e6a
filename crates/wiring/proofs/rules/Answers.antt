use mathlib.Core.Path.{refl}
use Rattle.wiring.proofs.Moves.{one-sheet}
use Rattle.wiring.proofs.Keeping.{sorted_is_heard, protocol_can_be_met}
use Rattle.wiring.proofs.Settles.{groups_settle}
use Rattle.wiring.proofs.Days.{one_sheet_of_a_day}
use Rattle.wiring.proofs.Meeting.{lists_can_be_wired, any_order_comes, inactive_hear_anything, days_are_read, frames_may_follow, refused_may_follow}
use Rattle.wiring.proofs.Playing.{days_can_be_played}
use Rattle.wiring.proofs.Anew.{new_fronts_go_on}
use Rattle.wiring.proofs.rules.Goals as goal

-- the number is that of the definition; the rest is what holds whatever it is
pub returns : goal.returns
returns c =
    record {
      number = refl;
      sheets = one-sheet;
      days = one_sheet_of_a_day;
      played = days_can_be_played;
      anew = new_fronts_go_on;
      met = protocol_can_be_met;
      sorted = sorted_is_heard;
      settles = groups_settle;
      wired = lists_can_be_wired;
      comes = any_order_comes;
      anything = inactive_hear_anything;
      read = days_are_read;
      follow = frames_may_follow;
      among = refused_may_follow;
    }
