-- What proofs and private functions speak of. Nothing is promised here.
use Rattle.std.specs.Prelude.{ℕ, suc, ◌≤◌, ◌<◌, eqb}
use Rattle.lists.specs.Choice.{choose}
use Rattle.timecode.specs.Label.{day_length}
use Rattle.heartbeat.specs.Rank.{greatest_identity}
use Rattle.periods.specs.Period.{least_period, greatest_period}
use Rattle.group.specs.declared.State.{State}
use Rattle.day.specs.Read.{DayLine, wrong, period, server, entry, end}
use Rattle.day.specs.Day.{Effect}
use Rattle.feeding.specs.Fed.{Fed}
use Rattle.feeding.specs.Moves.{Move, effect_move, frames_due, frames_now, advancing}

-- a line in place, on the channel c, with the effect s
unfoldable pub on_move : Fed → ℕ → State → DayLine → Effect → Move
on_move f room c l s =
    choose (eqb (frames_due c l) 0) (effect_move f s) (advancing f c (frames_now c (frames_due c l) room))

-- a line that is read: a period in its range, a time of the day, identities of 16 bits, and where
-- it is refused a small number
abbrev pub Sized : DayLine → Type 0
Sized (wrong n) = n < 100
Sized (period p) = (least_period ≤ p) × (p ≤ greatest_period)
Sized (server i p) = i < suc greatest_identity
Sized (entry t v a b) = (t < day_length) × (a < suc greatest_identity) × (b < suc greatest_identity)
Sized (end t) = t < day_length
