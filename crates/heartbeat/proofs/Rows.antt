-- D10, computed: `0 20 2 7` reads as Reveal set and is written `0 20 2 1`. Assumes nothing.
use mathlib.Core.Bool.{true}
use mathlib.Core.Path.{◌≡◌, refl}
use mathlib.Core.List.{[], ◌∷◌}
use Rattle.lists.specs.Choice.{choose}
use Rattle.lists.specs.Lists.{split_on, up_to}
use Rattle.refusal.specs.Answer.{accepted, in_turn}
use Rattle.text.specs.Words.{bytes}
use Rattle.text.specs.Digits.{digits}
use Rattle.text.specs.Number.{value, well_written, read_number}
use Rattle.text.specs.Line.{read_line}
use Rattle.heartbeat.specs.declared.Heartbeat.{Heartbeat}
use Rattle.heartbeat.specs.Heartbeat.{is_set, read_fields, read_body, read_heartbeat, heartbeat_line}

abbrev pub heard : Heartbeat
heard = record { bs = 0; priority = 20; tiebreaker = 2; reveal = 7 }

pub read_row : read_heartbeat (bytes "0\t20\t2\t7\n") ≡ accepted (0 ∷ 20 ∷ 2 ∷ 7 ∷ [])
unfolding choose split_on up_to in_turn value well_written read_number read_line read_fields read_body read_heartbeat
read_row = refl

pub set_row : is_set heard.reveal ≡ true
set_row = refl

pub written_row : heartbeat_line heard ≡ bytes "0\t20\t2\t1\n"
unfolding choose digits heartbeat_line
written_row = refl
