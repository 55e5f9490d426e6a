-- What private functions answer. Nothing is promised here.
use Rattle.std.specs.Prelude.{◌≡◌, [], ◌+◌}
use Rattle.group.specs.declared.State.{State}
use Rattle.group.specs.Outcome.{Outcome}
use Rattle.group.specs.Frame.{moved_to, advanced, frame_lines}

-- the frame after c, whether the day has such a frame or not
abbrev pub next_frame : State → Outcome
next_frame c = record { number = 0; lines = frame_lines c; channel = advanced c }

-- nothing happens in it
pub record Quiet (c : State) : Type 0 where
  pub next : advanced c ≡ moved_to c (c.frame + 1) c.servers
  pub silent : frame_lines c ≡ []
