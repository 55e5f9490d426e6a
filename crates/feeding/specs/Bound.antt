-- How much a step prints at the most.
use Rattle.std.specs.Prelude.{◌≡◌, List, ℕ, suc, ◌≤◌, ◌<◌, length}
use Rattle.server.specs.declared.Server.{Server}
use Rattle.server.specs.Server.{most_beats}
use Rattle.heartbeat.specs.Rank.{greatest_identity}
use Rattle.group.specs.Table.{most}
use Rattle.group.specs.declared.State.{State}
use Rattle.group.specs.Hearing.{place}
use Rattle.frame.specs.Answers.{frame_bytes}
use Rattle.day.specs.Day.{last_line}
use Rattle.feeding.specs.Fed.{Fed, beginning, taken}
use Rattle.feeding.specs.Moves.{step_move, steps_move, last_move}

-- no frame of a small channel (below) prints more bytes
abbrev pub step_bytes : ℕ
step_bytes = frame_bytes most_beats

-- identities are no greater than they may be, and no more beats were sent in a frame than are
-- counted
pub record Small (s : Server) : Type 0 where
  pub identity : s.identity < suc greatest_identity
  pub beats : s.beats ≤ most_beats
  pub pass : s.pass < suc greatest_identity

pub record SmallChannel (c : State) : Type 0 where
  pub places : length c.servers ≡ most
  pub small : (i : ℕ) → Small (place c i)

-- what the laws below say of every feed that begins, takes and steps. A feed whose numbers were set
-- by another hand need not be so
pub record Bounded (f : Fed) : Type 0 where
  pub number : f.number ≤ suc last_line
  pub channel : SmallChannel f.day.channel

abbrev pub BeginsBounded : Type 0
BeginsBounded = Bounded beginning

abbrev pub TakingKeepsBounds : Type 0
TakingKeepsBounds = (f : Fed) (s : List ℕ) → Bounded f → Bounded (taken f s)

abbrev pub SteppingKeepsBounds : Type 0
SteppingKeepsBounds = (f : Fed) (room : ℕ) → Bounded f → Bounded (step_move f room).fed

abbrev pub PairsKeepBounds : Type 0
PairsKeepBounds = (f : Fed) (room : ℕ) → Bounded f → Bounded (steps_move f room).fed

-- with a slice of `step_bytes` no step gets 9, nor do two, nor does the last move
abbrev pub StepsFit : Type 0
StepsFit = (f : Fed) (room : ℕ) → Bounded f → step_bytes ≤ room → length (step_move f room).lines ≤ room

abbrev pub PairsFit : Type 0
PairsFit = (f : Fed) (room : ℕ) → Bounded f → step_bytes ≤ room → length (steps_move f room).lines ≤ room

abbrev pub LastFits : Type 0
LastFits = (f : Fed) → Bounded f → length (last_move f).lines ≤ step_bytes
