-- Writing and reading a heartbeat undo each other. The contract of `Heartbeat::write` has both laws
-- (`Trips`, below); the proof is `trips` of proofs/Back.antt.
use Rattle.std.specs.Prelude.{List, [], ◌∷◌, ◌≡◌, ℕ, ◌≤◌, Result}
use Rattle.refusal.specs.Answer.{Answer, accepted}
use Rattle.text.specs.Write.{WritesIf}
use Rattle.heartbeat.specs.declared.Heartbeat.{Heartbeat}
use Rattle.heartbeat.specs.Rank.{least_identity, greatest_identity, greatest_priority}
use Rattle.heartbeat.specs.Heartbeat.{greatest_bs, read_heartbeat, reveal_written, writable, line_with, heartbeat_line}
use Rattle.refusal.specs.declared.Refusal.{Refusal}

-- the answer that gives the fields of h, with the Reveal v
abbrev pub fields_with : Heartbeat → ℕ → Answer
fields_with h v = accepted (h.bs ∷ h.priority ∷ h.tiebreaker ∷ v ∷ [])

-- A heartbeat whose TieBreaker is not 0 reads back from its line with the same fields, a set Reveal
-- as 1. The bounds are those of the fields' widths, which the record does not know.
abbrev pub HeartbeatReadsBack : Type 0
HeartbeatReadsBack =
    (h : Heartbeat) → h.bs ≤ greatest_bs → h.priority ≤ greatest_priority → least_identity ≤ h.tiebreaker → h.tiebreaker ≤ greatest_identity →
    read_heartbeat (heartbeat_line h) ≡ fields_with h (reveal_written h.reveal)

-- A line that is accepted is the line of what was read, byte for byte, with its Reveal as it stood:
-- the writer's line differs from it in a Reveal that is set and not 1, and nowhere else.
abbrev pub HeartbeatWritesBack : Type 0
HeartbeatWritesBack = (s : List ℕ) (h : Heartbeat) → read_heartbeat s ≡ fields_with h h.reveal → line_with h h.reveal ≡ s

-- both trips of a heartbeat
pub record Trips : Type 0 where
  pub read : HeartbeatReadsBack
  pub written : HeartbeatWritesBack

-- a call that writes the line of h, and what holds of all heartbeats written and read
pub record WritesHeartbeat (h : Heartbeat) (d : List ℕ) (at : ℕ) (r : Result ℕ Refusal) (d' : List ℕ) : Type 0 where
  pub writes : WritesIf (writable h) 2 d at (heartbeat_line h) r d'
  pub trips : Trips
