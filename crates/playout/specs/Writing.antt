-- What is read and written, as equations on plain integers.
use Rattle.std.specs.Prelude.{Bool, List, ◌≡◌, ℕ, get_or}
use Rattle.lists.specs.Choice.{choose}
use Rattle.refusal.specs.Answer.{Answer, refused}
use Rattle.text.specs.Write.{writing, wrote}
use Rattle.heartbeat.specs.Rank.{higher}
use Rattle.heartbeat.specs.Heartbeat.{sender}
use Rattle.roles.specs.Words.{said}
use Rattle.lines.specs.Lines.{lines_of}
use Rattle.plain.specs.declared.PlainHeartbeat.{PlainHeartbeat}
use Rattle.plain.specs.declared.PlainFront.{PlainFront}
use Rattle.plain.specs.Numbers.{event_of}
use Rattle.plain.specs.Plain.{plain_bit, heartbeat_of}
use Rattle.playout.specs.declared.PlainWritten.{PlainWritten}
use Rattle.playout.specs.declared.HeartbeatRead.{HeartbeatRead}
use Rattle.playout.specs.declared.TimecodeRead.{TimecodeRead}

-- the number of an answer, and how many bytes were written
abbrev pub written_of : Answer → PlainWritten
written_of a = record { number = a.number; written = get_or a.values 0 0 }

-- a call that writes the bytes w from the start of the slice d, or gets 9: its answer, and the
-- slice afterwards
pub record Puts (d w : List ℕ) (r : PlainWritten) (d' : List ℕ) : Type 0 where
  pub answer : r ≡ written_of (writing d 0 w)
  pub slice : d' ≡ wrote d 0 w

-- a call that is refused with the number k unless ok holds, and otherwise writes w as above
pub record PutsIf (ok : Bool) (k : ℕ) (d w : List ℕ) (r : PlainWritten) (d' : List ℕ) : Type 0 where
  pub answer : r ≡ written_of (choose ok (writing d 0 w) (refused k))
  pub slice : d' ≡ choose ok (wrote d 0 w) d

-- the sheet's lines of the event n of the front p
abbrev pub front_lines : PlainFront → ℕ → List ℕ
front_lines p n = lines_of p.frame p.server.identity (said (event_of n 0))

-- the number of an answer, and the heartbeat that was read: BS, Priority, TieBreaker, Reveal
abbrev pub heartbeat_read : Answer → HeartbeatRead
heartbeat_read a =
    record {
      number = a.number;
      heartbeat = record { bs = get_or a.values 0 0; tiebreaker = get_or a.values 2 0; priority = get_or a.values 1 0; reveal = get_or a.values 3 0 };
    }

-- the number of an answer, and the frame that was read
abbrev pub timecode_read : Answer → TimecodeRead
timecode_read a = record { number = a.number; frame = get_or a.values 0 0 }

-- 1 where the sender of a is higher than that of b, else 0
abbrev pub plain_higher : PlainHeartbeat → PlainHeartbeat → ℕ
plain_higher a b = plain_bit (higher (sender (heartbeat_of a)) (sender (heartbeat_of b)))
