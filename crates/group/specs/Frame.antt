-- "One frame".
use Rattle.std.specs.Prelude.{List, [], ◌∷◌, ◌++◌, ℕ, suc, ◌+◌}
use Rattle.lists.specs.Lists.{map_from}
use Rattle.heartbeat.specs.declared.Heartbeat.{Heartbeat}
use Rattle.server.specs.declared.Server.{Server}
use Rattle.server.specs.declared.Timed.{Timed}
use Rattle.server.specs.Server.{cleared}
use Rattle.server.specs.Hearing.{heard, heard_all}
use Rattle.server.specs.Timers.{timed}
use Rattle.roles.specs.Words.{said}
use Rattle.group.specs.declared.State.{State}
use Rattle.lines.specs.Lines.{lines_of}
use Rattle.group.specs.Hearing.{inbox}

-- the lines of a server that hears all of a list in frame t, one heartbeat at a time
unfoldable pub heard_lines : ℕ → Server → List Heartbeat → List ℕ
heard_lines t s [] = []
heard_lines t s (h ∷ hs) = lines_of t s.identity (said (heard t s h).event) ++ heard_lines t (heard t s h).server hs

-- the lines of the timers, in their order
unfoldable pub timed_lines : ℕ → ℕ → Timed → List ℕ
timed_lines t i m = lines_of t i (said m.silent) ++ (lines_of t i (said m.beating) ++ lines_of t i (said m.rising))

-- the server at place j after the hearing of frame t, before which it has sent nothing in this
-- frame
unfoldable pub hearing : State → ℕ → ℕ → Server → Server
hearing c t j s = heard_all t (cleared s) (inbox c j)

-- "server by server .., hearing and timers"
unfoldable pub turned : State → ℕ → ℕ → Server → Server
turned c t j s = (timed t c.period (hearing c t j s)).server

unfoldable pub turn_lines : State → ℕ → ℕ → Server → List ℕ
turn_lines c t j s = heard_lines t (cleared s) (inbox c j) ++ timed_lines t s.identity (timed t c.period (hearing c t j s))

-- the lines of the servers of l, in the order of the places, which is that of rising identity; k is
-- the place of the first
unfoldable pub turns_lines : State → ℕ → ℕ → List Server → List ℕ
turns_lines c t k [] = []
turns_lines c t k (s ∷ l) = turn_lines c t k s ++ turns_lines c t (suc k) l

-- in the frame t, with the servers l
abbrev pub moved_to : State → ℕ → List Server → State
moved_to c t l = record { frame = t; period = c.period; servers = l; whole = c.whole }

-- "the frame number rises by 1": the next channel, whether the day has such a frame or not
unfoldable pub advanced : State → State
advanced c =
    record {
      frame = c.frame + 1;
      period = c.period;
      servers = map_from 0 (turned c (c.frame + 1)) c.servers;
      whole = c.whole;
    }

-- the lines of that frame
unfoldable pub frame_lines : State → List ℕ
frame_lines c = turns_lines c (c.frame + 1) 0 c.servers
