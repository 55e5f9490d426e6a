-- One server of a group, by the calls that docs/MAKERS.md names: what it holds, sends and prints.
use Rattle.std.specs.Prelude.{List, [], ◌∷◌, ◌++◌, ℕ}
use Rattle.heartbeat.specs.declared.Heartbeat.{Heartbeat}
use Rattle.roles.specs.declared.Event.{Event}
use Rattle.roles.specs.declared.Verb.{Verb}
use Rattle.roles.specs.Words.{said}
use Rattle.periods.specs.Period.{shortest}
use Rattle.server.specs.Server.{absent, after}
use Rattle.lines.specs.Lines.{lines_of}
use Rattle.front.specs.declared.Front.{Front}
use Rattle.front.specs.Front.{risen, hearing, timing, happens, with_server}
use Rattle.settling.specs.Sending.{sends}

-- a front, and what was sent in the present frame, in the order sent
pub record Member : Type 0 where
  pub front : Front
  pub sent : List Heartbeat

-- a place of a group with no server in it
abbrev pub nobody : Member
nobody = record { front = record { server = absent; frame = 0; period = shortest }; sent = [] }

abbrev pub identity_of : Member → ℕ
identity_of m = m.front.server.identity

-- ---- "Ask playout_front_sends(front, event, to) for each event, straight after the call that
-- answered it", and `playout_front_lines` for its lines

-- a call left the front f and answered the event e: what e sends goes behind all that was sent
abbrev pub behind : Member → Front → Event → Member
behind m f e = record { front = f; sent = m.sent ++ sends f.server e }

abbrev pub event_lines : Front → Event → List ℕ
event_lines f e = lines_of f.frame f.server.identity (said e)

-- ---- one frame: `playout_front_begin`, `playout_front_hear`, `playout_front_tick`

-- "the next frame begins; nothing is sent in it yet"
abbrev pub begins : Member → Member
begins m = record { front = risen m.front; sent = [] }

-- "once for each heartbeat"
unfoldable pub hears_each : Member → List Heartbeat → Member
hears_each m [] = m
hears_each m (h ∷ hs) = let r = hearing m.front h in hears_each (behind m r.front r.answer.event) hs

unfoldable pub hears_lines : Front → List Heartbeat → List ℕ
hears_lines f [] = []
hears_lines f (h ∷ hs) = let r = hearing f h in event_lines r.front r.answer.event ++ hears_lines r.front hs

-- "`playout_front_tick` answers three, in this order: `silent`, `beating`, `rising`"
unfoldable pub ticks : Member → Member
ticks m =
    let r = timing m.front in
    behind (behind (behind m r.front r.answer.silent) r.front r.answer.beating) r.front r.answer.rising

unfoldable pub ticks_lines : Front → List ℕ
ticks_lines f =
    let r = timing f in
    event_lines r.front r.answer.silent ++ (event_lines r.front r.answer.beating ++ event_lines r.front r.answer.rising)

-- a frame in which hs is heard, in this order
unfoldable pub frame_of : Member → List Heartbeat → Member
frame_of m hs = ticks (hears_each (begins m) hs)

unfoldable pub frame_lines : Member → List Heartbeat → List ℕ
frame_lines m hs = hears_lines (risen m.front) hs ++ ticks_lines (hears_each (begins m) hs).front

-- ---- an entry that is taken: `playout_front_act`, b being the second identity

unfoldable pub acts : Verb → ℕ → Member → Member
acts v b m =
    let e = happens v b m.front in
    behind m (with_server (after m.front.frame m.front.server e) m.front) e

unfoldable pub acts_lines : Verb → ℕ → Front → List ℕ
acts_lines v b f = event_lines f (happens v b f)
