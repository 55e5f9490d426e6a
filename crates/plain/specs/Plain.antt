-- The engine's values as plain integers: of each struct which values decode (`is..`), what they
-- stand for (`..Of`), and how a value is encoded (`plain..`).
use Rattle.std.specs.Prelude.{Bool, ◌&&◌, map, ℕ, ◌*◌, eqb, replicate}
use Rattle.lists.specs.Choice.{choose}
use Rattle.lists.specs.Lists.{every}
use Rattle.heartbeat.specs.declared.Heartbeat.{Heartbeat}
use Rattle.heartbeat.specs.Heartbeat.{writable}
use Rattle.server.specs.declared.Server.{Server}
use Rattle.roles.specs.Roles.{role_number}
use Rattle.front.specs.declared.Front.{Front}
use Rattle.group.specs.declared.Table.{Table}
use Rattle.group.specs.declared.State.{State}
use Rattle.group.specs.Table as group
use Rattle.group.specs.Table.{most, table_with}
use Rattle.places.specs.Words.{role_of}
use Rattle.plain.specs.declared.PlainServer.{PlainServer}
use Rattle.plain.specs.declared.PlainFront.{PlainFront}
use Rattle.plain.specs.declared.PlainHeartbeat.{PlainHeartbeat}
use Rattle.plain.specs.declared.PlainTable.{PlainTable}
use Rattle.plain.specs.declared.PlainChannel.{PlainChannel}
use Rattle.plain.specs.Numbers.{is_bit, is_role, is_period, period_of}

-- ---- a truth: 1 or 0

abbrev pub bit_of : ℕ → Bool
bit_of n = eqb n 1

abbrev pub plain_bit : Bool → ℕ
plain_bit t = choose t 1 0

-- What decodes is a value of the engine, not always one that calls reach: a server of identity 0, a
-- frame beyond the day. Document 01 is silent on such values; they get the answers of the same
-- definitions

-- ---- a server

abbrev pub is_server : PlainServer → Bool
is_server p = is_role p.role && is_bit p.reveal

abbrev pub server_of : PlainServer → Server
server_of p =
    record {
      identity = p.identity;
      priority = p.priority;
      role = role_of p.role;
      silence = p.silence;
      beat = p.beat;
      prospect = p.prospect;
      beats = p.beats;
      reveal = bit_of p.reveal;
      pass = p.pass;
    }

abbrev pub plain_server : Server → PlainServer
plain_server s =
    record {
      identity = s.identity;
      priority = s.priority;
      role = role_number s.role;
      silence = s.silence;
      beat = s.beat;
      prospect = s.prospect;
      pass = s.pass;
      beats = s.beats;
      reveal = plain_bit s.reveal;
    }

-- zeros: an empty place
abbrev pub no_server : PlainServer
no_server = record { identity = 0; priority = 0; role = 0; silence = 0; beat = 0; prospect = 0; pass = 0; beats = 0; reveal = 0 }

-- ---- a front

abbrev pub is_front : PlainFront → Bool
is_front p = is_server p.server && is_period p.period

abbrev pub front_of : PlainFront → Front
front_of p = record { server = server_of p.server; frame = p.frame; period = period_of p.period }

abbrev pub plain_front : Front → PlainFront
plain_front f = record { server = plain_server f.server; frame = f.frame; period = f.period.frames }

abbrev pub no_front : PlainFront
no_front = record { server = no_server; frame = 0; period = 0 }

-- ---- a heartbeat: its Reveal may be any byte

abbrev pub heartbeat_of : PlainHeartbeat → Heartbeat
heartbeat_of p = record { bs = p.bs; priority = p.priority; tiebreaker = p.tiebreaker; reveal = p.reveal }

abbrev pub is_heartbeat : PlainHeartbeat → Bool
is_heartbeat p = writable (heartbeat_of p)

abbrev pub plain_heartbeat : Heartbeat → PlainHeartbeat
plain_heartbeat h = record { bs = h.bs; tiebreaker = h.tiebreaker; priority = h.priority; reveal = h.reveal }

abbrev pub no_heartbeat : PlainHeartbeat
no_heartbeat = record { bs = 0; tiebreaker = 0; priority = 0; reveal = 0 }

-- ---- a table

-- a table that adding makes, and no other
abbrev pub is_table : PlainTable → Bool
is_table p = every is_server p.servers && group.is_table (map server_of p.servers)

abbrev pub table_of : PlainTable → Table
table_of p = table_with (map server_of p.servers)

abbrev pub plain_table : Table → PlainTable
plain_table t = record { servers = map plain_server t.servers }

-- ---- a channel

abbrev pub is_channel : PlainChannel → Bool
is_channel p = is_period p.period && (every is_server p.servers && every is_bit p.whole)

abbrev pub channel_of : PlainChannel → State
channel_of p = record { frame = p.frame; period = period_of p.period; servers = map server_of p.servers; whole = map bit_of p.whole }

abbrev pub plain_channel : State → PlainChannel
plain_channel c = record { frame = c.frame; period = c.period.frames; servers = map plain_server c.servers; whole = map plain_bit c.whole }

abbrev pub no_channel : PlainChannel
no_channel = record { frame = 0; period = 0; servers = replicate most no_server; whole = replicate (most * most) 0 }
