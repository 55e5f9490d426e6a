-- The laws of specs/Laws.antt. Assumes nothing.
use mathlib.Core.Bool.{Bool, true, ◌&&◌}
use mathlib.Core.Path.{◌≡◌, refl, ap, ap₂, ◌∙◌}
use mathlib.Core.List.{List}
use Prim.Native.Nat.{ℕ}
use Rattle.lists.specs.Lists.{every}
use Rattle.lists.proofs.Cases.{chosen, fst_true, snd_true, and_true}
use Rattle.periods.specs.declared.Period.{Period}
use Rattle.server.specs.declared.Server.{Server}
use Rattle.front.specs.declared.Front.{Front}
use Rattle.group.specs.declared.Table.{Table}
use Rattle.group.specs.declared.State.{State}
use Rattle.group.specs.Table as group
use Rattle.group.specs.Table.{table_with}
use Rattle.places.proofs.Words.{role-back}
use Rattle.plain.specs.declared.PlainServer.{PlainServer}
use Rattle.plain.specs.declared.PlainFront.{PlainFront}
use Rattle.plain.specs.declared.PlainTable.{PlainTable}
use Rattle.plain.specs.declared.PlainChannel.{PlainChannel}
use Rattle.plain.specs.Numbers.{is_bit, is_role, is_period, period_of}
use Rattle.plain.specs.Plain.{bit_of, plain_bit, is_server, server_of, plain_server, is_front, front_of, plain_front, is_table, table_of, plain_table, is_channel, channel_of, plain_channel}
use Rattle.plain.specs.Laws.{Back, Laws}
use Rattle.plain.proofs.Trips.{list_decodes, list_same, list_faithful, bit-faithful, role-faithful, verb-faithful, event-faithful, refusal-faithful, role-decodes, bit-decodes, bit-same, event-back, verb-back, refusal-back}

-- ---- a period

period-same : (q : Period) → is_period q.frames ≡ true → period_of q.frames ≡ q
unfolding period_of
period-same q e = chosen _ e

period-faithful : (n : ℕ) → is_period n ≡ true → (period_of n).frames ≡ n
unfolding period_of
period-faithful n e = ap (λ (q : Period). q.frames) (chosen _ e)

-- ---- what a value is encoded to decodes, and to it

server-decodes : (s : Server) → is_server (plain_server s) ≡ true
server-decodes s = and_true (role-decodes s.role) (bit-decodes s.reveal)

server-same : (s : Server) → server_of (plain_server s) ≡ s
server-same s = rw (role-back s.role, bit-same s.reveal)

front-back : (f : Front) → is_period f.period.frames ≡ true → Back is_front front_of plain_front f
front-back f e = record { decodes = and_true (server-decodes f.server) e; same = ap₂ (λ (s : Server) (q : Period). record { server = s; frame = f.frame; period = q }) (server-same f.server) (period-same f.period e) }

table-back : (t : Table) → group.is_table t.servers ≡ true → Back is_table table_of plain_table t
unfolding table_with
table-back t e =
    let same = list_same server_of plain_server server-same t.servers in
    record {
      decodes = and_true (list_decodes is_server plain_server server-decodes t.servers) (ap group.is_table same ∙ e);
      same = ap table_with same ∙ chosen _ e;
    }

channel-back : (c : State) → is_period c.period.frames ≡ true → Back is_channel channel_of plain_channel c
channel-back c e =
    record {
      decodes = and_true e (and_true (list_decodes is_server plain_server server-decodes c.servers) (list_decodes is_bit plain_bit bit-decodes c.whole));
      same =
          ap₂ (λ (q : Period) (l : List Server). record { frame = c.frame; period = q; servers = l; whole = (channel_of (plain_channel c)).whole }) (period-same c.period e) (list_same server_of plain_server server-same c.servers)
          ∙ ap (λ (w : List Bool). record { frame = c.frame; period = c.period; servers = c.servers; whole = w }) (list_same bit_of plain_bit bit-same c.whole);
    }

-- ---- what decodes is encoded to itself

pub server-faithful : (p : PlainServer) → is_server p ≡ true → plain_server (server_of p) ≡ p
server-faithful p e =
    rw (role-faithful p.role (fst_true (is_role p.role) (is_bit p.reveal) e), bit-faithful p.reveal (snd_true (is_role p.role) (is_bit p.reveal) e))

pub front-faithful : (p : PlainFront) → is_front p ≡ true → plain_front (front_of p) ≡ p
front-faithful p e =
    ap₂ (λ (s : PlainServer) (n : ℕ). record { server = s; frame = p.frame; period = n }) (server-faithful p.server (fst_true (is_server p.server) (is_period p.period) e))
    (period-faithful p.period (snd_true (is_server p.server) (is_period p.period) e))

pub table-faithful : (p : PlainTable) → is_table p ≡ true → plain_table (table_of p) ≡ p
unfolding table_with
table-faithful p e =
    let good = snd_true (every is_server p.servers) _ e in
    ap plain_table (chosen _ good)
    ∙ ap (λ (l : List PlainServer). record { servers = l }) (list_faithful is_server server_of plain_server server-faithful p.servers (fst_true (every is_server p.servers) _ e))

pub channel-faithful : (p : PlainChannel) → is_channel p ≡ true → plain_channel (channel_of p) ≡ p
channel-faithful p e =
    let rest = snd_true (is_period p.period) (every is_server p.servers && every is_bit p.whole) e in
    ap₂ (λ (n : ℕ) (l : List PlainServer). record { frame = p.frame; period = n; servers = l; whole = (plain_channel (channel_of p)).whole })
    (period-faithful p.period (fst_true (is_period p.period) (every is_server p.servers && every is_bit p.whole) e))
    (list_faithful is_server server_of plain_server server-faithful p.servers (fst_true (every is_server p.servers) (every is_bit p.whole) rest))
    ∙ ap (λ (w : List ℕ). record { frame = p.frame; period = p.period; servers = p.servers; whole = w })
    (list_faithful is_bit bit_of plain_bit bit-faithful p.whole (snd_true (every is_server p.servers) (every is_bit p.whole) rest))

pub laws : Laws
laws =
    record {
      back =
          record {
            server = λ s. record { decodes = server-decodes s; same = server-same s };
            front = front-back;
            heartbeat = λ h e. record { decodes = e; same = refl };
            table = table-back;
            channel = channel-back;
            event = event-back;
            verb = verb-back;
            refusal = refusal-back;
          };
      faithful =
          record {
            server = server-faithful;
            front = front-faithful;
            heartbeat = λ p. refl;
            table = table-faithful;
            channel = channel-faithful;
            event = event-faithful;
            verb = verb-faithful;
            refusal = refusal-faithful;
          };
    }
