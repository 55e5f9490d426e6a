-- Laws of plain values, as statements. proofs/Laws.antt proves them.
use Rattle.std.specs.Prelude.{Bool, true, ◌≡◌, ℕ}
use Rattle.refusal.specs.declared.Refusal.{Refusal}
use Rattle.refusal.specs.Answer.{number_of}
use Rattle.heartbeat.specs.declared.Heartbeat.{Heartbeat}
use Rattle.heartbeat.specs.Heartbeat.{writable}
use Rattle.roles.specs.declared.Verb.{Verb}
use Rattle.roles.specs.declared.Event.{Event}
use Rattle.server.specs.declared.Server.{Server}
use Rattle.roles.specs.Verbs.{verb_number}
use Rattle.front.specs.declared.Front.{Front}
use Rattle.group.specs.declared.Table.{Table}
use Rattle.group.specs.declared.State.{State}
use Rattle.group.specs.Table as group
use Rattle.plain.specs.declared.PlainServer.{PlainServer}
use Rattle.plain.specs.declared.PlainFront.{PlainFront}
use Rattle.plain.specs.declared.PlainHeartbeat.{PlainHeartbeat}
use Rattle.plain.specs.declared.PlainTable.{PlainTable}
use Rattle.plain.specs.declared.PlainChannel.{PlainChannel}
use Rattle.plain.specs.Numbers.{is_verb, verb_of, is_event, event_number, event_to, event_of, is_refusal, refusal_of, is_period}
use Rattle.plain.specs.Plain.{is_server, server_of, plain_server, is_front, front_of, plain_front, is_heartbeat, heartbeat_of, plain_heartbeat, is_table, table_of, plain_table, is_channel, channel_of, plain_channel}

-- what a value x is encoded to decodes, and to x
pub record Back {A P : Type 0} (is : P → Bool) (of : P → A) (plain : A → P) (x : A) : Type 0 where
  pub decodes : is (plain x) ≡ true
  pub same : of (plain x) ≡ x

-- of every value; of tables those that adding makes; of fronts and channels those whose period is
-- in its range, as every `Period` is that can be made; of heartbeats those that a line can have
pub record RoundTrips : Type 0 where
  pub server : (s : Server) → Back is_server server_of plain_server s
  pub front : (f : Front) → is_period f.period.frames ≡ true → Back is_front front_of plain_front f
  pub heartbeat : (h : Heartbeat) → writable h ≡ true → Back is_heartbeat heartbeat_of plain_heartbeat h
  pub table : (t : Table) → group.is_table t.servers ≡ true → Back is_table table_of plain_table t
  pub channel : (c : State) → is_period c.period.frames ≡ true → Back is_channel channel_of plain_channel c
  pub event : (e : Event) → Back is_event (λ n. event_of n (event_to e)) event_number e
  pub verb : (v : Verb) → Back is_verb verb_of verb_number v
  pub refusal : (r : Refusal) → Back is_refusal refusal_of number_of r

-- a plain value that decodes is encoded to itself: nothing in it is lost
pub record Faithful : Type 0 where
  pub server : (p : PlainServer) → is_server p ≡ true → plain_server (server_of p) ≡ p
  pub front : (p : PlainFront) → is_front p ≡ true → plain_front (front_of p) ≡ p
  pub heartbeat : (p : PlainHeartbeat) → plain_heartbeat (heartbeat_of p) ≡ p
  pub table : (p : PlainTable) → is_table p ≡ true → plain_table (table_of p) ≡ p
  pub channel : (p : PlainChannel) → is_channel p ≡ true → plain_channel (channel_of p) ≡ p
  pub event : (n to : ℕ) → is_event n ≡ true → event_number (event_of n to) ≡ n
  pub verb : (n : ℕ) → is_verb n ≡ true → verb_number (verb_of n) ≡ n
  pub refusal : (n : ℕ) → is_refusal n ≡ true → number_of (refusal_of n) ≡ n

-- all of them
pub record Laws : Type 0 where
  pub back : RoundTrips
  pub faithful : Faithful
