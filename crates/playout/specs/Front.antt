-- What the calls of a front answer, as equations on plain integers.
use Rattle.std.specs.Prelude.{Bool, not, ◌&&◌, List, map, ◌≡◌, ℕ, eqb, length, get_or}
use Rattle.lists.specs.Choice.{choose}
use Rattle.heartbeat.specs.declared.Heartbeat.{Heartbeat}
use Rattle.roles.specs.declared.Verb.{Verb}
use Rattle.roles.specs.declared.Event.TheVariants.{Passed}
use Rattle.server.specs.Server.{after}
use Rattle.roles.specs.Roles.{role_number}
use Rattle.server.specs.Verbs.{verb_answer}
use Rattle.settling.specs.Sending.{sends}
use Rattle.front.specs.declared.Front.{Front}
use Rattle.front.specs.declared.HeardNow.{HeardNow}
use Rattle.front.specs.declared.TimedNow.{TimedNow}
use Rattle.front.specs.Front.{fresh, goes_on, risen, hearing, timing, happens, with_server}
use Rattle.plain.specs.declared.PlainFront.{PlainFront}
use Rattle.plain.specs.declared.PlainHeartbeat.{PlainHeartbeat}
use Rattle.plain.specs.Numbers.{is_verb, verb_of, is_event, event_number, event_of, is_period}
use Rattle.plain.specs.Plain.{server_of, is_front, front_of, plain_front, no_front, is_heartbeat, heartbeat_of, plain_heartbeat, no_heartbeat}
use Rattle.playout.specs.declared.FrontMade.{FrontMade}
use Rattle.playout.specs.declared.FrontHeard.{FrontHeard}
use Rattle.playout.specs.declared.FrontTimed.{FrontTimed}
use Rattle.playout.specs.declared.FrontActed.{FrontActed}
use Rattle.playout.specs.declared.Sending.{Sending}

-- the number of what does not decode: "2. A number .. out of range."
abbrev pub ill : ℕ
ill = 2

-- a front made: "an identity 1..65,535", "P is the period in frames, 2..250"; else 2 and zeros
unfoldable pub front_made : ℕ → ℕ → ℕ → FrontMade
front_made i q n = choose (not (eqb i 0) && is_period n) (record { number = 0; front = plain_front (fresh i q n) }) (record { number = ill; front = no_front })

-- ---- its steps: of each the front p before it, its answer r, and the front p' after it

-- the number that the next frame gets: 2 for a front that does not decode, 16 from the day's last
-- frame on
unfoldable pub begin_number : PlainFront → ℕ
begin_number p = choose (is_front p) (choose (goes_on (front_of p)) 0 16) ill

pub record Begins (p : PlainFront) (n : ℕ) (p' : PlainFront) : Type 0 where
  pub number : n ≡ begin_number p
  pub front : p' ≡ choose (eqb (begin_number p) 0) (plain_front (risen (front_of p))) p

-- what happened on hearing, by numbers
abbrev pub heard_numbers : HeardNow → FrontHeard
heard_numbers a = record { number = 0; event = event_number a.event; role = role_number a.role }

abbrev pub not_heard : FrontHeard
not_heard = record { number = ill; event = 0; role = 0 }

pub record Hears (p : PlainFront) (h : PlainHeartbeat) (r : FrontHeard) (p' : PlainFront) : Type 0 where
  pub answer : r ≡ choose (is_front p && is_heartbeat h) (heard_numbers (hearing (front_of p) (heartbeat_of h)).answer) not_heard
  pub front : p' ≡ choose (is_front p && is_heartbeat h) (plain_front (hearing (front_of p) (heartbeat_of h)).front) p

-- what the timers did, by numbers
abbrev pub timed_numbers : TimedNow → FrontTimed
timed_numbers a = record { number = 0; silent = event_number a.silent; beating = event_number a.beating; rising = event_number a.rising; role = role_number a.role }

abbrev pub not_timed : FrontTimed
not_timed = record { number = ill; silent = 0; beating = 0; rising = 0; role = 0 }

pub record Ticks (p : PlainFront) (r : FrontTimed) (p' : PlainFront) : Type 0 where
  pub answer : r ≡ choose (is_front p) (timed_numbers (timing (front_of p)).answer) not_timed
  pub front : p' ≡ choose (is_front p) (plain_front (timing (front_of p)).front) p

-- the front f after a verb, b being the second identity
abbrev pub after_verb : Verb → ℕ → Front → Front
after_verb v b f = with_server (after f.frame f.server (happens v b f)) f

-- the number that the verb v gets: 2 for what does not decode, else what the server answers
unfoldable pub act_number : PlainFront → ℕ → ℕ → ℕ
act_number p v b = choose (is_front p && is_verb v) (verb_answer (verb_of v) b (server_of p.server)).number ill

pub record Acts (p : PlainFront) (v b : ℕ) (r : FrontActed) (p' : PlainFront) : Type 0 where
  pub number : r.number ≡ act_number p v b
  pub event : r.event ≡ choose (eqb (act_number p v b) 0) (event_number (happens (verb_of v) b (front_of p))) 0
  pub role : r.role ≡ choose (eqb (act_number p v b) 0) (role_number (after_verb (verb_of v) b (front_of p)).server.role) 0
  pub front : p' ≡ choose (eqb (act_number p v b) 0) (plain_front (after_verb (verb_of v) b (front_of p))) p

-- ---- what an event sends

-- heartbeats, at most one of them, as plain integers
abbrev pub sending_of : List Heartbeat → Sending
sending_of l = record { number = 0; count = length l; heartbeat = get_or (map plain_heartbeat l) 0 no_heartbeat }

abbrev pub not_sent : Sending
not_sent = record { number = ill; count = 0; heartbeat = no_heartbeat }

-- the event n, b being the identity passed to: there is no pass to nobody
abbrev pub is_sent : ℕ → ℕ → Bool
is_sent n b = is_event n && not (eqb n (event_number (Passed b)) && eqb b 0)

-- what the event n of the front p sends
unfoldable pub front_sends : PlainFront → ℕ → ℕ → Sending
front_sends p n b = choose (is_front p && is_sent n b) (sending_of (sends (server_of p.server) (event_of n b))) not_sent
