-- What a playout server holds, and each step of it.
use Rattle.std.specs.Prelude.{Bool, not, ◌&&◌, List, [], ◌∷◌, ◌++◌, ◌≡◌, ℕ, ◌+◌, leb, eqb, Result, Ok, Err}
use Rattle.lists.specs.Choice.{choose}
use Rattle.refusal.specs.Answer.{Answer, accepted, refused, number_of, of_verdict}
use Rattle.timecode.specs.Read.{in_day}
use Rattle.heartbeat.specs.declared.Heartbeat.{Heartbeat}
use Rattle.roles.specs.declared.Event.{Event}
use Rattle.roles.specs.declared.Verb.{Verb}
use Rattle.server.specs.declared.Server.{Server}
use Rattle.periods.specs.Period.{least_period, greatest_period}
use Rattle.server.specs.Server.{idle, cleared, after}
use Rattle.server.specs.Hearing.{heard}
use Rattle.server.specs.Timers.{timed}
use Rattle.roles.specs.Roles.{role_number}
use Rattle.server.specs.Verbs.{verb_answer}
use Rattle.roles.specs.Verbs.{verb_happens}
use Rattle.front.specs.declared.Front.{Front}
use Rattle.front.specs.declared.HeardNow.{HeardNow}
use Rattle.front.specs.declared.TimedNow.{TimedNow}
use Rattle.front.specs.declared.ActedNow.{ActedNow}
use Rattle.front.specs.declared.After.{After}
use Rattle.refusal.specs.declared.Refusal.{Refusal}

-- ---- a front made

-- the numbers of a server, field by field
abbrev pub server_numbers : Server → List ℕ
server_numbers s =
    s.identity ∷ s.priority ∷ role_number s.role ∷ s.silence ∷ s.beat ∷ s.prospect ∷ s.beats ∷ choose s.reveal 1 0 ∷ s.pass ∷ []

-- the numbers of a front: those of its server, its frame, its period
abbrev pub front_numbers : Front → List ℕ
front_numbers f = server_numbers f.server ++ (f.frame ∷ f.period.frames ∷ [])

-- the number and the values of the answer: those of the front
abbrev pub of_front : Result Front Refusal → Answer
of_front (Ok f) = accepted (front_numbers f)
of_front (Err r) = refused (number_of r)

-- one server of a fresh channel: "at frame 0, all servers idle, .. nothing sent". A front holds no
-- links
abbrev pub fresh : ℕ → ℕ → ℕ → Front
fresh i p n = record { server = idle i p; frame = 0; period = record { frames = n } }

-- "an identity 1..65,535", "P is the period in frames, 2..250"; else "2. A number .. out of range."
-- Left free, since one server knows no table: "5. Identity already in the table.", 6, and "7. P
-- below the number of servers"
unfoldable pub take_front : ℕ → ℕ → ℕ → Answer
take_front i p n = choose (not (eqb i 0) && (leb least_period n && leb n greatest_period)) (accepted (front_numbers (fresh i p n))) (refused 2)

-- ---- its steps: "The playout server itself holds one server's timers and moves them on in place
-- each frame, as a thin front over the step above."
-- Of each: the front f before it, its answer r, and the front f' after it. Left free: the order of
-- the steps, which is the caller's. A frame of document 01 is `begin`, a `hear` for each heartbeat,
-- `tick`, then verbs. An event that is answered says what to send: `ToProspectBeat`, `Beat` and
-- `LowerBeat` "a plain beat", `ToProspectReveal` "a reveal", `Passed b` "a heartbeat with BS = b";
-- others nothing

abbrev pub with_server : Server → Front → Front
with_server s f = record { server = s; frame = f.frame; period = f.period }

-- "the frame number rises by 1"; nothing is sent yet
abbrev pub risen : Front → Front
risen f = record { server = cleared f.server; frame = f.frame + 1; period = f.period }

-- the day has a next frame
abbrev pub goes_on : Front → Bool
goes_on f = in_day (f.frame + 1)

-- the next frame begins; "16. Advance at frame 2,159,999.", and the same front. A frame outside the
-- day, which no step reaches, gets 16 too
pub record FrontBegins (f : Front) (r : Result (Unit {0}) Refusal) (f' : Front) : Type 0 where
  pub number : of_verdict r ≡ choose (goes_on f) 0 16
  pub front : f' ≡ choose (goes_on f) (risen f) f

-- "Hearing, one heartbeat at a time": in the present frame. The event answered is that of this one
-- heartbeat
abbrev pub hearing : Front → Heartbeat → After Front HeardNow
hearing f h =
    let r = heard f.frame f.server h in
    record { front = with_server r.server f; answer = record { event = r.event; role = r.server.role } }

pub record FrontHears (f : Front) (h : Heartbeat) (r : HeardNow) (f' : Front) : Type 0 where
  pub answer : r ≡ (hearing f h).answer
  pub front : f' ≡ (hearing f h).front

-- "Timers, after all hearing in the frame": in the present frame. The events answered are those of
-- the three timers, in their order: "backup with silence age 2 × P: to prospect, sending a reveal",
-- "beat age P: a plain beat", "then prospect with prospect age 2 × P: to primary"
abbrev pub timing : Front → After Front TimedNow
timing f =
    let r = timed f.frame f.period f.server in
    record { front = with_server r.server f; answer = record { silent = r.silent; beating = r.beating; rising = r.rising; role = r.server.role } }

pub record FrontTicks (f : Front) (r : TimedNow) (f' : Front) : Type 0 where
  pub answer : r ≡ (timing f).answer
  pub front : f' ≡ (timing f).front

-- what a verb does to the front's server, b being the second identity; "Any of them returns its
-- number and the same channel": of a refused one, nothing
abbrev pub happens : Verb → ℕ → Front → Event
happens v b f = verb_happens v b (verb_answer v b f.server)

-- a verb in the present frame, by "The table of roles against verbs". Left free, since one server
-- knows no table: 8 for a second identity "not in the table". Left free, since it holds no links:
-- 15. `cut` and `mend` get 2 or 8 for their identities, else are accepted, and nothing happens
pub record FrontActs (v : Verb) (b : ℕ) (f : Front) (r : ActedNow) (f' : Front) : Type 0 where
  pub number : of_verdict r.verdict ≡ (verb_answer v b f.server).number
  pub event : r.event ≡ happens v b f
  pub role : r.role ≡ f'.server.role
  pub front : f' ≡ with_server (after f.frame f.server (happens v b f)) f
