-- "A process that comes up later in the day, or comes up again after a real crash, makes a new
-- front too and sets `front.frame` to the present frame" (docs/MAKERS.md).
use Rattle.std.specs.Prelude.{true, false, ◌≡◌, List, [], ◌∷◌, ◌++◌, map, ℕ, ◌+◌, length, Result, Ok}
use Rattle.lists.specs.Choice.{choose}
use Rattle.refusal.specs.Answer.{of_verdict}
use Rattle.timecode.specs.Read.{in_day}
use Rattle.heartbeat.specs.declared.Heartbeat.{Heartbeat}
use Rattle.roles.specs.declared.Role.{Role}
use Rattle.roles.specs.declared.Role.TheVariants.{Idle}
use Rattle.roles.specs.declared.Event.{Event}
use Rattle.roles.specs.declared.Event.TheVariants.{Nothing}
use Rattle.roles.specs.declared.Verb.{Verb}
use Rattle.roles.specs.declared.Verb.TheVariants.{Restart}
use Rattle.roles.specs.Roles.{is_active}
use Rattle.server.specs.Server.{cleared, after}
use Rattle.server.specs.Verbs.{verb_answer}
use Rattle.front.specs.declared.Front.{Front}
use Rattle.front.specs.declared.HeardNow.{HeardNow}
use Rattle.front.specs.declared.TimedNow.{TimedNow}
use Rattle.front.specs.declared.ActedNow.{ActedNow}
use Rattle.front.specs.Front.{fresh, with_server, risen, goes_on, FrontBegins, hearing, FrontHears, timing, FrontTicks, happens, FrontActs}
use Rattle.refusal.specs.declared.Refusal.{Refusal}

-- a new front, its frame set to t
abbrev pub new_at : ℕ → ℕ → ℕ → ℕ → Front
new_at i p n t = record { server = (fresh i p n).server; frame = t; period = (fresh i p n).period }

-- ---- steps, and all that they answer

pub data Step : Type 0 where
  begin : Step
  hear : Heartbeat → Step
  tick : Step
  act : Verb → ℕ → Step

-- of `begin` and `act` the number; of `act` the event and the role too
pub data Answered : Type 0 where
  of_begin : ℕ → Answered
  of_hear : HeardNow → Answered
  of_tick : TimedNow → Answered
  of_act : ℕ → Event → Role → Answered

-- the front after a step
unfoldable pub stepped : Front → Step → Front
stepped f begin = choose (goes_on f) (risen f) f
stepped f (hear h) = (hearing f h).front
stepped f tick = (timing f).front
stepped f (act v b) = with_server (after f.frame f.server (happens v b f)) f

unfoldable pub answered : Front → Step → Answered
answered f begin = of_begin (choose (goes_on f) 0 16)
answered f (hear h) = of_hear (hearing f h).answer
answered f tick = of_tick (timing f).answer
answered f (act v b) = of_act (verb_answer v b f.server).number (happens v b f) (stepped f (act v b)).server.role

-- one after the other
unfoldable pub moved : Front → List Step → Front
moved f [] = f
moved f (x ∷ xs) = moved (stepped f x) xs

unfoldable pub answers : Front → List Step → List Answered
answers f [] = []
answers f (x ∷ xs) = answered f x ∷ answers (stepped f x) xs

-- the step x, as the contracts of the calls have it
pub data Called (f : Front) : Step → Answered → Front → Type 0 where
  by_begin : {r : Result (Unit {0}) Refusal} {f' : Front} → FrontBegins f r f' → Called f begin (of_begin (of_verdict r)) f'
  by_hear : {h : Heartbeat} {r : HeardNow} {f' : Front} → FrontHears f h r f' → Called f (hear h) (of_hear r) f'
  by_tick : {r : TimedNow} {f' : Front} → FrontTicks f r f' → Called f tick (of_tick r) f'
  by_act : {v : Verb} {b : ℕ} {r : ActedNow} {f' : Front} → FrontActs v b f r f' → Called f (act v b) (of_act (of_verdict r.verdict) r.event r.role) f'

-- each call is its step
abbrev pub CallsAreSteps : Type 0
CallsAreSteps = (f f' : Front) (x : Step) (a : Answered) → Called f x a f' → (f' ≡ stepped f x) × (a ≡ answered f x)

-- ---- frames in which nothing is done: `begin`, a `hear` for each heartbeat, `tick`

unfoldable pub frames : List (List Heartbeat) → List Step
frames [] = []
frames (hs ∷ hss) = begin ∷ (map hear hs ++ (tick ∷ frames hss))

-- accepted, and nothing happens in the role r
abbrev pub nothing : Role → Step → Answered
nothing r begin = of_begin 0
nothing r (hear h) = of_hear (record { event = Nothing; role = r })
nothing r tick = of_tick (record { silent = Nothing; beating = Nothing; rising = Nothing; role = r })
nothing r (act v b) = of_act 0 Nothing r

-- "down, idle, sync: nothing": whatever is heard, the front is only moved on, so that while its
-- server is down nobody need hold it. What was sent is gone with the first frame
abbrev pub InactiveWaits : Type 0
InactiveWaits =
    (f : Front) (hs : List Heartbeat) (hss : List (List Heartbeat)) → is_active f.server.role ≡ false →
    let t = f.frame + length (hs ∷ hss) in
    in_day t ≡ true →
    let xs = frames (hs ∷ hss) in
    (moved f xs ≡ record { server = cleared f.server; frame = t; period = f.period }) × (answers f xs ≡ map (nothing f.server.role) xs)

-- "comes up later in the day": a new front whose frame is set is the one that was made at the day's
-- beginning and moved on, whatever it heard; it missed nothing
abbrev pub LateIsFresh : Type 0
LateIsFresh =
    (i p n : ℕ) (hss : List (List Heartbeat)) → in_day (length hss) ≡ true →
    (moved (fresh i p n) (frames hss) ≡ new_at i p n (length hss)) × (answers (fresh i p n) (frames hss) ≡ map (nothing Idle) (frames hss))

-- ---- "comes up again after a real crash"

-- what a caller reads of a front besides its answers: who is on air, and what the lines of an event
-- and its heartbeat are made of
pub record Alike (f g : Front) : Type 0 where
  pub frame : f.frame ≡ g.frame
  pub period : f.period ≡ g.period
  pub identity : f.server.identity ≡ g.server.identity
  pub priority : f.server.priority ≡ g.server.priority
  pub role : f.server.role ≡ g.server.role

-- a restart that is accepted: a new front in the same frame answers whatever steps as the old one
-- does, of which only its identity, its priority and its period are known
abbrev pub RenewedGoesOn : Type 0
RenewedGoesOn =
    (b : ℕ) (f f' : Front) (r : ActedNow) (xs : List Step) → r.verdict ≡ Ok tt → FrontActs Restart b f r f' →
    let g = new_at f.server.identity f.server.priority f.period.frames f.frame in
    (answers f' xs ≡ answers g xs) × Alike (moved f' xs) (moved g xs)
