-- Laws of the front. The contract of `Front::new` has them all, with those of Anew.antt (`Laws`,
-- below); the proof is `laws` of proofs/Laws.antt.
use Rattle.std.specs.Prelude.{◌≡◌, List, [], ◌∷◌, ℕ, ◌+◌, Result, Ok, Err}
use Rattle.refusal.specs.declared.Refusal.{Refusal}
use Rattle.heartbeat.specs.declared.Heartbeat.{Heartbeat}
use Rattle.roles.specs.declared.Event.TheVariants.{Nothing}
use Rattle.roles.specs.declared.Verb.{Verb}
use Rattle.server.specs.Server.{cleared}
use Rattle.server.specs.Hearing.{heard_all}
use Rattle.server.specs.Timers.{timed}
use Rattle.front.specs.declared.Front.{Front}
use Rattle.front.specs.declared.TimedNow.{TimedNow}
use Rattle.front.specs.declared.ActedNow.{ActedNow}
use Rattle.front.specs.Front.{front_numbers, of_front, take_front, FrontBegins, hearing, FrontTicks, FrontActs}
use Rattle.front.specs.Anew.{CallsAreSteps, InactiveWaits, LateIsFresh, RenewedGoesOn}

-- `hear` of each heartbeat, one after the other: the front after it
unfoldable pub hearings : Front → List Heartbeat → Front
hearings f [] = f
hearings f (h ∷ hs) = hearings (hearing f h).front hs

-- "a thin front over the step above": `begin`, a `hear` for each heartbeat, and `tick` are the step
-- of one server in the next frame, "the frame number rises by 1; then, .. hearing and timers". The
-- heartbeats may be any, in any order: who hears what is the channel's
abbrev pub FrameIsTheStep : Type 0
FrameIsTheStep =
    (f f₁ f₂ : Front) (hs : List Heartbeat) (r : TimedNow) → FrontBegins f (Ok tt) f₁ → FrontTicks (hearings f₁ hs) r f₂ →
    let t = f.frame + 1 in
    f₂ ≡ record { server = (timed t f.period (heard_all t (cleared f.server) hs)).server; frame = t; period = f.period }

-- a refused step changes nothing: the same front
abbrev pub RefusedBeginStays : Type 0
RefusedBeginStays = (f f' : Front) (k : Refusal) → FrontBegins f (Err k) f' → f' ≡ f

-- and of a verb, nothing happens and the role is the same
abbrev pub RefusedVerbStays : Type 0
RefusedVerbStays =
    (v : Verb) (b : ℕ) (f f' : Front) (r : ActedNow) (k : Refusal) → r.verdict ≡ Err k → FrontActs v b f r f' →
    (f' ≡ f) × ((r.event ≡ Nothing) × (r.role ≡ f.server.role))

-- the numbers of a front tell the front: what `Front::new` answers leaves nothing of it open
abbrev pub NumbersTell : Type 0
NumbersTell = (f g : Front) → front_numbers f ≡ front_numbers g → f ≡ g

-- ---- all of them

pub record Laws : Type 0 where
  pub frames : FrameIsTheStep
  pub begins : RefusedBeginStays
  pub verbs : RefusedVerbStays
  pub numbers : NumbersTell
  pub calls : CallsAreSteps
  pub waits : InactiveWaits
  pub late : LateIsFresh
  pub renewed : RenewedGoesOn

-- the front of the server i with the priority p and the period n, or 2; and what holds of all
-- fronts
pub record FrontNew (i p n : ℕ) (r : Result Front Refusal) : Type 0 where
  pub answer : of_front r ≡ take_front i p n
  pub laws : Laws
