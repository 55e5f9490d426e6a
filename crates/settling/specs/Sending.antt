-- "one sender's heartbeats in the order sent": what a server keeps of its sendings, a count, a flag
-- and an identity, is the list of them.
use Rattle.std.specs.Prelude.{◌≡◌, List, [], ◌∷◌, ◌++◌, ℕ, ◌+◌, ◌<◌}
use Rattle.heartbeat.specs.declared.Heartbeat.{Heartbeat}
use Rattle.roles.specs.declared.Event.{Event}
use Rattle.roles.specs.declared.Event.TheVariants.{Nothing, ToBackup, ToProspectBeat, ToProspectReveal, Lower, LowerBeat, Beat, ToPrimary, ToSync, ToIdle, ToDown, Passed}
use Rattle.server.specs.declared.Server.{Server}
use Rattle.roles.specs.declared.Verb.{Verb}
use Rattle.server.specs.Server.{cleared, plain_of, reveal_of, pass_of, send_pass, sent_by, after}
use Rattle.server.specs.Hearing.{hears, attending, heard_all}
use Rattle.server.specs.Timers.{silent, beating, rising, after_silent, after_beating}
use Rattle.group.specs.declared.Table.{Table}
use Rattle.group.specs.declared.State.{State}
use Rattle.group.specs.Table.{most, fresh_refusal, fresh}
use Rattle.group.specs.Hearing.{place, inbox}
use Rattle.group.specs.Verbs.{place_of, happens}
use Rattle.group.specs.Calls.{Call, channel_after}
use Rattle.group.specs.Laws.{SendersDiffer}

-- what the server s sends in an event
abbrev pub sends : Server → Event → List Heartbeat
sends s Nothing = []
sends s ToBackup = []
sends s ToProspectBeat = plain_of s ∷ []
sends s ToProspectReveal = reveal_of s ∷ []
sends s Lower = []
sends s LowerBeat = plain_of s ∷ []
sends s Beat = plain_of s ∷ []
sends s ToPrimary = []
sends s ToSync = []
sends s ToIdle = []
sends s ToDown = []
sends s (Passed b) = pass_of (send_pass b s) ∷ []

-- what the event sends stands afterwards behind all that was sent in the frame before it
abbrev pub Appends : ℕ → Server → Event → Type 0
Appends t s e = sent_by (after t s e) ≡ sent_by s ++ sends s e

-- a server that is about to hear, with its silence timer set if it is a backup
abbrev pub attentive : ℕ → Server → Server
attentive t s = attending t s.role s

-- the timers of the server m in frame t, one after the other
pub record TimersAppend (t : ℕ) (c : State) (m : Server) : Type 0 where
  pub silence : Appends t m (silent t c.period m)
  pub beat : Appends t (after_silent t c.period m) (beating t c.period (after_silent t c.period m))
  pub rise : Appends t (after_beating t c.period (after_silent t c.period m)) (rising t c.period (after_beating t c.period (after_silent t c.period m)))

-- in the frame after c, and in the verbs on c, every event appends
pub record AppendsAll (c : State) : Type 0 where
  -- a frame begins with nothing sent
  pub begins : (i : ℕ) → i < most → sent_by (cleared (place c i)) ≡ []
  -- place i, that has heard what is past, hears h
  pub hearing :
      (i : ℕ) → i < most → (past : List Heartbeat) (h : Heartbeat) (rest : List Heartbeat) → inbox c i ≡ past ++ (h ∷ rest) →
      let s = heard_all (c.frame + 1) (cleared (place c i)) past in Appends (c.frame + 1) (attentive (c.frame + 1) s) (hears s h)
  pub timers : (i : ℕ) → i < most → TimersAppend (c.frame + 1) c (heard_all (c.frame + 1) (cleared (place c i)) (inbox c i))
  -- also of a verb that the channel refuses for another reason than the server's state
  pub verbs : (v : Verb) (a b : ℕ) → Appends c.frame (place c (place_of c a)) (happens c v a b)

-- after any list of calls from a fresh channel
abbrev pub SentInOrder : Type 0
SentInOrder = (t : Table) (n : ℕ) (ks : List Call) → fresh_refusal t n ≡ 0 → AppendsAll (channel_after (fresh t n) ks)

-- and then the servers that sent have different ranks, so that each of them is heard
-- (`AllHearInOrder` of the crate group)
abbrev pub SendersAlwaysDiffer : Type 0
SendersAlwaysDiffer = (t : Table) (n : ℕ) (ks : List Call) → fresh_refusal t n ≡ 0 → SendersDiffer (channel_after (fresh t n) ks)
