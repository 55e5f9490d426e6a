-- What a playout server does in a frame and with an entry, by the contracts of `playout_front_*`.
use Rattle.std.specs.Prelude.{List, [], ◌∷◌, ◌++◌, ◌≡◌, ℕ, suc, eqb}
use Rattle.lists.specs.Choice.{choose}
use Rattle.roles.specs.declared.Verb.{Verb}
use Rattle.roles.specs.declared.Verb.TheVariants.{Start, Ready, Unready, Pass, Crash, Restart, Cut, Mend}
use Rattle.roles.specs.Verbs.{verb_number}
use Rattle.plain.specs.declared.PlainFront.{PlainFront}
use Rattle.plain.specs.declared.PlainHeartbeat.{PlainHeartbeat}
use Rattle.plain.specs.Plain.{no_front}
use Rattle.playout.specs.declared.FrontHeard.{FrontHeard}
use Rattle.playout.specs.declared.FrontTimed.{FrontTimed}
use Rattle.playout.specs.declared.FrontActed.{FrontActed}
use Rattle.playout.specs.Front.{Begins, Hears, Ticks, Acts, front_sends}
use Rattle.playout.specs.Writing.{front_lines}

-- the struct, and what was sent in the present frame, in the order sent
pub record PlainMember : Type 0 where
  pub front : PlainFront
  pub sent : List PlainHeartbeat

-- a place of a group with no server in it
abbrev pub no_member : PlainMember
no_member = record { front = no_front; sent = [] }

-- `playout_front_sends(front, event, to)`: "If `count` is 1, send `heartbeat`"
abbrev pub sent_in : PlainFront → ℕ → ℕ → List PlainHeartbeat
sent_in p n to = let s = front_sends p n to in choose (eqb s.count 1) (s.heartbeat ∷ []) []

-- ---- one frame

-- `playout_front_hear` for each heartbeat of the list: the front p before it and z after it, what
-- was sent, and the lines
pub data HearsAll : PlainFront → List PlainHeartbeat → PlainFront → List PlainHeartbeat → List ℕ → Type 0 where
  done : {p : PlainFront} → HearsAll p [] p [] []
  hear :
      {p q z : PlainFront} {h : PlainHeartbeat} {hs s : List PlainHeartbeat} {r : FrontHeard} {w : List ℕ} → Hears p h r q →
      HearsAll q hs z s w → HearsAll p (h ∷ hs) z (sent_in q r.event 0 ++ s) (front_lines q r.event ++ w)

-- `playout_front_begin`, `playout_front_hear` for each of hs, `playout_front_tick`; where begin is
-- refused, nothing more: the member m before it and m' after it, and the lines w
pub data FrameCalls : PlainMember → List PlainHeartbeat → PlainMember → List ℕ → Type 0 where
  frame_goes :
      {m : PlainMember} {q y z : PlainFront} {hs s : List PlainHeartbeat} {r : FrontTimed} {w : List ℕ} → Begins m.front 0 q → HearsAll q hs y s w → Ticks y r z →
      FrameCalls m hs
      (record { front = z; sent = ((s ++ sent_in z r.silent 0) ++ sent_in z r.beating 0) ++ sent_in z r.rising 0 })
      (w ++ (front_lines z r.silent ++ (front_lines z r.beating ++ front_lines z r.rising)))
  frame_over :
      {m : PlainMember} {n : ℕ} {q : PlainFront} {hs : List PlainHeartbeat} → Begins m.front (suc n) q →
      FrameCalls m hs (record { front = q; sent = m.sent }) []

-- ---- an entry

-- "`to` is the identity passed to, for the event of a `pass`, .. else 0"
abbrev pub passed_to : Verb → ℕ → ℕ
passed_to Start b = 0
passed_to Ready b = 0
passed_to Unready b = 0
passed_to Pass b = b
passed_to Crash b = 0
passed_to Restart b = 0
passed_to Cut b = 0
passed_to Mend b = 0

-- `playout_front_act`: it gets the number n; where that is 0, its event is sent and printed
pub record ActCalls (m : PlainMember) (v : Verb) (b n : ℕ) (m' : PlainMember) (w : List ℕ) : Type 0 where
  pub answer : FrontActed
  pub after : PlainFront
  pub call : Acts m.front (verb_number v) b answer after
  pub number : n ≡ answer.number
  pub member : m' ≡ record { front = after; sent = m.sent ++ choose (eqb n 0) (sent_in after answer.event (passed_to v b)) [] }
  pub lines : w ≡ choose (eqb n 0) (front_lines after answer.event) []
