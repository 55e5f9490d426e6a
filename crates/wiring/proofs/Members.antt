-- A frame of one member is that of its server in the channel. Assumes nothing.
use mathlib.Core.Bool.{Bool, false}
use mathlib.Core.Path.{◌≡◌, refl, sym, ap, ap₂, ◌∙◌}
use mathlib.Core.List.{List, [], ◌∷◌, ◌++◌, append-nil}
use Prim.Native.Nat.{ℕ, ◌+◌, ◌<◌}
use lib.Dec.{eqb}
use Rattle.lists.proofs.Cases.{other, clash}
use Rattle.heartbeat.specs.declared.Heartbeat.{Heartbeat}
use Rattle.heartbeat.specs.declared.Rank.{Rank}
use Rattle.roles.specs.declared.Role.{Role}
use Rattle.roles.specs.declared.Role.TheVariants.{Down, Idle, Sync, Backup, Prospect, Primary}
use Rattle.roles.specs.declared.Event.{Event}
use Rattle.roles.specs.declared.Event.TheVariants.{Nothing, ToBackup, ToProspectBeat, ToProspectReveal, Lower, LowerBeat, Beat, ToPrimary, ToSync, ToIdle, ToDown, Passed}
use Rattle.periods.specs.declared.Period.{Period}
use Rattle.server.specs.declared.Server.{Server}
use Rattle.server.specs.Server.{rank_of, cleared, sent_by, after}
use Rattle.server.specs.Timers.{silent, beating, rising, silent_in, beating_in, rising_in, after_silent, after_beating, after_rising, timed}
use Rattle.roles.specs.Words.{said}
use Rattle.server.specs.Hearing.{hears, hears_in, attending, heard}
use Rattle.lines.specs.Lines.{lines_of}
use Rattle.front.specs.declared.Front.{Front}
use Rattle.front.specs.Front as fronts
use Rattle.group.specs.declared.State.{State}
use Rattle.group.specs.Table.{is_empty}
use Rattle.group.specs.Hearing.{place, inbox}
use Rattle.server.specs.Hearing.{heard_all}
use Rattle.group.specs.Frame.{heard_lines, timed_lines, hearing, turned, turn_lines, advanced}
use Rattle.group.proofs.Laws.{rank-after, rank-one, rank-heard, rank-ticked}
use Rattle.roles.specs.Roles.{is_active}
use Rattle.reached.proofs.Heard.{rest_all}
use Rattle.reached.proofs.Sound.{Sound}
use Rattle.settling.specs.Sending.{sends, Appends, attentive, TimersAppend}
use Rattle.settling.proofs.Sending.{in_order}
use Rattle.wiring.specs.Members.{Member, nobody, behind, event_lines, hears_each, hears_lines, ticks, ticks_lines, begins, frame_of, frame_lines}
use Rattle.wiring.specs.Same.{member_of}

-- ---- what is sent depends on the rank alone

sent_as : Rank → Event → List Heartbeat
sent_as r Nothing = []
sent_as r ToBackup = []
sent_as r ToProspectBeat = record { bs = 0; priority = r.priority; tiebreaker = r.identity; reveal = 0 } ∷ []
sent_as r ToProspectReveal = record { bs = 0; priority = r.priority; tiebreaker = r.identity; reveal = 1 } ∷ []
sent_as r Lower = []
sent_as r LowerBeat = record { bs = 0; priority = r.priority; tiebreaker = r.identity; reveal = 0 } ∷ []
sent_as r Beat = record { bs = 0; priority = r.priority; tiebreaker = r.identity; reveal = 0 } ∷ []
sent_as r ToPrimary = []
sent_as r ToSync = []
sent_as r ToIdle = []
sent_as r ToDown = []
sent_as r (Passed b) = record { bs = b; priority = r.priority; tiebreaker = r.identity; reveal = 0 } ∷ []

sends_as : (s : Server) (e : Event) → sends s e ≡ sent_as (rank_of s) e
unfolding sent_as
sends_as s Nothing = refl
sends_as s ToBackup = refl
sends_as s ToProspectBeat = refl
sends_as s ToProspectReveal = refl
sends_as s Lower = refl
sends_as s LowerBeat = refl
sends_as s Beat = refl
sends_as s ToPrimary = refl
sends_as s ToSync = refl
sends_as s ToIdle = refl
sends_as s ToDown = refl
sends_as s (Passed b) = refl

pub sends-ranked : (a b : Server) (e : Event) → rank_of a ≡ rank_of b → sends a e ≡ sends b e
sends-ranked a b e q = sends_as a e ∙ ap (λ (r : Rank). sent_as r e) q ∙ sym (sends_as b e)

sent-attending : (t : ℕ) (r : Role) (s : Server) → sent_by (attending t r s) ≡ sent_by s
unfolding sent_by
sent-attending t Down s = refl
sent-attending t Idle s = refl
sent-attending t Sync s = refl
sent-attending t Backup s = refl
sent-attending t Prospect s = refl
sent-attending t Primary s = refl

-- ---- a member that holds a server

module _ (t : ℕ) (p : Period) where
  abbrev pub fronted : Server → Front
  fronted s = record { server = s; frame = t; period = p }

  abbrev pub holds : Server → Member
  holds s = record { front = fronted s; sent = sent_by s }

  -- an event that appends
  pub holds-behind : (s z : Server) (e : Event) (m : Server) → sent_by m ≡ sent_by s → sent_by z ≡ sent_by m ++ sends m e → rank_of z ≡ rank_of m → behind (holds s) (fronted z) e ≡ holds z
  holds-behind s z e m q a r =
      ap (λ (l : List Heartbeat). record { front = fronted z; sent = l }) (ap₂ (λ (x y : List Heartbeat). x ++ y) (sym q) (sends-ranked z m e r) ∙ sym a)

  hears-one : (s : Server) (h : Heartbeat) → Appends t (attentive t s) (hears s h) → behind (holds s) (fronted (heard t s h).server) (hears s h) ≡ holds (heard t s h).server
  hears-one s h a =
      holds-behind s (heard t s h).server (hears s h) (attentive t s) (sent-attending t s.role s) a (rank-after t (attentive t s) (hears s h))

  pub hears-all :
      (s : Server) (hs : List Heartbeat) →
      ((past : List Heartbeat) (h : Heartbeat) (rest : List Heartbeat) → hs ≡ past ++ (h ∷ rest) → let x = heard_all t s past in Appends t (attentive t x) (hears x h)) →
      hears_each (holds s) hs ≡ holds (heard_all t s hs)
  unfolding hears_each heard_all
  hears-all s [] a = refl
  hears-all s (h ∷ hs) a =
      ap (λ (m : Member). hears_each m hs) (hears-one s h (a [] h hs refl))
      ∙ hears-all (heard t s h).server hs (λ past k rest e. a (h ∷ past) k rest (ap (λ (l : List Heartbeat). h ∷ l) e))

  pub hears-lines : (s : Server) (hs : List Heartbeat) → hears_lines (fronted s) hs ≡ heard_lines t s hs
  unfolding hears_lines heard_lines
  hears-lines s [] = refl
  hears-lines s (h ∷ hs) =
      ap₂ (λ (x y : List ℕ). x ++ y)
      (ap (λ (r : Rank). lines_of t r.identity (said (hears s h))) (rank-one t s h))
      (hears-lines (heard t s h).server hs)

  pub ticks-lines : (i : ℕ) (m : Server) → m.identity ≡ i → ticks_lines (fronted m) ≡ timed_lines t i (timed t p m)
  unfolding ticks_lines timed_lines
  ticks-lines i m e =
      let q : (timed t p m).server.identity ≡ i = ap (λ (r : Rank). r.identity) (rank-ticked p t m) ∙ e in
      ap
      (λ (k : ℕ).
      lines_of t k (said (timed t p m).silent) ++ (lines_of t k (said (timed t p m).beating) ++ lines_of t k (said (timed t p m).rising)))
      q

-- ---- a frame

-- first what is heard, then the timers
pub heard-first : (m : Member) (hs : List Heartbeat) → frame_of m hs ≡ ticks (hears_each (begins m) hs)
unfolding frame_of
heard-first m hs = refl

module _ (c : State) (sound : Sound c) (i : ℕ) (l : i < 16) (e : is_empty (place c i) ≡ false) where
  abbrev now : ℕ
  now = c.frame + 1

  abbrev s : Server
  s = place c i

  holder : begins (member_of c s) ≡ holds now c.period (cleared s)
  holder =
      ap begins (other nobody e)
      ∙ ap (λ (x : List Heartbeat). record { front = fronted now c.period (cleared s); sent = x }) (sym ((in_order c sound).begins i l))

  after-hearing : hears_each (begins (member_of c s)) (inbox c i) ≡ holds now c.period (heard_all now (cleared s) (inbox c i))
  after-hearing =
      ap (λ (m : Member). hears_each m (inbox c i)) holder
      ∙ hears-all now c.period (cleared s) (inbox c i) (λ past h rest q. (in_order c sound).hearing i l past h rest q)

  after-ticks : (m : Server) → TimersAppend now c m → ticks (holds now c.period m) ≡ holds now c.period (timed now c.period m).server
  unfolding ticks after_rising after_beating after_silent
  after-ticks m w =
      let p = c.period in
      let a = after_silent now p m in
      let b = after_beating now p a in
      let z = after_rising now p b in
      let e1 = silent now p m in
      let e2 = beating now p a in
      let e3 = rising now p b in
      let ra : rank_of a ≡ rank_of m = rank-after now m e1 in
      let rb : rank_of b ≡ rank_of a = rank-after now a e2 in
      let rz : rank_of z ≡ rank_of b = rank-after now b e3 in
      ap (λ (x : List Heartbeat). record { front = fronted now p z; sent = x })
      (ap (λ (x : List Heartbeat). ((sent_by m ++ x) ++ sends z e2) ++ sends z e3) (sends-ranked z m e1 (rz ∙ rb ∙ ra))
      ∙ ap (λ (x : List Heartbeat). (x ++ sends z e2) ++ sends z e3) (sym w.silence)
      ∙ ap (λ (x : List Heartbeat). (sent_by a ++ x) ++ sends z e3) (sends-ranked z a e2 (rz ∙ rb))
      ∙ ap (λ (x : List Heartbeat). x ++ sends z e3) (sym w.beat)
      ∙ ap (λ (x : List Heartbeat). sent_by b ++ x) (sends-ranked z b e3 rz)
      ∙ sym w.rise)

  -- the identity stays
  same-identity : (turned c now i s).identity ≡ s.identity
  unfolding turned hearing
  same-identity =
      ap (λ (r : Rank). r.identity) (rank-ticked c.period now (heard_all now (cleared s) (inbox c i)) ∙ rank-heard now (cleared s) (inbox c i))

  pub frame_is : frame_of (member_of c s) (inbox c i) ≡ member_of (advanced c) (turned c now i s)
  unfolding turned hearing advanced
  frame_is =
      heard-first (member_of c s) (inbox c i)
      ∙ ap ticks after-hearing
      ∙ after-ticks (heard_all now (cleared s) (inbox c i)) ((in_order c sound).timers i l)
      ∙ sym (other nobody (ap (λ (n : ℕ). eqb n 0) same-identity ∙ e))

  pub lines_are : frame_lines (member_of c s) (inbox c i) ≡ turn_lines c now i s
  unfolding frame_lines turn_lines hearing
  lines_are =
      ap₂ (λ (x y : List ℕ). x ++ y)
      (ap (λ (m : Member). hears_lines (begins m).front (inbox c i)) (other nobody e) ∙ hears-lines now c.period (cleared s) (inbox c i))
      (ap (λ (m : Member). ticks_lines m.front) after-hearing
      ∙ ticks-lines now c.period s.identity (heard_all now (cleared s) (inbox c i))
      (ap (λ (r : Rank). r.identity) (rank-heard now (cleared s) (inbox c i))))

-- ---- a place with no server

quiet-hears : (r : Role) (x : Server) (h : Heartbeat) → is_active r ≡ false → hears_in r x h ≡ Nothing
unfolding is_active
quiet-hears Down x h a = refl
quiet-hears Idle x h a = refl
quiet-hears Sync x h a = refl
quiet-hears Backup x h a = absurd (clash refl a)
quiet-hears Prospect x h a = absurd (clash refl a)
quiet-hears Primary x h a = absurd (clash refl a)

quiet-ticks : (r : Role) (due : Bool) → is_active r ≡ false → (silent_in r due ≡ Nothing) × (beating_in r due ≡ Nothing) × (rising_in r due ≡ Nothing)
unfolding is_active
quiet-ticks Down due a = (refl, refl, refl)
quiet-ticks Idle due a = (refl, refl, refl)
quiet-ticks Sync due a = (refl, refl, refl)
quiet-ticks Backup due a = absurd (clash refl a)
quiet-ticks Prospect due a = absurd (clash refl a)
quiet-ticks Primary due a = absurd (clash refl a)

quiet_heard_lines : (t : ℕ) (x : Server) (hs : List Heartbeat) → is_active x.role ≡ false → heard_lines t x hs ≡ []
unfolding heard_lines lines_of heard_all
quiet_heard_lines t x [] a = refl
quiet_heard_lines t x (h ∷ hs) a =
    ap₂ (λ (y z : List ℕ). y ++ z)
    (ap (λ (v : Event). lines_of t x.identity (said v)) (quiet-hears x.role x h a))
    (ap (λ (y : Server). heard_lines t y hs) (rest_all t x (h ∷ []) a) ∙ quiet_heard_lines t x hs a)

quiet_timed_lines : (t i : ℕ) (p : Period) (x : Server) → is_active x.role ≡ false → timed_lines t i (timed t p x) ≡ []
unfolding timed_lines lines_of after_silent after_beating after
quiet_timed_lines t i p x a =
    let e1 : silent t p x ≡ Nothing = (quiet-ticks x.role _ a).0 in
    let sa : after_silent t p x ≡ x = ap (after t x) e1 in
    let e2 : beating t p x ≡ Nothing = (quiet-ticks x.role _ a).1 in
    let sb : after_beating t p x ≡ x = ap (after t x) e2 in
    let e3 : rising t p x ≡ Nothing = (quiet-ticks x.role _ a).2 in
    ap₂ (λ (y z : List ℕ). y ++ z)
    (ap (λ (v : Event). lines_of t i (said v)) e1)
    (ap₂ (λ (y z : List ℕ). y ++ z)
    (ap (λ (v : Event). lines_of t i (said v)) (ap (beating t p) sa ∙ e2))
    (ap (λ (v : Event). lines_of t i (said v)) (ap (λ (y : Server). rising t p (after_beating t p y)) sa ∙ ap (rising t p) sb ∙ e3)))

pub quiet-lines : (c : State) (t i : ℕ) (x : Server) → is_active x.role ≡ false → turn_lines c t i x ≡ []
unfolding turn_lines hearing
quiet-lines c t i x a =
    ap₂ (λ (y z : List ℕ). y ++ z)
    (quiet_heard_lines t (cleared x) (inbox c i) a)
    (ap (λ (y : Server). timed_lines t x.identity (timed t c.period y)) (rest_all t (cleared x) (inbox c i) a)
    ∙ quiet_timed_lines t x.identity c.period (cleared x) a)

pub identity-turned : (c : State) (t i : ℕ) (x : Server) → (turned c t i x).identity ≡ x.identity
unfolding turned hearing
identity-turned c t i x =
    ap (λ (r : Rank). r.identity) (rank-ticked c.period t (heard_all t (cleared x) (inbox c i)) ∙ rank-heard t (cleared x) (inbox c i))

-- ---- a member whose role hears nothing

quiet-attending : (t : ℕ) (r : Role) (x : Server) → is_active r ≡ false → attending t r x ≡ x
unfolding is_active
quiet-attending t Down x a = refl
quiet-attending t Idle x a = refl
quiet-attending t Sync x a = refl
quiet-attending t Backup x a = absurd (clash refl a)
quiet-attending t Prospect x a = absurd (clash refl a)
quiet-attending t Primary x a = absurd (clash refl a)

abbrev pub Rests : Front → Type 0
Rests f = is_active f.server.role ≡ false

pub rests-one : (f : Front) (h : Heartbeat) → Rests f → ((fronts.hearing f h).front ≡ f) × ((fronts.hearing f h).answer.event ≡ Nothing)
unfolding after
rests-one f h a =
    let s = f.server in
    let e = quiet-hears s.role s h a in (
      ap₂ (λ (x : Server) (y : Event). fronts.with_server (after f.frame x y) f) (quiet-attending f.frame s.role s a) e,
      e,
    )

rests-each : (m : Member) (hs : List Heartbeat) → Rests m.front → hears_each m hs ≡ m
unfolding hears_each
rests-each m [] a = refl
rests-each m (h ∷ hs) a =
    let r = rests-one m.front h a in
    let same : behind m (fronts.hearing m.front h).front (fronts.hearing m.front h).answer.event ≡ m =
    ap₂ (behind m) r.0 r.1 ∙ ap (λ (x : List Heartbeat). record { front = m.front; sent = x }) (append-nil m.sent) in
    ap (λ (x : Member). hears_each x hs) same ∙ rests-each m hs a

rests-lines : (f : Front) (hs : List Heartbeat) → Rests f → hears_lines f hs ≡ []
unfolding hears_lines lines_of
rests-lines f [] a = refl
rests-lines f (h ∷ hs) a =
    let r = rests-one f h a in
    ap₂ (λ (x : Front) (y : Event). event_lines x y ++ hears_lines x hs) r.0 r.1 ∙ rests-lines f hs a

-- whatever comes to it, its frame is the same
pub frame-rests : (m : Member) (hs hs' : List Heartbeat) → Rests m.front → (frame_of m hs ≡ frame_of m hs') × (frame_lines m hs ≡ frame_lines m hs')
unfolding frame_lines
frame-rests m hs hs' a =
    let each = rests-each (begins m) hs a ∙ sym (rests-each (begins m) hs' a) in (
      heard-first m hs ∙ ap ticks each ∙ sym (heard-first m hs'),
      ap₂ (λ (x : List ℕ) (y : Member). x ++ ticks_lines y.front) (rests-lines (begins m).front hs a ∙ sym (rests-lines (begins m).front hs' a)) each,
    )
