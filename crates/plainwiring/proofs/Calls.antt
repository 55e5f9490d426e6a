-- A frame and an entry by the calls of playout are those of the member that the struct stands for.
-- Assumes nothing.
use mathlib.Core.Bool.{Bool, true, false, not, ◌||◌}
use mathlib.Core.Path.{◌≡◌, refl, sym, ap, ap₂, subst, ◌∙◌}
use mathlib.Core.Logic.{◌⊎◌, inl, inr}
use mathlib.Core.List.{List, [], ◌∷◌, ◌++◌, map, append-nil, append_assoc, Memᴰ}
use Prim.Native.Nat.{ℕ, suc}
use native.Mathlib.Omega.{arith}
use borrow.Author.Tests.{eq-eqb, ne_eqb}
use lib.Dec.{eqb}
use Rattle.lists.specs.Choice.{choose}
use Rattle.lists.proofs.Cases.{tested, equal, chosen, other, and_true, and_right, refuted, on, clash, by_choice}
use Rattle.refusal.specs.Answer.{Answer}
use Rattle.heartbeat.specs.declared.Heartbeat.{Heartbeat}
use Rattle.heartbeat.specs.declared.Rank.{Rank}
use Rattle.roles.specs.declared.Role.{Role}
use Rattle.roles.specs.declared.Role.TheVariants.{Down, Idle, Sync, Backup, Prospect, Primary}
use Rattle.roles.specs.declared.Event.{Event}
use Rattle.roles.specs.declared.Event.TheVariants.{Nothing, ToBackup, ToProspectBeat, ToProspectReveal, Lower, LowerBeat, Beat, ToPrimary, ToSync, ToIdle, ToDown, Passed}
use Rattle.roles.specs.declared.Verb.{Verb}
use Rattle.roles.specs.declared.Verb.TheVariants.{Start, Ready, Unready, Pass, Crash, Restart, Cut, Mend}
use Rattle.roles.specs.Verbs.{entering, verb_event, verb_happens, verb_number}
use Rattle.roles.specs.Words.{said}
use Rattle.periods.specs.declared.Period.{Period}
use Rattle.periods.specs.Period.{silence_limit, prospect_limit, beat_limit}
use Rattle.server.specs.declared.Server.{Server}
use Rattle.server.specs.Server.{after}
use Rattle.server.specs.Hearing.{hears_in, backup_hears, prospect_hears, primary_hears}
use Rattle.server.specs.Timers.{aged, silent, beating, rising, silent_in, beating_in, rising_in, after_silent, after_beating}
use Rattle.server.specs.Verbs.{verb_answer}
use Rattle.lines.specs.Lines.{lines_of}
use Rattle.front.specs.declared.Front.{Front}
use Rattle.front.specs.Front.{goes_on, risen, hearing, timing, happens}
use Rattle.group.proofs.Laws.{rank-after}
use Rattle.settling.specs.Sending.{sends}
use Rattle.plain.specs.declared.PlainFront.{PlainFront}
use Rattle.plain.specs.declared.PlainHeartbeat.{PlainHeartbeat}
use Rattle.plain.specs.Numbers.{event_number, event_to, event_of, verb_of, is_period, period_of}
use Rattle.plain.specs.Plain.{is_front, front_of, plain_front, is_heartbeat, heartbeat_of, plain_heartbeat}
use Rattle.plain.proofs.Laws.{laws}
use Rattle.playout.specs.declared.FrontHeard.{FrontHeard}
use Rattle.playout.specs.declared.FrontTimed.{FrontTimed}
use Rattle.playout.specs.declared.Sending.{Sending}
use Rattle.playout.specs.Front.{begin_number, Hears, heard_numbers, not_heard, Ticks, timed_numbers, not_timed, after_verb, act_number, sending_of, is_sent, front_sends}
use Rattle.playout.specs.Writing.{front_lines}
use Rattle.wiring.specs.Members.{Member, behind, event_lines, begins, hears_each, hears_lines, ticks, ticks_lines, frame_of, frame_lines, acts, acts_lines}
use Rattle.wiring.proofs.Members.{Rests, rests-one}
use Rattle.plainwiring.specs.Calls.{PlainMember, sent_in, HearsAll, done, hear, FrameCalls, frame_goes, frame_over, passed_to, ActCalls}
use Rattle.plainwiring.specs.Group.{member_from}

-- ---- decoding

period_in : (n : ℕ) → is_period (period_of n).frames ≡ true
unfolding period_of
period_in n = by_choice (λ (q : Period). is_period q.frames ≡ true) (is_period n) (λ e. e) (λ e. refl)

back : (q : PlainFront) (f : Front) → q ≡ plain_front f → is_period f.period.frames ≡ true → (is_front q ≡ true) × (front_of q ≡ f)
back q f e i = let b = laws.back.front f i in (ap is_front e ∙ b.decodes, ap front_of e ∙ b.same)

pub there_and_back : (l : List Heartbeat) → map heartbeat_of (map plain_heartbeat l) ≡ l
there_and_back [] = refl
there_and_back (h ∷ l) = ap (λ (r : List Heartbeat). h ∷ r) (there_and_back l)

pub map-append : (a b : List PlainHeartbeat) → map heartbeat_of (a ++ b) ≡ map heartbeat_of a ++ map heartbeat_of b
map-append [] b = refl
map-append (h ∷ a) b = ap (λ (r : List Heartbeat). heartbeat_of h ∷ r) (map-append a b)

-- ---- an event by its number, with the identity passed to

sent-plain : (s : Server) (e : Event) → choose (eqb (sending_of (sends s e)).count 1) ((sending_of (sends s e)).heartbeat ∷ []) [] ≡ map plain_heartbeat (sends s e)
unfolding choose
sent-plain s Nothing = refl
sent-plain s ToBackup = refl
sent-plain s ToProspectBeat = refl
sent-plain s ToProspectReveal = refl
sent-plain s Lower = refl
sent-plain s LowerBeat = refl
sent-plain s Beat = refl
sent-plain s ToPrimary = refl
sent-plain s ToSync = refl
sent-plain s ToIdle = refl
sent-plain s ToDown = refl
sent-plain s (Passed b) = refl

-- the event e can be asked for with this identity
pub record Told (e : Event) (to : ℕ) : Type 0 where
  pub passes : event_to e ≡ to
  pub sent : is_sent (event_number e) to ≡ true

module _ (q : PlainFront) (f : Front) (is : is_front q ≡ true) (of : front_of q ≡ f) (e : Event) (to n : ℕ) (num : n ≡ event_number e) (told : Told e to) where
  event-is : event_of n to ≡ e
  event-is = ap₂ event_of num (sym told.passes) ∙ (laws.back.event e).same

  sent_is : map heartbeat_of (sent_in q n to) ≡ sends f.server e
  unfolding front_sends
  sent_is =
      let s : front_sends q n to ≡ sending_of (sends f.server e) =
      chosen _ (and_true is (ap (λ (m : ℕ). is_sent m to) num ∙ told.sent)) ∙ ap₂ (λ (x : Front) (y : Event). sending_of (sends x.server y)) of event-is in
      ap (λ (x : Sending). map heartbeat_of (choose (eqb x.count 1) (x.heartbeat ∷ []) [])) s
      ∙ ap (map heartbeat_of) (sent-plain f.server e)
      ∙ there_and_back (sends f.server e)

-- the lines of an event, whoever is passed to
lines-of : (e : Event) → said (event_of (event_number e) 0) ≡ said e
unfolding event_of choose
lines-of Nothing = refl
lines-of ToBackup = refl
lines-of ToProspectBeat = refl
lines-of ToProspectReveal = refl
lines-of Lower = refl
lines-of LowerBeat = refl
lines-of Beat = refl
lines-of ToPrimary = refl
lines-of ToSync = refl
lines-of ToIdle = refl
lines-of ToDown = refl
lines-of (Passed b) = refl

lines-is : (q : PlainFront) (f : Front) → front_of q ≡ f → (e : Event) (n : ℕ) → n ≡ event_number e → front_lines q n ≡ event_lines f e
lines-is q f of e n num =
    ap (λ (m : ℕ). lines_of q.frame q.server.identity (said (event_of m 0))) num
    ∙ ap (lines_of q.frame q.server.identity) (lines-of e)
    ∙ ap (λ (x : Front). lines_of x.frame x.server.identity (said e)) of

-- ---- hearing and timers pass to nobody

hears-none : (r : Role) (s : Server) (h : Heartbeat) → Told (hears_in r s h) 0
unfolding backup_hears prospect_hears primary_hears
hears-none Down s h = record { passes = refl; sent = refl }
hears-none Idle s h = record { passes = refl; sent = refl }
hears-none Sync s h = record { passes = refl; sent = refl }
hears-none Backup s h =
    by_choice (λ (e : Event). Told e 0) _ (λ x. record { passes = refl; sent = refl })
    (λ x. by_choice (λ (e : Event). Told e 0) _ (λ y. record { passes = refl; sent = refl }) (λ y. record { passes = refl; sent = refl }))
hears-none Prospect s h =
    by_choice (λ (e : Event). Told e 0) _ (λ x. record { passes = refl; sent = refl })
    (λ x. by_choice (λ (e : Event). Told e 0) _ (λ y. record { passes = refl; sent = refl }) (λ y. record { passes = refl; sent = refl }))
hears-none Primary s h =
    by_choice (λ (e : Event). Told e 0) _ (λ x. record { passes = refl; sent = refl })
    (λ x.
    by_choice (λ (e : Event). Told e 0) _ (λ y. record { passes = refl; sent = refl })
    (λ y. by_choice (λ (e : Event). Told e 0) _ (λ z. record { passes = refl; sent = refl }) (λ z. record { passes = refl; sent = refl })))

-- nothing, or the one event of a timer
timer-none : (t : Bool) (e : Event) → Told e 0 → Told (choose t e Nothing) 0
timer-none t e told = by_choice (λ (x : Event). Told x 0) t (λ _. told) (λ _. record { passes = refl; sent = refl })

silent-none : (r : Role) (t : Bool) → Told (silent_in r t) 0
silent-none Down t = record { passes = refl; sent = refl }
silent-none Idle t = record { passes = refl; sent = refl }
silent-none Sync t = record { passes = refl; sent = refl }
silent-none Backup t = timer-none t ToProspectReveal (record { passes = refl; sent = refl })
silent-none Prospect t = record { passes = refl; sent = refl }
silent-none Primary t = record { passes = refl; sent = refl }

beating-none : (r : Role) (t : Bool) → Told (beating_in r t) 0
beating-none Down t = record { passes = refl; sent = refl }
beating-none Idle t = record { passes = refl; sent = refl }
beating-none Sync t = record { passes = refl; sent = refl }
beating-none Backup t = record { passes = refl; sent = refl }
beating-none Prospect t = timer-none t Beat (record { passes = refl; sent = refl })
beating-none Primary t = timer-none t Beat (record { passes = refl; sent = refl })

rising_none : (r : Role) (t : Bool) → Told (rising_in r t) 0
rising_none Down t = record { passes = refl; sent = refl }
rising_none Idle t = record { passes = refl; sent = refl }
rising_none Sync t = record { passes = refl; sent = refl }
rising_none Backup t = record { passes = refl; sent = refl }
rising_none Prospect t = timer-none t ToPrimary (record { passes = refl; sent = refl })
rising_none Primary t = record { passes = refl; sent = refl }

-- ---- hearing

-- the heartbeat decodes, or the front hears nothing anyway
abbrev pub MayHear : Front → PlainHeartbeat → Type 0
MayHear f h = (is_heartbeat h ≡ true) ⊎ Rests f

heard-is : (p q : PlainFront) (h : PlainHeartbeat) (r : FrontHeard) → is_front p ≡ true → MayHear (front_of p) h → Hears p h r q → (is_front q ≡ true) × ((front_of q ≡ (hearing (front_of p) (heartbeat_of h)).front) × (r.event ≡ event_number (hearing (front_of p) (heartbeat_of h)).answer.event))
heard-is p q h r i may w =
    on (tested (is_heartbeat h))
    (λ j.
    let t = and_true i j in
    let b = back q (hearing (front_of p) (heartbeat_of h)).front (w.front ∙ chosen p t) (period_in p.period) in
    (b.0, (b.1, ap (λ (x : FrontHeard). x.event) (w.answer ∙ chosen not_heard t))))
    (λ j.
    let t = and_right (is_front p) j in
    let same : q ≡ p = w.front ∙ other (plain_front (hearing (front_of p) (heartbeat_of h)).front) t in
    let rests = rests-one (front_of p) (heartbeat_of h) (on may (λ z. absurd (clash z j)) (λ a. a)) in (
      ap is_front same ∙ i,
      (
        ap front_of same ∙ sym rests.0,
        ap (λ (x : FrontHeard). x.event) (w.answer ∙ other (heard_numbers (hearing (front_of p) (heartbeat_of h)).answer) t) ∙ ap event_number (sym rests.1),
      ),
    ))

pub record HeardAs (m : Member) (hs : List PlainHeartbeat) (z : PlainFront) (s : List PlainHeartbeat) (w : List ℕ) : Type 0 where
  pub decodes : is_front z ≡ true
  pub front : front_of z ≡ (hears_each m (map heartbeat_of hs)).front
  pub sent : m.sent ++ map heartbeat_of s ≡ (hears_each m (map heartbeat_of hs)).sent
  pub lines : w ≡ hears_lines m.front (map heartbeat_of hs)

hears_are : (p : PlainFront) (hs : List PlainHeartbeat) (z : PlainFront) (s : List PlainHeartbeat) (w : List ℕ) (m : Member) → is_front p ≡ true → m.front ≡ front_of p → ((h : PlainHeartbeat) → Memᴰ h hs → MayHear m.front h) → HearsAll p hs z s w → HeardAs m hs z s w
unfolding hears_each hears_lines
hears_are p hs z s w m i e good done = record { decodes = i; front = sym e; sent = append-nil m.sent; lines = refl }
hears_are p hs z s w m i e good (hear {q = q} {h = h} {hs = hs'} {s = s'} {r = r} {w = w'} call more) =
    let a = heard-is p q h r i (subst (λ (x : Front). MayHear x h) e (good h (Memᴰ.head refl))) call in
    let f = (hearing m.front (heartbeat_of h)).front in
    let v = (hearing m.front (heartbeat_of h)).answer.event in
    let of : front_of q ≡ f = a.1.0 ∙ ap (λ (x : Front). (hearing x (heartbeat_of h)).front) (sym e) in
    let num : r.event ≡ event_number v = a.1.1 ∙ ap (λ (x : Front). event_number (hearing x (heartbeat_of h)).answer.event) (sym e) in
    let none : Told v 0 = hears-none m.front.server.role m.front.server (heartbeat_of h) in
    let k = hears_are q hs' z s' w' (behind m f v) a.0 (sym of) (λ g n. goes_on_lem g (good g (Memᴰ.tail n))) more in
    record {
      decodes = k.decodes;
      front = k.front;
      sent =
          ap (λ (l : List Heartbeat). m.sent ++ l) (map-append (sent_in q r.event 0) s')
          ∙ sym (append_assoc m.sent (map heartbeat_of (sent_in q r.event 0)) (map heartbeat_of s'))
          ∙ ap (λ (l : List Heartbeat). (m.sent ++ l) ++ map heartbeat_of s') (sent_is q f a.0 of v 0 r.event num none)
          ∙ k.sent;
      lines = ap₂ (λ (x y : List ℕ). x ++ y) (lines-is q f of v r.event num) k.lines;
    }
  where
    -- a front that rests goes on resting
    goes_on_lem : (g : PlainHeartbeat) → MayHear m.front g → MayHear (hearing m.front (heartbeat_of h)).front g
    goes_on_lem g (inl z) = inl z
    goes_on_lem g (inr a) = inr (subst Rests (sym (rests-one m.front (heartbeat_of h) a).0) a)

-- ---- timers

ticked-is : (p z : PlainFront) (r : FrontTimed) → is_front p ≡ true → Ticks p r z → (is_front z ≡ true) × ((front_of z ≡ (timing (front_of p)).front) × (r ≡ timed_numbers (timing (front_of p)).answer))
ticked-is p z r i w =
    let b = back z (timing (front_of p)).front (w.front ∙ chosen p i) (period_in p.period) in
    (b.0, (b.1, w.answer ∙ chosen not_timed i))

pub record TickedAs (m : Member) (z : PlainFront) (r : FrontTimed) : Type 0 where
  pub decodes : is_front z ≡ true
  pub front : front_of z ≡ (ticks m).front
  pub sent : ((m.sent ++ map heartbeat_of (sent_in z r.silent 0)) ++ map heartbeat_of (sent_in z r.beating 0)) ++ map heartbeat_of (sent_in z r.rising 0) ≡ (ticks m).sent
  pub lines : front_lines z r.silent ++ (front_lines z r.beating ++ front_lines z r.rising) ≡ ticks_lines m.front

ticks_are : (p z : PlainFront) (r : FrontTimed) (m : Member) → is_front p ≡ true → front_of p ≡ m.front → Ticks p r z → TickedAs m z r
unfolding ticks ticks_lines
ticks_are p z r m i e w =
    let a = ticked-is p z r i w in
    let g = m.front in
    let f = (timing g).front in
    let t = (timing g).answer in
    let of : front_of z ≡ f = a.1.0 ∙ ap (λ (x : Front). (timing x).front) e in
    let num : r ≡ timed_numbers t = a.1.1 ∙ ap (λ (x : Front). timed_numbers (timing x).answer) e in
    let n1 = ap (λ (x : FrontTimed). x.silent) num in
    let n2 = ap (λ (x : FrontTimed). x.beating) num in
    let n3 = ap (λ (x : FrontTimed). x.rising) num in
    let s1 = g.server in
    let s2 = after_silent g.frame g.period s1 in
    let s3 = after_beating g.frame g.period s2 in
    let z1 : Told t.silent 0 = silent-none s1.role (aged s1.silence (silence_limit g.period) g.frame) in
    let z2 : Told t.beating 0 = beating-none s2.role (aged s2.beat (beat_limit g.period) g.frame) in
    let z3 : Told t.rising 0 = rising_none s3.role (aged s3.prospect (prospect_limit g.period) g.frame) in
    let q1 = sent_is z f a.0 of t.silent 0 r.silent n1 z1 in
    let q2 = sent_is z f a.0 of t.beating 0 r.beating n2 z2 in
    let q3 = sent_is z f a.0 of t.rising 0 r.rising n3 z3 in
    record {
      decodes = a.0;
      front = of;
      sent =
          ap (λ (l : List Heartbeat). ((m.sent ++ l) ++ map heartbeat_of (sent_in z r.beating 0)) ++ map heartbeat_of (sent_in z r.rising 0)) q1
          ∙ ap₂ (λ (x y : List Heartbeat). ((m.sent ++ sends f.server t.silent) ++ x) ++ y) q2 q3;
      lines =
          ap₂ (λ (x y : List ℕ). x ++ y) (lines-is z f of t.silent r.silent n1)
          (ap₂ (λ (x y : List ℕ). x ++ y) (lines-is z f of t.beating r.beating n2) (lines-is z f of t.rising r.rising n3));
    }

-- ---- a frame

pub begin-number : (p : PlainFront) → is_front p ≡ true → begin_number p ≡ choose (goes_on (front_of p)) 0 16
unfolding begin_number
begin-number p i = chosen _ i

pub record FramedAs (m : PlainMember) (hs : List PlainHeartbeat) (m' : PlainMember) (w : List ℕ) : Type 0 where
  pub decodes : is_front m'.front ≡ true
  pub member : member_from m' ≡ frame_of (member_from m) (map heartbeat_of hs)
  pub lines : w ≡ frame_lines (member_from m) (map heartbeat_of hs)

-- where the day has a next frame
pub framed_as : (m m' : PlainMember) (hs : List PlainHeartbeat) (w : List ℕ) → is_front m.front ≡ true → goes_on (front_of m.front) ≡ true → ((h : PlainHeartbeat) → Memᴰ h hs → MayHear (front_of m.front) h) → FrameCalls m hs m' w → FramedAs m hs m' w
unfolding frame_of frame_lines
framed_as m m' hs w i on-goes good (frame_over {n = n} call) =
    absurd (let z : suc n ≡ 0 = call.number ∙ begin-number m.front i ∙ chosen 16 on-goes in omega (arith, z))
framed_as m m' hs w i on-goes good (frame_goes {q = q} {y = y} {z = z} {s = s} {r = r} {w = w'} call heard ticked) =
    let p = m.front in
    let zero = begin-number p i ∙ chosen 16 on-goes in
    let b = back q (risen (front_of p)) (call.front ∙ chosen p (eq-eqb (begin_number p) 0 zero)) (period_in p.period) in
    let start : Member = begins (member_from m) in
    let k = hears_are q hs y s w' start b.0 (sym b.1) good heard in
    let mid : Member = hears_each start (map heartbeat_of hs) in
    let a = ticks_are y z r mid k.decodes k.front ticked in
    let s1 = sent_in z r.silent 0 in
    let s2 = sent_in z r.beating 0 in
    let s3 = sent_in z r.rising 0 in
    record {
      decodes = a.decodes;
      member =
          ap₂ (λ (f : Front) (l : List Heartbeat). record { front = f; sent = l }) a.front
          (map-append ((s ++ s1) ++ s2) s3
          ∙ ap (λ (l : List Heartbeat). l ++ map heartbeat_of s3) (map-append (s ++ s1) s2 ∙ ap (λ (l : List Heartbeat). l ++ map heartbeat_of s2) (map-append s s1))
          ∙ ap (λ (l : List Heartbeat). ((l ++ map heartbeat_of s1) ++ map heartbeat_of s2) ++ map heartbeat_of s3) k.sent
          ∙ a.sent);
      lines = ap₂ (λ (x y : List ℕ). x ++ y) k.lines a.lines;
    }

-- and where it has none: the same member, and no line
pub stays_as : (m m' : PlainMember) (hs : List PlainHeartbeat) (w : List ℕ) → is_front m.front ≡ true → goes_on (front_of m.front) ≡ false → FrameCalls m hs m' w → (m' ≡ m) × (w ≡ [])
stays_as m m' hs w i over (frame_goes call heard ticked) =
    absurd (let z : ◌≡◌ {A = ℕ} 0 16 = call.number ∙ begin-number m.front i ∙ other 0 over in omega (arith, z))
stays_as m m' hs w i over (frame_over call) =
    let p = m.front in
    let late : eqb (begin_number p) 0 ≡ false = ne_eqb (begin_number p) 0 (λ z. omega (arith, sym z ∙ begin-number p i ∙ other 0 over)) in
    (ap (λ (x : PlainFront). record { front = x; sent = m.sent }) (call.front ∙ other (plain_front (risen (front_of p))) late), refl)

-- ---- an entry

told-entering : (k : ℕ) → Told (entering k) 0
unfolding entering
told-entering k =
    by_choice (λ (e : Event). Told e 0) (eqb k 0) (λ _. record { passes = refl; sent = refl })
    (λ _. by_choice (λ (e : Event). Told e 0) (eqb k 1) (λ _. record { passes = refl; sent = refl })
    (λ _. by_choice (λ (e : Event). Told e 0) (eqb k 2) (λ _. record { passes = refl; sent = refl }) (λ _. record { passes = refl; sent = refl })))

-- whoever is passed to is somebody
somebody : (b : ℕ) (s : Server) → (verb_answer Pass b s).number ≡ 0 → eqb b 0 ≡ false
unfolding verb_answer
somebody b s e =
    refuted (eqb b 0)
    (λ z.
    let named : (eqb s.identity 0 || eqb b 0) ≡ true = or_right (eqb s.identity 0) z in
    omega (arith, sym (ap (λ (a : Answer). a.number) (chosen _ named)) ∙ e))
  where
    or_right : (t : Bool) {u : Bool} → u ≡ true → (t || u) ≡ true
    or_right true e = refl
    or_right false e = e

told-verb : (v : Verb) (b k : ℕ) (s : Server) → (verb_answer v b s).number ≡ 0 → Told (verb_event v b k) (passed_to v b)
told-verb Start b k s e = told-entering k
told-verb Ready b k s e = told-entering k
told-verb Unready b k s e = told-entering k
told-verb Pass b k s e = record { passes = refl; sent = ap (λ (t : Bool). not t) (somebody b s e) }
told-verb Crash b k s e = told-entering k
told-verb Restart b k s e = told-entering k
told-verb Cut b k s e = record { passes = refl; sent = refl }
told-verb Mend b k s e = record { passes = refl; sent = refl }

told-happens : (v : Verb) (b : ℕ) (f : Front) → (verb_answer v b f.server).number ≡ 0 → Told (happens v b f) (passed_to v b)
unfolding verb_happens
told-happens v b f e =
    let a = verb_answer v b f.server in
    subst (λ (x : Event). Told x (passed_to v b)) (sym (chosen Nothing (eq-eqb a.number 0 e))) (told-verb v b _ f.server e)

pub record ActedAs (m : PlainMember) (v : Verb) (b n : ℕ) (m' : PlainMember) (w : List ℕ) : Type 0 where
  pub decodes : is_front m'.front ≡ true
  pub number : n ≡ (verb_answer v b (front_of m.front).server).number
  pub taken : n ≡ 0 → (member_from m' ≡ acts v b (member_from m)) × (w ≡ acts_lines v b (front_of m.front))
  pub refused : (n ≡ 0 → ⊥) → (m' ≡ m) × (w ≡ [])

module _ (m m' : PlainMember) (v : Verb) (b n : ℕ) (w : List ℕ) (i : is_front m.front ≡ true) (c : ActCalls m v b n m' w) where
  abbrev p : PlainFront
  p = m.front

  abbrev f : Front
  f = front_of p

  abbrev own : ℕ
  own = verb_number v

  as_verb : verb_of own ≡ v
  as_verb = (laws.back.verb v).same

  act-number : act_number p own b ≡ (verb_answer v b f.server).number
  unfolding act_number
  act-number = chosen _ (and_true i (laws.back.verb v).decodes) ∙ ap (λ (x : Verb). (verb_answer x b f.server).number) as_verb

  its_number : n ≡ act_number p own b
  its_number = c.number ∙ c.call.number

  acted-taken : n ≡ 0 → (is_front m'.front ≡ true) × ((member_from m' ≡ acts v b (member_from m)) × (w ≡ acts_lines v b f))
  unfolding acts acts_lines
  acted-taken z =
      let t = eq-eqb (act_number p own b) 0 (sym its_number ∙ z) in
      let e = happens v b f in
      let g = after_verb v b f in
      let k = back c.after g (c.call.front ∙ chosen p t ∙ ap (λ (x : Verb). plain_front (after_verb x b f)) as_verb) (period_in p.period) in
      let num : c.answer.event ≡ event_number e = c.call.event ∙ chosen 0 t ∙ ap (λ (x : Verb). event_number (happens x b f)) as_verb in
      let told = told-happens v b f (sym act-number ∙ sym its_number ∙ z) in
      let s = sent_in c.after c.answer.event (passed_to v b) in (
        ap (λ (x : PlainMember). is_front x.front) c.member ∙ k.0,
        (
          ap member_from c.member
              ∙ ap₂ (λ (x : Front) (l : List Heartbeat). record { front = x; sent = l }) k.1
              (map-append m.sent (choose (eqb n 0) s [])
              ∙ ap (λ (l : List PlainHeartbeat). map heartbeat_of m.sent ++ map heartbeat_of l) (chosen [] (eq-eqb n 0 z))
              ∙ ap (λ (l : List Heartbeat). map heartbeat_of m.sent ++ l) (sent_is c.after g k.0 k.1 e (passed_to v b) c.answer.event num told)),
          c.lines
              ∙ chosen [] (eq-eqb n 0 z)
              ∙ lines-is c.after g k.1 e c.answer.event num
              ∙ ap (λ (r : Rank). lines_of f.frame r.identity (said e)) (rank-after f.frame f.server e),
        ),
      )

  acted-refused : (n ≡ 0 → ⊥) → (m' ≡ m) × (w ≡ [])
  acted-refused z =
      let t = ne_eqb (act_number p own b) 0 (λ q. z (its_number ∙ q)) in
      let late = ne_eqb n 0 z in (
        c.member
            ∙ ap₂ (λ (x : PlainFront) (l : List PlainHeartbeat). record { front = x; sent = l }) (c.call.front ∙ other _ t)
            (ap (λ (l : List PlainHeartbeat). m.sent ++ l) (other _ late) ∙ append-nil m.sent),
        c.lines ∙ other _ late,
      )

  pub acted_as_lem : ActedAs m v b n m' w
  acted_as_lem =
      record {
        decodes = on (equal n 0) (λ z. (acted-taken z).0) (λ z. ap (λ (x : PlainMember). is_front x.front) (acted-refused z).0 ∙ i);
        number = its_number ∙ act-number;
        taken = λ z. (acted-taken z).1;
        refused = acted-refused;
      }
