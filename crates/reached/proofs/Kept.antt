-- What every frame of a server keeps, whatever it hears. Assumes nothing.
use mathlib.Core.Bool.{true, false}
use mathlib.Core.Path.{◌≡◌, refl, sym, ap, subst, ◌∙◌}
use mathlib.Core.List.{List, [], ◌∷◌}
use Prim.Native.Nat.{ℕ, ◌+◌, ◌<◌, ◌≤◌}
use native.Mathlib.Omega.{arith}
use borrow.Author.Tests.{eq-eqb, ne_eqb}
use Rattle.lists.specs.Lists.{every}
use Rattle.lists.proofs.Cases.{tested, equal, chosen, other, fst_true, snd_true, on, clash}
use Rattle.heartbeat.specs.declared.Heartbeat.{Heartbeat}
use Rattle.heartbeat.specs.declared.Rank.{Rank}
use Rattle.heartbeat.specs.Rank.{higher}
use Rattle.heartbeat.specs.Heartbeat.{sender}
use Rattle.roles.specs.declared.Role.{Role}
use Rattle.roles.specs.declared.Role.TheVariants.{Down, Idle, Sync, Backup, Prospect, Primary}
use Rattle.roles.specs.declared.Event.{Event}
use Rattle.periods.specs.declared.Period.{Period}
use Rattle.server.specs.declared.Server.{Server}
use Rattle.periods.specs.Period.{silence_limit, prospect_limit, beat_limit}
use Rattle.server.specs.Server.{rank_of, in_role, set_silence, set_beat, send_beat, after}
use Rattle.server.specs.Hearing.{from_higher, from_lower, for_this, backup_hears, prospect_hears, primary_hears, attending, heard, heard_all}
use Rattle.server.specs.Timers.{aged, timed}
use Rattle.group.proofs.Laws.{rank-one, rank-heard}
use Rattle.roles.specs.Roles.{is_active, is_beating}
use Rattle.traces.proofs.Ways as ways
use Rattle.group.proofs.Inbox.{Falls}
use Rattle.reached.proofs.Heard.{hear_as, lower-all, higher_no_call}
use Rattle.server.proofs.Hearing.{heard-append}
use Rattle.reached.proofs.Ticks.{ticks-rest, ticks-wait, woken, ticks-wake, beaten, ticks-primary, ticks_prospect, ticks_ripe}
use Rattle.reached.proofs.Young.{Due, Young, IsHearing, nothing, backs, beats, reveals, notes, notes-replies, answers, hears-only}

-- ---- after the timers of a frame, timers are young

module _ (p : Period) (t : ℕ) (some : 1 ≤ p.frames) where
  -- the beat timer of a beater
  beaten-young : (m : Server) → m.beat ≤ t → t ≤ m.beat + beat_limit p → ((beaten p t m).beat ≤ t) × (t < (beaten p t m).beat + beat_limit p)
  beaten-young m h d =
      on (equal (m.beat + beat_limit p) t)
      (λ e.
      let b : (beaten p t m).beat ≡ t = ap (λ (x : Server). x.beat) (chosen {a = send_beat (set_beat t m)} m (eq-eqb (m.beat + beat_limit p) t e)) in
      (omega arith, omega arith))
      (λ e.
      let b : (beaten p t m).beat ≡ m.beat = ap (λ (x : Server). x.beat) (other {b = m} (send_beat (set_beat t m)) (ne_eqb (m.beat + beat_limit p) t e)) in
      (omega arith, omega arith))

  -- what a due beat leaves alone
  pub beaten-keeps : {A : Type 0} (f : Server → A) (m : Server) → f (send_beat (set_beat t m)) ≡ f m → f (beaten p t m) ≡ f m
  beaten-keeps f m e =
      on (tested (aged m.beat (beat_limit p) t))
      (λ q. ap f (chosen {a = send_beat (set_beat t m)} m q) ∙ e)
      (λ q. ap f (other {b = m} (send_beat (set_beat t m)) q))

  pub young-ticked : (m : Server) → Due p t m → Young p t (timed t p m).server
  unfolding is_beating
  young-ticked m d =
      on (tested (is_active m.role))
      (λ a.
      on (ways.backs_or_beats m.role a)
      (λ e.
      on (equal (m.silence + silence_limit p) t)
      (λ q. rw (ticks-wake p t some m e q)
      (record {
        silence-past = d.silence-past;
        beat-past = omega arith;
        prospect_past = omega arith;
        silence-young = λ z. absurd (clash refl (ap is_beating z));
        beat-young = λ _. omega arith;
        prospect_young = λ _. omega arith;
      }))
      (λ q. rw (ticks-wait p t m e q)
      (record {
        silence-past = d.silence-past;
        beat-past = d.beat-past;
        prospect_past = d.prospect_past;
        silence-young = λ z. let h = d.silence-due z in omega arith;
        beat-young = λ z. absurd (clash z (ap is_beating e));
        prospect_young = λ z. absurd (clash (ap is_beating z) (ap is_beating e));
      })))
      (λ b.
      on (ways.beating m.role b)
      (λ e.
      let y = beaten-young m d.beat-past (d.beat-due b) in
      on (equal (m.prospect + prospect_limit p) t)
      (λ q. rw (ticks_ripe p t m e q)
      (record {
        silence-past = rw (beaten-keeps (λ x. x.silence) m refl) d.silence-past;
        beat-past = y.0;
        prospect_past = rw (beaten-keeps (λ x. x.prospect) m refl) d.prospect_past;
        silence-young = λ z. absurd (clash refl (ap is_beating z));
        beat-young = λ _. y.1;
        prospect_young = λ z. absurd (let k : ◌≡◌ {A = ℕ} 0 1 = cc in omega arith);
      }))
      (λ q. rw (ticks_prospect p t m e q)
      (record {
        silence-past = rw (beaten-keeps (λ x. x.silence) m refl) d.silence-past;
        beat-past = y.0;
        prospect_past = rw (beaten-keeps (λ x. x.prospect) m refl) d.prospect_past;
        silence-young = λ z. absurd (clash (ap is_beating (beaten-keeps (λ x. x.role) m refl) ∙ b) (ap is_beating z));
        beat-young = λ _. y.1;
        prospect_young = λ z. let h = d.prospect_due e in rw (beaten-keeps (λ x. x.prospect) m refl) (omega arith);
      })))
      (λ e.
      let y = beaten-young m d.beat-past (d.beat-due b) in
      rw (ticks-primary p t m e)
      (record {
        silence-past = rw (beaten-keeps (λ x. x.silence) m refl) d.silence-past;
        beat-past = y.0;
        prospect_past = rw (beaten-keeps (λ x. x.prospect) m refl) d.prospect_past;
        silence-young = λ z. absurd (clash (ap is_beating (beaten-keeps (λ x. x.role) m refl) ∙ b) (ap is_beating z));
        beat-young = λ _. y.1;
        prospect_young = λ z. absurd (let f = sym e ∙ (sym (beaten-keeps (λ x. x.role) m refl) ∙ z) in let k : ◌≡◌ {A = ℕ} 0 1 = cc in omega arith);
      }))))
      (λ a. rw (ticks-rest p t m a)
      (record {
        silence-past = d.silence-past;
        beat-past = d.beat-past;
        prospect_past = d.prospect_past;
        silence-young = λ z. absurd (clash (ways.backup_active z) a);
        beat-young = λ z. absurd (clash (ways.beating-active m.role z) a);
        prospect_young = λ z. absurd (clash (ways.beating-active m.role (ways.prospect_beats z)) a);
      }))

-- ---- activity and passes

-- hearing passes to nobody
pass-hearing : (t : ℕ) (s : Server) {e : Event} → IsHearing e → (after t s e).pass ≡ s.pass
unfolding after
pass-hearing t s nothing = refl
pass-hearing t s backs = refl
pass-hearing t s beats = refl
pass-hearing t s reveals = refl
pass-hearing t s notes = refl
pass-hearing t s notes-replies = refl
pass-hearing t s answers = refl

pass-attending : (t : ℕ) (r : Role) (s : Server) → (attending t r s).pass ≡ s.pass
pass-attending t Down s = refl
pass-attending t Idle s = refl
pass-attending t Sync s = refl
pass-attending t Backup s = refl
pass-attending t Prospect s = refl
pass-attending t Primary s = refl

pub pass-heard : (t : ℕ) (s : Server) (hs : List Heartbeat) → (heard_all t s hs).pass ≡ s.pass
unfolding heard_all
pass-heard t s [] = refl
pass-heard t s (h ∷ hs) =
    pass-heard t (heard t s h).server hs ∙ pass-hearing t (attending t s.role s) (hears-only s.role s h) ∙ pass-attending t s.role s

-- hearing leaves an active server active
active-hearing : (t : ℕ) (s : Server) {e : Event} → IsHearing e → is_active s.role ≡ true → is_active (after t s e).role ≡ true
unfolding after is_active
active-hearing t s nothing a = a
active-hearing t s backs a = refl
active-hearing t s beats a = refl
active-hearing t s reveals a = refl
active-hearing t s notes a = a
active-hearing t s notes-replies a = a
active-hearing t s answers a = a

role-attending : (t : ℕ) (r : Role) (s : Server) → (attending t r s).role ≡ s.role
role-attending t Down s = refl
role-attending t Idle s = refl
role-attending t Sync s = refl
role-attending t Backup s = refl
role-attending t Prospect s = refl
role-attending t Primary s = refl

pub active-heard : (t : ℕ) (s : Server) (hs : List Heartbeat) → is_active s.role ≡ true → is_active (heard_all t s hs).role ≡ true
unfolding heard_all
active-heard t s [] a = a
active-heard t s (h ∷ hs) a =
    active-heard t (heard t s h).server hs
    (active-hearing t (attending t s.role s) (hears-only s.role s h) (ap is_active (role-attending t s.role s) ∙ a))

-- ---- by the role: what holds of each closed form of the timers holds after them

pub by-ticks :
    (p : Period) (t : ℕ) → 1 ≤ p.frames → (P : Server → Type 0) (m : Server) →
    P m → P (woken p t m) → (is_beating m.role ≡ true → P (beaten p t m)) → (m.role ≡ Prospect → P (in_role Primary (beaten p t m))) →
    P (timed t p m).server
by-ticks p t some P m keeps wakes beat ripe =
    on (tested (is_active m.role))
    (λ a.
    on (ways.backs_or_beats m.role a)
    (λ e.
    on (equal (m.silence + silence_limit p) t)
    (λ q. rw (ticks-wake p t some m e q) wakes)
    (λ q. rw (ticks-wait p t m e q) keeps))
    (λ b.
    on (ways.beating m.role b)
    (λ e.
    on (equal (m.prospect + prospect_limit p) t)
    (λ q. rw (ticks_ripe p t m e q) (ripe e))
    (λ q. rw (ticks_prospect p t m e q) (beat b)))
    (λ e. rw (ticks-primary p t m e) (beat b))))
    (λ a. rw (ticks-rest p t m a) keeps)

pub pass-ticked : (p : Period) (t : ℕ) → 1 ≤ p.frames → (m : Server) → m.pass ≡ 0 → (timed t p m).server.pass ≡ 0
pass-ticked p t some m e =
    by-ticks p t some (λ s. s.pass ≡ 0) m e e (λ _. beaten-keeps p t some (λ s. s.pass) m refl ∙ e) (λ _. beaten-keeps p t some (λ s. s.pass) m refl ∙ e)

pub active-ticked : (p : Period) (t : ℕ) → 1 ≤ p.frames → (m : Server) → is_active m.role ≡ true → is_active (timed t p m).server.role ≡ true
unfolding is_active
active-ticked p t some m a =
    by-ticks p t some (λ s. is_active s.role ≡ true) m a refl (λ _. ap is_active (beaten-keeps p t some (λ s. s.role) m refl) ∙ a) (λ _. refl)

-- ---- whoever reveals in a frame beats at its end

-- a server that has revealed beats
abbrev pub RevealerBeats : Server → Type 0
RevealerBeats s = s.reveal ≡ true → is_beating s.role ≡ true

reveal_attending : (t : ℕ) (r : Role) (s : Server) → (attending t r s).reveal ≡ s.reveal
reveal_attending t Down s = refl
reveal_attending t Idle s = refl
reveal_attending t Sync s = refl
reveal_attending t Backup s = refl
reveal_attending t Prospect s = refl
reveal_attending t Primary s = refl

-- a server that does not beat, and so has not revealed, whatever it hears
quiet-hearing : (t : ℕ) (s : Server) {e : Event} → IsHearing e → s.reveal ≡ false → RevealerBeats (after t s e)
unfolding after is_beating
quiet-hearing t s nothing f q = absurd (clash q f)
quiet-hearing t s backs f q = absurd (clash q f)
quiet-hearing t s beats f q = refl
quiet-hearing t s reveals f q = refl
quiet-hearing t s notes f q = absurd (clash q f)
quiet-hearing t s notes-replies f q = absurd (clash q f)
quiet-hearing t s answers f q = absurd (clash q f)

pub unrevealed : (s : Server) → RevealerBeats s → is_beating s.role ≡ false → s.reveal ≡ false
unrevealed s r b = on (tested s.reveal) (λ e. absurd (clash (r e) b)) (λ e. e)

quiet_one : (t : ℕ) (s : Server) (h : Heartbeat) → RevealerBeats s → is_beating s.role ≡ false → RevealerBeats (heard t s h).server
quiet_one t s h r b =
    quiet-hearing t (attending t s.role s) (hears-only s.role s h) (reveal_attending t s.role s ∙ unrevealed s r b)

-- who is lower hangs on the rank alone
same_rank : (a b : Server) (hs : List Heartbeat) → rank_of a ≡ rank_of b → every (from_lower a) hs ≡ true → every (from_lower b) hs ≡ true
same_rank a b hs e l = subst (λ (r : Rank). every (λ h. higher r (sender h)) hs ≡ true) e l

-- after heartbeats of lower senders
lower-beats : (t : ℕ) (s : Server) (hs : List Heartbeat) → every (from_lower s) hs ≡ true → RevealerBeats s → RevealerBeats (heard_all t s hs)
unfolding heard_all
lower-beats t s [] l r = r
lower-beats t s (h ∷ hs) l r =
    on (tested (is_beating s.role))
    (λ b. on (lower-all t s (h ∷ hs) b l) (λ e. subst RevealerBeats (sym e) r) (λ e. subst RevealerBeats (sym e) r))
    (λ b.
    lower-beats t (heard t s h).server hs
    (same_rank s (heard t s h).server hs (sym (rank-one t s h)) (snd_true (from_lower s h) (every (from_lower s) hs) l))
    (quiet_one t s h r b))

-- a heartbeat of a higher sender makes nobody reveal
higher_reveal : (t : ℕ) (s : Server) (h : Heartbeat) (r : Role) → s.role ≡ r → from_higher s h ≡ true → (heard t s h).server.reveal ≡ s.reveal
unfolding after backup_hears prospect_hears primary_hears
higher_reveal t s h Down e u = ap (λ (x : Server). x.reveal) (hear_as t s h e)
higher_reveal t s h Idle e u = ap (λ (x : Server). x.reveal) (hear_as t s h e)
higher_reveal t s h Sync e u = ap (λ (x : Server). x.reveal) (hear_as t s h e)
higher_reveal t s h Backup e u =
    ap (λ (x : Server). x.reveal) (hear_as t s h e)
    ∙ on (tested (for_this s h))
    (λ m. ap (λ (v : Event). (after t (set_silence t s) v).reveal) (chosen _ m))
    (λ m. ap (λ (v : Event). (after t (set_silence t s) v).reveal) (other _ m ∙ other _ (higher_no_call s h u)))
higher_reveal t s h Prospect e u = ap (λ (x : Server). x.reveal) (hear_as t s h e) ∙ ap (λ (v : Event). (after t s v).reveal) (chosen _ u)
higher_reveal t s h Primary e u = ap (λ (x : Server). x.reveal) (hear_as t s h e) ∙ ap (λ (v : Event). (after t s v).reveal) (chosen _ u)

highers_reveal : (t : ℕ) (s : Server) (hs : List Heartbeat) → every (from_higher s) hs ≡ true → (heard_all t s hs).reveal ≡ s.reveal
unfolding heard_all
highers_reveal t s [] u = refl
highers_reveal t s (h ∷ hs) u =
    highers_reveal t (heard t s h).server hs
    (subst (λ (r : Rank). every (λ x. higher (sender x) r) hs ≡ true) (sym (rank-one t s h)) (snd_true (from_higher s h) (every (from_higher s) hs) u))
    ∙ higher_reveal t s h s.role refl (fst_true (from_higher s h) (every (from_higher s) hs) u)

-- after all that is heard
pub revealer-heard : (t : ℕ) (s : Server) (hs : List Heartbeat) → Falls s hs → s.reveal ≡ false → RevealerBeats (heard_all t s hs)
revealer-heard t s hs f r =
    let e = ap (heard_all t s) f.parts ∙ heard-append t s f.upper f.under in
    rw e
    (lower-beats t (heard_all t s f.upper) f.under
    (same_rank s (heard_all t s f.upper) f.under (sym (rank-heard t s f.upper)) f.lowers)
    (λ q. absurd (clash q (highers_reveal t s f.upper f.highers ∙ r))))

-- and after the timers
pub revealer-ticked : (p : Period) (t : ℕ) → 1 ≤ p.frames → (m : Server) → RevealerBeats m → RevealerBeats (timed t p m).server
unfolding is_beating
revealer-ticked p t some m r =
    by-ticks p t some RevealerBeats m r (λ _. refl)
    (λ b q. ap is_beating (beaten-keeps p t some (λ s. s.role) m refl) ∙ b)
    (λ _ _. refl)
