-- One server's frame in which BS is nobody's: facts F1 to F9. Assumes nothing.
use mathlib.Core.Bool.{true, false}
use mathlib.Core.Path.{◌≡◌, refl, sym, ap, subst, ◌∙◌}
use mathlib.Core.Logic.{◌⊎◌, inl, inr}
use Prim.Native.Nat.{ℕ, suc, ◌+◌, ◌-◌, ◌<◌, ◌≤◌}
use native.Mathlib.Omega.{arith}
use borrow.Author.Tests.{eq-eqb, ne_eqb}
use Rattle.lists.specs.Choice.{choose}
use Rattle.lists.proofs.Cases.{equal, chosen, other, on}
use Rattle.roles.specs.declared.Role.TheVariants.{Backup, Prospect, Primary}
use Rattle.periods.specs.declared.Period.{Period}
use Rattle.server.specs.declared.Server.{Server}
use Rattle.periods.specs.Period.{silence_limit, prospect_limit, beat_limit}
use Rattle.server.specs.Server.{in_role, set_silence, set_beat, beat_now, cleared, sent_any}
use Rattle.server.specs.Timers.{timed}
use Rattle.group.specs.declared.State.{State}
use Rattle.group.specs.Hearing.{place, inbox}
use Rattle.server.specs.Hearing.{heard_all}
use Rattle.group.specs.Frame.{advanced}
use Rattle.roles.specs.Roles.{is_active, is_beating}
use Rattle.traces.specs.Trace.{HearsHigher, HearsLowReveal, HearsAny}
use Rattle.traces.specs.Facts.{SilentBackup, RevealingProspect, Waited, BeatsOn, QuietStep}
use Rattle.traces.proofs.Ways as ways
use Rattle.server.proofs.Sent.{beat-any}
use Rattle.group.proofs.Inbox.{Falls}
use Rattle.reached.proofs.Heard.{backed, raised, attended, backup_raised, beater_stays, beater_backs, beater_raised}
use Rattle.reached.proofs.Young.{Young}
use Rattle.reached.proofs.Ticks.{ticks-wait, ticks-wake, beaten, ticks-primary, ticks_prospect, ticks_ripe}
use Rattle.reached.proofs.Kept.{beaten-keeps}
use Rattle.reached.proofs.Sound.{Sound, NoPass, AllWhole, nothing-sent, turn, rests, hears-falls}
use Rattle.reached.proofs.Run.{runs, trace_of, sound-runs, period_run, higher_in, no_higher_in, low_in, no_low_in, any_in, none_in, unmarked_in}

module _ (c : State) (sound : Sound c) (links : AllWhole c) (k i : ℕ) (known : i < 16) (quiet : NoPass (runs k c)) where
  abbrev at : State
  at = runs k c

  abbrev s : Server
  s = place at i

  abbrev t : ℕ
  t = at.frame + 1

  abbrev p : Period
  p = c.period

  some : 1 ≤ p.frames
  some = sound.period

  young : Young p at.frame s
  young = subst (λ (q : Period). Young q at.frame s) (period_run c sound links k) ((sound-runs c sound links k).young i known)

  -- the place in the next frame, from what hearing and the timers make of it
  via : (m x : Server) → heard_all t (cleared s) (inbox at i) ≡ m → (timed t p m).server ≡ x → place (runs (suc k) c) i ≡ x
  unfolding runs
  via m x e f =
      turn at (sound-runs c sound links k) i known
      ∙ ap (λ (q : Period). (timed t q (heard_all t (cleared s) (inbox at i))).server) (period_run c sound links k)
      ∙ ap (λ (y : Server). (timed t p y).server) e
      ∙ f

  falls : is_active s.role ≡ true → Falls (cleared s) (inbox at i)
  falls a = hears-falls at (sound-runs c sound links k) i known a

  frame-next : (runs (suc k) c).frame ≡ t
  unfolding runs advanced
  frame-next = refl

  rest : is_active s.role ≡ false → ((place (runs (suc k) c) i).role ≡ s.role) × (sent_any (place (runs (suc k) c) i) ≡ false)
  unfolding runs
  rest a =
      let e = rests at (sound-runs c sound links k) i known a in
      (ap (λ (x : Server). x.role) e, ap sent_any e ∙ nothing-sent s)

  -- ---- a beater that hears no higher sender

  module _ (b : is_beating s.role ≡ true) (no-higher : ¬ HearsHigher (trace_of c) k i) where
    -- after hearing: as it was, or with a reply
    abbrev m : Server
    m = heard_all t (cleared s) (inbox at i)

    still : (m ≡ cleared s) ⊎ (m ≡ beat_now t (cleared s))
    still =
        beater_stays t (cleared s) (inbox at i) (falls (ways.beating-active s.role b)) (unmarked_in c sound links k i known quiet)
        (no_higher_in c sound links k i known no-higher)
        b

    -- what a reply leaves alone
    kept : {A : Type 0} (f : Server → A) → f (beat_now t (cleared s)) ≡ f (cleared s) → f m ≡ f (cleared s)
    kept f e = on still (λ q. ap f q) (λ q. ap f q ∙ e)

    stay_primary : s.role ≡ Primary → place (runs (suc k) c) i ≡ beaten p t m
    stay_primary e = via m _ refl (ticks-primary p t m (kept (λ x. x.role) refl ∙ e))

    stay_prospect : s.role ≡ Prospect → (s.prospect + prospect_limit p ≡ t → ⊥) → place (runs (suc k) c) i ≡ beaten p t m
    stay_prospect e h =
        via m _ refl (ticks_prospect p t m (kept (λ x. x.role) refl ∙ e) (λ z. h (ap (λ (n : ℕ). n + prospect_limit p) (sym (kept (λ x. x.prospect) refl)) ∙ z)))

    ripen : s.role ≡ Prospect → s.prospect + prospect_limit p ≡ t → place (runs (suc k) c) i ≡ in_role Primary (beaten p t m)
    ripen e h = via m _ refl (ticks_ripe p t m (kept (λ x. x.role) refl ∙ e) (ap (λ (n : ℕ). n + prospect_limit p) (kept (λ x. x.prospect) refl) ∙ h))

    -- what both have in common
    beats-alike :
        {A : Type 0} (f : Server → A) → ((x : Server) → f (in_role Primary x) ≡ f x) → f (place (runs (suc k) c) i) ≡ f (beaten p t m)
    beats-alike f alike =
        on (ways.beating s.role b)
        (λ e.
        on (equal (s.prospect + prospect_limit p) t)
        (λ q. ap f (ripen e q) ∙ alike (beaten p t m))
        (λ q. ap f (stay_prospect e q)))
        (λ e. ap f (stay_primary e))

    any-alike : (x : Server) → sent_any (in_role Primary x) ≡ sent_any x
    unfolding sent_any
    any-alike x = refl

    -- whoever is due to beat sends, and so does whoever replied
    sends-due : (x : Server) → x.beat + beat_limit p ≡ t → sent_any (beaten p t x) ≡ true
    sends-due x e = ap sent_any (chosen {a = beat_now t x} x (eq-eqb (x.beat + beat_limit p) t e)) ∙ beat-any (set_beat t x)

    sends_replied : (x : Server) → sent_any (beaten p t (beat_now t x)) ≡ true
    sends_replied x = ap sent_any (other {b = beat_now t x} (beat_now t (beat_now t x)) (ne_eqb (t + beat_limit p) t (λ z. omega (arith, some)))) ∙ beat-any (set_beat t x)

    on-beating : BeatsOn (trace_of c) k i
    on-beating =
        record {
          no_reveal = beats-alike (λ x. x.reveal) (λ x. refl) ∙ beaten-keeps p t some (λ x. x.reveal) m refl ∙ kept (λ x. x.reveal) refl;
          timer =
              on still
              (λ z.
              on (equal (s.beat + beat_limit p) t)
              (λ e. inl (beats-alike sent_any any-alike ∙ ap (λ (x : Server). sent_any (beaten p t x)) z ∙ sends-due (cleared s) e))
              (λ e.
              let q : (place (runs (suc k) c) i).beat ≡ s.beat =
              beats-alike (λ x. x.beat) (λ x. refl)
              ∙ ap (λ (x : Server). (beaten p t x).beat) z
              ∙ ap (λ (x : Server). x.beat) (other {b = cleared s} (beat_now t (cleared s)) (ne_eqb (s.beat + beat_limit p) t e)) in
              let past = young.beat-past in
              inr (omega (arith, frame-next, q))))
              (λ z. inl (beats-alike sent_any any-alike ∙ ap (λ (x : Server). sent_any (beaten p t x)) z ∙ sends_replied (cleared s)));
        }

  -- ---- a backup, or a beater that hears a higher sender

  no_time : (n : ℕ) → 1 ≤ n → t + n ≡ t → ⊥
  no_time n h e = omega arith

  silent-sent : (x : Server) → sent_any (set_silence t (cleared x)) ≡ false
  unfolding sent_any choose
  silent-sent x = refl

  backed-sent : (x : Server) → sent_any (backed t (cleared x)) ≡ false
  unfolding sent_any choose
  backed-sent x = refl

  -- a backup whose silence timer was set in this frame
  silenced : (x : Server) → x.role ≡ Backup → x.silence ≡ t → sent_any x ≡ false → place (runs (suc k) c) i ≡ x → SilentBackup (trace_of c) (suc k) i
  silenced x r e q h =
      let g : (place (runs (suc k) c) i).silence ≡ t = ap (λ (y : Server). y.silence) h ∙ e in
      record { role = ap (λ (y : Server). y.role) h ∙ r; age = omega (arith, frame-next, g); quiet = ap sent_any h ∙ q }

  -- a prospect that revealed in this frame
  risen : (x : Server) → heard_all t (cleared s) (inbox at i) ≡ raised t x → RevealingProspect (trace_of c) (suc k) i
  risen x e =
      let h = via (raised t x) _ e (ticks_prospect p t (raised t x) refl (no_time (prospect_limit p) (let l = some in omega arith))) in
      record {
        role = ap (λ (y : Server). y.role) h ∙ beaten-keeps p t some (λ y. y.role) (raised t x) refl;
        reveals = ap (λ (y : Server). y.reveal) h ∙ beaten-keeps p t some (λ y. y.reveal) (raised t x) refl;
      }

  yield : is_beating s.role ≡ true → HearsHigher (trace_of c) k i → ¬ HearsLowReveal (trace_of c) k i → SilentBackup (trace_of c) (suc k) i
  yield b u l =
      let r = higher_in c sound links k i known u in
      silenced (backed t (cleared s)) refl refl (backed-sent s)
      (via (backed t (cleared s)) _
      (beater_backs t (cleared s) (inbox at i) (falls (ways.beating-active s.role b)) (unmarked_in c sound links k i known quiet) r.1 r.2
      (no_low_in c sound links k i known l) b)
      (ticks-wait p t (backed t (cleared s)) refl (no_time (silence_limit p) (let z = some in omega arith))))

  answer : is_beating s.role ≡ true → HearsHigher (trace_of c) k i → HearsLowReveal (trace_of c) k i → RevealingProspect (trace_of c) (suc k) i
  answer b u l =
      let r = higher_in c sound links k i known u in
      let q = low_in c sound links k i known l in
      risen (backed t (cleared s))
      (beater_raised t (cleared s) (inbox at i) (falls (ways.beating-active s.role b)) (unmarked_in c sound links k i known quiet) r.1 r.2 q.1 q.2 b)

  rise : s.role ≡ Backup → HearsLowReveal (trace_of c) k i → RevealingProspect (trace_of c) (suc k) i
  rise e l =
      let q = low_in c sound links k i known l in
      risen (cleared s)
      (backup_raised t (cleared s) (inbox at i) (falls (ways.backup_active e)) (unmarked_in c sound links k i known quiet) q.1 q.2 e)

  heed : s.role ≡ Backup → HearsAny (trace_of c) k i → ¬ HearsLowReveal (trace_of c) k i → SilentBackup (trace_of c) (suc k) i
  heed e a l =
      let r = any_in c sound links k i known a in
      silenced (set_silence t (cleared s)) e refl (silent-sent s)
      (via (set_silence t (cleared s)) _
      (attended t (cleared s) (inbox at i) r.1 e (unmarked_in c sound links k i known quiet) (no_low_in c sound links k i known l))
      (ticks-wait p t (set_silence t (cleared s)) e (no_time (silence_limit p) (let z = some in omega arith))))

  -- ---- a backup that hears nobody

  module _ (e : s.role ≡ Backup) (none : ¬ HearsAny (trace_of c) k i) where
    unheard : heard_all t (cleared s) (inbox at i) ≡ cleared s
    unfolding heard_all
    unheard = ap (heard_all t (cleared s)) (none_in c sound links k i known none)

    wake : at.frame - s.silence + 1 ≡ silence_limit p → RevealingProspect (trace_of c) (suc k) i
    wake h =
        let past = young.silence-past in
        let g = via (cleared s) _ unheard (ticks-wake p t some (cleared s) e (omega arith)) in
        record { role = ap (λ (y : Server). y.role) g; reveals = ap (λ (y : Server). y.reveal) g }

    wait : at.frame - s.silence + 1 < silence_limit p → Waited (trace_of c) k i
    wait h =
        let past = young.silence-past in
        let g = via (cleared s) _ unheard (ticks-wait p t (cleared s) e (λ z. omega arith)) in
        let q : (place (runs (suc k) c) i).silence ≡ s.silence = ap (λ (y : Server). y.silence) g in
        record { role = ap (λ (y : Server). y.role) g ∙ e; age = omega (arith, frame-next, q); quiet = ap sent_any g ∙ nothing-sent s }

  pub quiet_step : QuietStep (beat_limit p) (silence_limit p) (prospect_limit p) (trace_of c) k i
  quiet_step =
      record {
        rests = rest;
        stays-primary = λ e u.
            ap (λ (y : Server). y.role) (stay_primary (ways.primary-beats e) u e)
            ∙ beaten-keeps p t some (λ y. y.role) (m (ways.primary-beats e) u) refl
            ∙ kept (ways.primary-beats e) u (λ y. y.role) refl
            ∙ e;
        stays_prospect = λ e u h.
            let past = young.prospect_past in
            let g = stay_prospect (ways.prospect_beats e) u e (λ z. omega arith) in
            let b = ways.prospect_beats e in
            let q : (place (runs (suc k) c) i).prospect ≡ s.prospect =
            ap (λ (y : Server). y.prospect) g ∙ beaten-keeps p t some (λ y. y.prospect) (m b u) refl ∙ kept b u (λ y. y.prospect) refl in
            (ap (λ (y : Server). y.role) g ∙ beaten-keeps p t some (λ y. y.role) (m b u) refl ∙ kept b u (λ y. y.role) refl ∙ e, omega (arith, frame-next, q));
        becomes-primary = λ e u h.
            let past = young.prospect_past in
            ap (λ (y : Server). y.role) (ripen (ways.prospect_beats e) u e (omega arith));
        beats-on = λ b u. on-beating b u;
        yields = yield;
        answers = answer;
        rises = rise;
        wakes = λ e n h. wake e n h;
        heeds = heed;
        waits = λ e n h. wait e n h;
      }
