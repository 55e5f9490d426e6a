-- Frames in which nothing happens. Assumes nothing.
use mathlib.Core.Bool.{Bool, true, false, not, ◌&&◌, ◌||◌}
use mathlib.Core.Path.{◌≡◌, refl, sym, ap, ap₂, ◌∙◌}
use mathlib.Core.Logic.{◌⊎◌, inr, ⊎_elim}
use mathlib.Core.List.{List, [], ◌∷◌, ◌++◌}
use Prim.Native.Nat.{ℕ, zero, suc, ◌+◌, ◌≤◌, ◌<◌}
use native.Mathlib.Omega.{arith}
use borrow.Author.Tests.{ne_eqb, eqb-true, lt-leb, le-leb}
use lib.Dec.{eqb, ltb, leb}
use lib.ListN.{length, get_or}
use Rattle.lists.specs.Choice.{choose}
use Rattle.lists.specs.Lists.{map_from, any_below}
use Rattle.lists.proofs.Cases.{less, chosen, other, clash, fst_true, snd_true, or_false}
use Rattle.lists.proofs.AnyLoop.{none_below}
use Rattle.heartbeat.specs.declared.Heartbeat.{Heartbeat}
use Rattle.roles.specs.declared.Role.{Role}
use Rattle.roles.specs.declared.Role.TheVariants as role
use Rattle.roles.specs.declared.Event.{Event}
use Rattle.roles.specs.declared.Event.TheVariants.{Nothing, Beat}
use Rattle.periods.specs.declared.Period.{Period}
use Rattle.server.specs.declared.Server.{Server}
use Rattle.server.specs.declared.Timed.{Timed}
use Rattle.server.specs.Server.{absent, set_sent, set_beat, send_beat, cleared, sent_any, after}
use Rattle.periods.specs.Period.{silence_limit, prospect_limit, beat_limit}
use Rattle.roles.specs.Roles.{role_number}
use Rattle.server.specs.Timers.{aged, silent, silent_in, beating, beating_in, rising, rising_in, after_silent, after_beating, after_rising, timed}
use Rattle.group.specs.declared.State.{State}
use Rattle.group.specs.Table.{most}
use Rattle.lines.specs.Lines.{lines_of}
use Rattle.group.specs.Hearing.{inbox}
use Rattle.server.specs.Hearing.{heard_all}
use Rattle.group.specs.Frame.{heard_lines, timed_lines, hearing, turned, turn_lines, turns_lines, advanced, frame_lines, moved_to}
use Rattle.group.specs.Advance.{advanced_by, lines_by}
use Rattle.places.specs.Roles.{is_primary}
use Rattle.frame.specs.Answers.{ticks_in}
use Rattle.frame.specs.Steps.{any_sent, ticked, tick_lines, NotDue, resting, Rests, AllRest}
use Rattle.group.proofs.Laws as law

-- ---- timers that are not due

pub due-before : {s n t r : ℕ} → s + n ≤ t → NotDue s n t r
due-before {s} {n} {t} {r} h = record { waits = λ u a b. ne_eqb (s + n) u (λ e. omega arith) }

pub due-from : {s n t r : ℕ} → r ≤ s + n → NotDue s n t r
due-from {s} {n} {t} {r} h = record { waits = λ u a b. ne_eqb (s + n) u (λ e. omega arith) }

calm :
    (u : ℕ) (p : Period) (s : Server) → silent u p s ≡ Nothing → beating u p s ≡ Nothing → rising u p s ≡ Nothing → timed u p s ≡ resting s
unfolding after_silent after_beating after_rising after
calm u p s a b c =
    let e₁ : after_silent u p s ≡ s = ap (after u s) a in
    let e₂ : after_beating u p s ≡ s = ap (after u s) b in
    let e₃ : after_rising u p s ≡ s = ap (after u s) c in
    ap (λ (x : Server). record { server = after_rising u p (after_beating u p x); silent = silent u p s; beating = beating u p x; rising = rising u p (after_beating u p x) }) e₁
    ∙ ap (λ (x : Server). record { server = after_rising u p x; silent = silent u p s; beating = beating u p s; rising = rising u p x }) e₂
    ∙ ap (λ (x : Server). record { server = x; silent = silent u p s; beating = beating u p s; rising = rising u p s }) e₃
    ∙ ap (λ (x : Event). record { server = s; silent = x; beating = beating u p s; rising = rising u p s }) a
    ∙ ap (λ (x : Event). record { server = s; silent = Nothing; beating = x; rising = rising u p s }) b
    ∙ ap (λ (x : Event). record { server = s; silent = Nothing; beating = Nothing; rising = x }) c

module _ (t : ℕ) (p : Period) (s : Server) (r : ℕ) where
  -- a server without timers
  pub rests_always :
      (e : Role) → s.role ≡ e → ((d : Bool) → silent_in e d ≡ Nothing) → ((d : Bool) → beating_in e d ≡ Nothing) → ((d : Bool) → rising_in e d ≡ Nothing) → Rests t p s r
  rests_always e q a b c =
      record {
        rests =
            λ u h g.
            calm u p s
            (ap (λ (x : Role). silent_in x (aged s.silence (silence_limit p) u)) q ∙ a _)
            (ap (λ (x : Role). beating_in x (aged s.beat (beat_limit p) u)) q ∙ b _)
            (ap (λ (x : Role). rising_in x (aged s.prospect (prospect_limit p) u)) q ∙ c _);
      }

  pub rests-down : s.role ≡ role.Down → Rests t p s r
  rests-down q = rests_always role.Down q (λ d. refl) (λ d. refl) (λ d. refl)

  pub rests-idle : s.role ≡ role.Idle → Rests t p s r
  rests-idle q = rests_always role.Idle q (λ d. refl) (λ d. refl) (λ d. refl)

  pub rests-sync : s.role ≡ role.Sync → Rests t p s r
  rests-sync q = rests_always role.Sync q (λ d. refl) (λ d. refl) (λ d. refl)

  pub rests_backup : s.role ≡ role.Backup → NotDue s.silence (silence_limit p) t r → Rests t p s r
  rests_backup q n =
      record {
        rests =
            λ u h g.
            calm u p s
            (ap (λ (x : Role). silent_in x (aged s.silence (silence_limit p) u)) q ∙ other _ (n.waits u h g))
            (ap (λ (x : Role). beating_in x (aged s.beat (beat_limit p) u)) q)
            (ap (λ (x : Role). rising_in x (aged s.prospect (prospect_limit p) u)) q);
      }

  pub rests-primary : s.role ≡ role.Primary → NotDue s.beat (beat_limit p) t r → Rests t p s r
  rests-primary q n =
      record {
        rests =
            λ u h g.
            calm u p s
            (ap (λ (x : Role). silent_in x (aged s.silence (silence_limit p) u)) q)
            (ap (λ (x : Role). beating_in x (aged s.beat (beat_limit p) u)) q ∙ other _ (n.waits u h g))
            (ap (λ (x : Role). rising_in x (aged s.prospect (prospect_limit p) u)) q);
      }

  pub rests_prospect :
      {a b : ℕ} → s.role ≡ role.Prospect → NotDue s.beat (beat_limit p) t a → NotDue s.prospect (prospect_limit p) t b → r ≤ a → r ≤ b → Rests t p s r
  rests_prospect q n m x y =
      record {
        rests =
            λ u h g.
            calm u p s
            (ap (λ (x : Role). silent_in x (aged s.silence (silence_limit p) u)) q)
            (ap (λ (x : Role). beating_in x (aged s.beat (beat_limit p) u)) q ∙ other _ (n.waits u h (omega arith)))
            (ap (λ (x : Role). rising_in x (aged s.prospect (prospect_limit p) u)) q ∙ other _ (m.waits u h (omega arith)));
      }

  -- each timer that the role has is not due
  pub rests-each :
      (x y z : Bool) (o : Role) → s.role ≡ o → (x ≡ true → NotDue s.silence (silence_limit p) t r) → (y ≡ true → NotDue s.beat (beat_limit p) t r) →
      (z ≡ true → NotDue s.prospect (prospect_limit p) t r) →
      ((not (eqb (role_number o) 3) || x) && ((ltb (role_number o) 4 || y) && (not (eqb (role_number o) 4) || z))) ≡ true → Rests t p s r
  rests-each x y z role.Down q f g h e = rests-down q
  rests-each x y z role.Idle q f g h e = rests-idle q
  rests-each x y z role.Sync q f g h e = rests-sync q
  rests-each x y z role.Backup q f g h e = rests_backup q (f (fst_true x true e))
  rests-each x y z role.Prospect q f g h e = rests_prospect q (g (fst_true y z e)) (h (snd_true y z e)) (omega arith) (omega arith)
  rests-each x y z role.Primary q f g h e = rests-primary q (g (fst_true y true e))

-- the earlier of two
pub earlier_left : {r : ℕ} (a b : ℕ) → r ≡ choose (leb a b) a b → r ≤ a
earlier_left a b e = ⊎_elim (λ l. let q = e ∙ other _ (lt-leb a b l) in omega arith) (λ l. let q = e ∙ chosen _ (le-leb a b l) in omega arith) (less b a)

pub earlier_right : {r : ℕ} (a b : ℕ) → r ≡ choose (leb a b) a b → r ≤ b
earlier_right a b e = ⊎_elim (λ l. let q = e ∙ other _ (lt-leb a b l) in omega arith) (λ l. let q = e ∙ chosen _ (le-leb a b l) in omega arith) (less b a)

-- sooner is safer
pub rests-sooner : {t : ℕ} {p : Period} {s : Server} {r q : ℕ} → Rests t p s r → q ≤ r → Rests t p s q
rests-sooner v h = record { rests = λ u a b. v.rests u a (omega arith) }

-- a loop over the places: the servers of the first i rest
pub record Resting (t : ℕ) (p : Period) (l : List Server) (i r : ℕ) : Type 0 where
  pub within : i ≤ 16
  pub so_far : (k : ℕ) → k < i → Rests t p (get_or l k absent) r

pub rest-turn :
    {t : ℕ} {p : Period} {l : List Server} {i a b r : ℕ} → Resting t p l i a → i < 16 → Rests t p (get_or l i absent) b → r ≡ choose (leb a b) a b → Resting t p l (i + 1) r
rest-turn {t} {p} {l} {i} {a} {b} {r} v h w e =
    record {
      within = omega arith;
      so_far =
          λ k g.
          ⊎_elim
          (λ q. rests-sooner (v.so_far k q) (earlier_left a b e))
          (λ q. let y : k ≡ i = omega arith in rw y (rests-sooner w (earlier_right a b e)))
          (less k i);
    }

-- where no timer is due, nothing is done
module _ (t : ℕ) (p : Period) (s : Server) where
  calm_in :
      (e : Role) → s.role ≡ e → silent_in e (aged s.silence (silence_limit p) t) ≡ Nothing → beating_in e (aged s.beat (beat_limit p) t) ≡ Nothing →
      rising_in e (aged s.prospect (prospect_limit p) t) ≡ Nothing → timed t p s ≡ resting s
  calm_in e q a b c =
      calm t p s
      (ap (λ (x : Role). silent_in x (aged s.silence (silence_limit p) t)) q ∙ a)
      (ap (λ (x : Role). beating_in x (aged s.beat (beat_limit p) t)) q ∙ b)
      (ap (λ (x : Role). rising_in x (aged s.prospect (prospect_limit p) t)) q ∙ c)

  pub no_timer : (e : Role) → s.role ≡ e → ticks_in e t p s ≡ false → timed t p s ≡ resting s
  no_timer role.Down q h = calm_in role.Down q refl refl refl
  no_timer role.Idle q h = calm_in role.Idle q refl refl refl
  no_timer role.Sync q h = calm_in role.Sync q refl refl refl
  no_timer role.Backup q h = calm_in role.Backup q (other _ h) refl refl
  no_timer role.Prospect q h = calm_in role.Prospect q refl (other _ (or_false (aged s.beat (beat_limit p) t) _ h).0) (other _ (or_false (aged s.beat (beat_limit p) t) _ h).1)
  no_timer role.Primary q h = calm_in role.Primary q refl (other _ h) refl

-- a primary whose beat is due only beats
primary-is : (r : Role) → is_primary r ≡ true → r ≡ role.Primary
primary-is role.Down e = absurd (clash e refl)
primary-is role.Idle e = absurd (clash e refl)
primary-is role.Sync e = absurd (clash e refl)
primary-is role.Backup e = absurd (clash e refl)
primary-is role.Prospect e = absurd (clash e refl)
primary-is role.Primary e = refl

beats_in : (t : ℕ) (p : Period) (s : Server) → s.role ≡ role.Primary → aged s.beat (beat_limit p) t ≡ true → timed t p s ≡ record { server = send_beat (set_beat t s); silent = Nothing; beating = Beat; rising = Nothing }
unfolding after_silent after_beating after_rising after
beats_in t p s q h =
    let a : silent t p s ≡ Nothing = ap (λ (x : Role). silent_in x (aged s.silence (silence_limit p) t)) q in
    let b : beating t p s ≡ Beat = ap (λ (x : Role). beating_in x (aged s.beat (beat_limit p) t)) q ∙ chosen Nothing h in
    let s₁ = send_beat (set_beat t s) in
    let c : rising t p s₁ ≡ Nothing = ap (λ (x : Role). rising_in x (aged s₁.prospect (prospect_limit p) t)) q in
    let e₁ : after_silent t p s ≡ s = ap (after t s) a in
    let e₂ : after_beating t p s ≡ s₁ = ap (after t s) b in
    let e₃ : after_rising t p s₁ ≡ s₁ = ap (after t s₁) c in
    ap (λ (x : Server). record { server = after_rising t p (after_beating t p x); silent = silent t p s; beating = beating t p x; rising = rising t p (after_beating t p x) }) e₁
    ∙ ap (λ (x : Server). record { server = after_rising t p x; silent = silent t p s; beating = beating t p s; rising = rising t p x }) e₂
    ∙ ap (λ (x : Server). record { server = x; silent = silent t p s; beating = beating t p s; rising = rising t p s₁ }) e₃
    ∙ ap (λ (x : Event). record { server = s₁; silent = x; beating = beating t p s; rising = rising t p s₁ }) a
    ∙ ap (λ (x : Event). record { server = s₁; silent = Nothing; beating = x; rising = rising t p s₁ }) b
    ∙ ap (λ (x : Event). record { server = s₁; silent = Nothing; beating = Beat; rising = x }) c

pub primary-beats :
    (t : ℕ) (p : Period) (s : Server) → is_primary s.role ≡ true → ticks_in s.role t p s ≡ true → timed t p s ≡ record { server = send_beat (set_beat t s); silent = Nothing; beating = Beat; rising = Nothing }
primary-beats t p s q h = let r = primary-is s.role q in beats_in t p s r (ap (λ (x : Role). ticks_in x t p s) (sym r) ∙ h)

-- ---- a frame in which nobody sent and no timer is due

-- where nobody sent
pub unsent : (l : List Server) (n i : ℕ) → any_below n (λ (k : ℕ). sent_any (get_or l k absent)) ≡ false → i < n → sent_any (get_or l i absent) ≡ false
unsent l n i e h = none_below (λ (k : ℕ). sent_any (get_or l k absent)) n i e h

-- who sent nothing is cleared already
sent-nothing : (a r p : Bool) → choose a (choose r true (not p)) true ≡ false → (a ≡ true) × ((r ≡ false) × (p ≡ true))
unfolding choose
sent-nothing true true p e = absurd (let z : ◌≡◌ {A = ℕ} 0 1 = cc in omega arith)
sent-nothing true false true e = (refl, (refl, refl))
sent-nothing true false false e = absurd (let z : ◌≡◌ {A = ℕ} 0 1 = cc in omega arith)
sent-nothing false r p e = absurd (let z : ◌≡◌ {A = ℕ} 0 1 = cc in omega arith)

pub clear_already : (s : Server) → sent_any s ≡ false → cleared s ≡ s
unfolding sent_any
clear_already s e =
    let q = sent-nothing (eqb s.beats 0) s.reveal (eqb s.pass 0) e in
    let beats : s.beats ≡ 0 = eqb-true _ _ q.0 in
    let pass : s.pass ≡ 0 = eqb-true _ _ q.1.1 in
    ap (λ (n : ℕ). set_sent n false 0 s) (sym beats) ∙ ap (λ (b : Bool). set_sent s.beats b 0 s) (sym q.1.0) ∙ ap (λ (n : ℕ). set_sent s.beats s.reveal n s) (sym pass)

-- where nobody sent, nothing is heard
pub nothing-heard : (c : State) (j : ℕ) → any_sent c.servers ≡ false → inbox c j ≡ []
nothing-heard c j e = law.nothing-heard c j (λ i h. unsent c.servers most i e h)

module _ (c : State) (t : ℕ) (quiet : any_sent c.servers ≡ false) where
  module _ (j : ℕ) (s : Server) (sent : sent_any s ≡ false) where
    stays : hearing c t j s ≡ s
    unfolding hearing heard_all
    stays = ap (heard_all t (cleared s)) (nothing-heard c j quiet) ∙ clear_already s sent

    -- only its timers run
    turn-ticks : turned c t j s ≡ ticked t c.period j s
    unfolding turned
    turn-ticks = ap (λ (x : Server). (timed t c.period x).server) stays

    turn-says : turn_lines c t j s ≡ timed_lines t s.identity (timed t c.period s)
    unfolding turn_lines heard_lines
    turn-says =
        ap (λ (hs : List Heartbeat). heard_lines t (cleared s) hs ++ timed_lines t s.identity (timed t c.period (hearing c t j s))) (nothing-heard c j quiet)
        ∙ ap (λ (x : Server). timed_lines t s.identity (timed t c.period x)) stays

  turns-tick :
      (k : ℕ) (l : List Server) → ((i : ℕ) → i < length l → sent_any (get_or l i absent) ≡ false) →
      (map_from k (turned c t) l ≡ map_from k (ticked t c.period) l) × (turns_lines c t k l ≡ tick_lines t c.period l)
  unfolding turns_lines
  turns-tick k [] f = (refl, refl)
  turns-tick k (s ∷ l) f =
      let h = f 0 (omega arith) in
      let rest = turns-tick (suc k) l (λ i g. f (suc i) (omega arith)) in
      (ap₂ (λ (x : Server) (m : List Server). x ∷ m) (turn-ticks k s h) rest.0, ap₂ (λ (x y : List ℕ). x ++ y) (turn-says k s h) rest.1)

-- the frame after one in which nobody sent
pub ticks-frame :
    (c : State) → any_sent c.servers ≡ false → length c.servers ≡ 16 →
    ((advanced c).servers ≡ map_from 0 (ticked (c.frame + 1) c.period) c.servers) × (frame_lines c ≡ tick_lines (c.frame + 1) c.period c.servers)
unfolding advanced frame_lines
ticks-frame c quiet long = turns-tick c (c.frame + 1) quiet 0 c.servers (λ i g. unsent c.servers most i quiet (omega arith))

-- and no timer is due
all_rest :
    (t : ℕ) (p : Period) (k : ℕ) (l : List Server) → ((i : ℕ) → i < length l → timed t p (get_or l i absent) ≡ resting (get_or l i absent)) →
    (map_from k (ticked t p) l ≡ l) × (tick_lines t p l ≡ [])
unfolding timed_lines lines_of
all_rest t p k [] f = (refl, refl)
all_rest t p k (s ∷ l) f =
    let h = f 0 (omega arith) in
    let rest = all_rest t p (suc k) l (λ i g. f (suc i) (omega arith)) in (
      ap₂ (λ (x : Server) (m : List Server). x ∷ m) (ap (λ (m : Timed). m.server) h) rest.0,
      ap₂ (λ (x y : List ℕ). x ++ y) (ap (timed_lines t s.identity) h) rest.1,
    )

pub quiet_frame :
    (c : State) (r : ℕ) → any_sent c.servers ≡ false → length c.servers ≡ 16 → AllRest c.frame c.period c.servers r → c.frame + 1 < r →
    (advanced c ≡ moved_to c (c.frame + 1) c.servers) × (frame_lines c ≡ [])
unfolding advanced
quiet_frame c r quiet long v h =
    let t = ticks-frame c quiet long in
    let s = all_rest (c.frame + 1) c.period 0 c.servers (λ i g. (v.all i (omega arith)).rests (c.frame + 1) (omega arith) h) in
    (ap (moved_to c (c.frame + 1)) (t.0 ∙ s.0), t.1 ∙ s.1)

-- ---- many such frames

pub skip :
    (k : ℕ) (c : State) (r : ℕ) → any_sent c.servers ≡ false → length c.servers ≡ 16 → AllRest c.frame c.period c.servers r → (k ≡ 0) ⊎ (c.frame + k < r) →
    (advanced_by k c ≡ moved_to c (c.frame + k) c.servers) × (lines_by k c ≡ [])
unfolding advanced_by lines_by
skip zero c r quiet long v h = (ap (λ (n : ℕ). moved_to c n c.servers) (let e : c.frame ≡ c.frame + 0 = omega arith in e), refl)
skip (suc k) c r quiet long v h =
    let g : c.frame + suc k < r = ⊎_elim (λ z. absurd (omega arith)) (λ l. l) h in
    let q = quiet_frame c r quiet long v (omega arith) in
    let next = moved_to c (c.frame + 1) c.servers in
    let rest = skip k next r quiet long (record { all = λ i m. record { rests = λ u a b. (v.all i m).rests u (omega arith) b } }) (inr (omega arith)) in (
      ap (advanced_by k) q.0 ∙ rest.0 ∙ ap (λ (n : ℕ). moved_to c n c.servers) (let e : (c.frame + 1) + k ≡ c.frame + suc k = omega arith in e),
      ap₂ (λ (x : List ℕ) (y : State). x ++ lines_by k y) q.1 q.0 ∙ rest.1,
    )
