-- Once h is the only beater, all is calm and nobody reveals, it stays so; and it is so once h has
-- been heard by all.
use mathlib.Core.Path.{◌≡◌, sym, ◌∙◌}
use mathlib.Core.Logic.{inl, ◌≢◌}
use mathlib.Core.Bool.{true, false}
use Prim.Native.Nat.{ℕ, suc, ◌<◌, ◌≤◌}
use native.Mathlib.Omega.{arith}
use Rattle.lists.proofs.Cases.{on, equal, clash, refuted}
use Rattle.roles.specs.declared.Role.TheVariants.{Backup}
use Rattle.traces.specs.Trace.{Trace, Active, Beats, HearsHigher, HearsAny}
use Rattle.traces.specs.Facts.{Facts, SilentBackup}
use Rattle.traces.proofs.Laws.{onward}
use Rattle.traces.proofs.Ways.{backup_still, beats-still, Went, went, rested, kept, yielded, answered, woke, heeded, waited}
use Rattle.traces.proofs.Senders.{NoReveal, active-at, beater_active, backup_was, reveal_from}
use Rattle.traces.proofs.Beaters.{Unrivalled, Tops, tops-unheard}
use Rattle.traces.proofs.Calm.{Calm, silent_near, calm_sleeps, calm-step}

-- h is the only beater of frame k, all is calm, and nobody reveals
pub record Sole (P : ℕ) (t : Trace) (h k : ℕ) : Type 0 where
  pub beats : Beats t k h
  pub backs : (i : ℕ) → i < t.size → i ≢ h → Active t 0 i → t.role k i ≡ Backup
  pub calm : Calm P t h k
  pub hidden : NoReveal t k

-- who was backup and does not reveal is backup still
still_backup : {S : ℕ} {t : Trace} {k i : ℕ} → t.role k i ≡ Backup → t.reveals (suc k) i ≡ false
    → Went S t k i → t.role (suc k) i ≡ Backup
still_backup e q (rested a g s) = g ∙ e
still_backup e q (kept b y d o) = absurd (backup_still e b)
still_backup e q (yielded b y d) = d.role
still_backup e q (answered a y d) = absurd (clash d.reveals q)
still_backup e q (woke a y g d) = absurd (clash d.reveals q)
still_backup e q (heeded a y d) = d.role
still_backup e q (waited a y d) = d.role

module _ {P S Q : ℕ} {t : Trace} (f : Facts P S Q t) (h : ℕ) (known : h < t.size) where
  -- the only beater hears nobody higher
  pub sole_unrivalled : (k : ℕ) → 2 ≤ k → Sole P t h k → Unrivalled t h k
  sole_unrivalled k p s = record { beats = s.beats; unheard = tops-unheard f h known k p tops }
    where
      tops : Tops t h k
      tops i l b = on (equal i h) inl (λ d. absurd (backup_still (s.backs i l d (beater_active f k i l b)) b))

  -- nobody reveals in the next frame
  sole_hidden : (k : ℕ) → 2 ≤ k → Sole P t h k → NoReveal t (suc k)
  sole_hidden k p s i l = refuted (t.reveals (suc k) i) (λ r. on (reveal_from f k i (omega arith) l r)
      (λ y. clash y.revealed (s.hidden y.who y.known))
      (λ w. calm_sleeps f h known k i (omega arith) l s.beats s.calm w))

  -- and h is the only beater there
  pub sole_step : (k : ℕ) → 2 ≤ k → Sole P t h k → Sole P t h (suc k)
  sole_step k p s =
      let u = sole_unrivalled k p s in
      let hid = sole_hidden k p s in
      let one : 1 ≤ k = omega arith in
      record {
        beats = beats-still f k h one known u.beats u.unheard;
        backs = λ i l d a. still_backup (s.backs i l d a) (hid i l) (went f k i one l);
        calm = calm-step f h known k one u s.calm;
        hidden = hid;
      }

  pub sole_on : (a : ℕ) → 2 ≤ a → Sole P t h a → (k : ℕ) → a ≤ k → Sole P t h k
  sole_on a p s = onward (Sole P t h) a s (λ k l. sole_step k (omega arith))

  -- h, the highest beater, sends in frame k, and nobody reveals in the next
  module _ (k : ℕ) (p : 2 ≤ k) (b : Beats t k h) (top : Tops t h k) (s : t.sends k h ≡ true)
      (hid : NoReveal t (suc k)) where
    -- every other active server is a backup that sends nothing
    silences : (i : ℕ) → i < t.size → i ≢ h → Active t 0 i → SilentBackup t (suc k) i
    silences i l d a = go (went f k i (omega arith) l)
      where
        any : HearsAny t k i
        any = record { who = h; known = known; other = λ q. d (sym q); sent = s }

        above : Beats t k i → HearsHigher t k i
        above z = record { who = h; known = known; sent = s; over = on (top i l z) (λ e. absurd (d e)) (λ e. e) }

        go : Went S t k i → SilentBackup t (suc k) i
        go (rested z q g) = absurd (clash (active-at f k i l ∙ a) z)
        go (kept z y q o) = absurd (y (above z))
        go (yielded z y q) = q
        go (answered z y q) = absurd (clash q.reveals (hid i l))
        go (woke z y g q) = absurd (clash q.reveals (hid i l))
        go (heeded z y q) = q
        go (waited z y q) = absurd (y any)

    -- so h is the only beater then
    pub sole_start : Sole P t h (suc k)
    sole_start =
        let still = beats-still f k h (omega arith) known b (tops-unheard f h known k p top) in
        record {
          beats = still;
          backs = λ i l d a. (silences i l d a).role;
          calm = λ i l e. silent_near P t h (suc k) i
              (silences i l (λ q. backup_still e (rw q still)) (backup_was f (suc k) i l e));
          hidden = hid;
        }
