-- What the ways of a step say of senders: active stays active, who sends or reveals beats, a new
-- beater reveals.
use mathlib.Core.Path.{◌≡◌, refl, sym, ap, ◌∙◌}
use mathlib.Core.Logic.{◌⊎◌, inl, inr}
use mathlib.Core.Bool.{true, false}
use Prim.Native.Nat.{ℕ, zero, suc, ◌+◌, ◌<◌, ◌≤◌}
use native.Mathlib.Omega.{arith}
use Rattle.lists.proofs.Cases.{on, clash}
use Rattle.roles.specs.declared.Role.TheVariants.{Backup}
use Rattle.roles.specs.Roles.{is_active, is_beating}
use Rattle.traces.specs.Trace.{Trace, Active, Beats, HearsLowReveal, HearsAny}
use Rattle.traces.specs.Facts.{Facts, BeatsOn}
use Rattle.traces.proofs.Ways.{beating-active, prospect_beats, backup_active, backup_still, Went, went, rested, kept, yielded, answered, woke, heeded, waited}

-- nobody reveals in frame k
abbrev pub NoReveal : Trace → ℕ → Type 0
NoReveal t k = (i : ℕ) → i < t.size → t.reveals k i ≡ false

-- i is woken by its silence timer in the step from k on
pub record Wakes (S : ℕ) (t : Trace) (k i : ℕ) : Type 0 where
  pub role : t.role k i ≡ Backup
  pub deaf : ¬ HearsAny t k i
  pub due : t.silence_age k i + 1 ≡ S

way-active : {S : ℕ} {t : Trace} {k i : ℕ} → Went S t k i → is_active (t.role (suc k) i) ≡ is_active (t.role k i)
way-active (rested a e q) = ap is_active e
way-active (kept b h c o) = beating-active _ c ∙ sym (beating-active _ b)
way-active (yielded b h u) = backup_active u.role ∙ sym (beating-active _ b)
way-active (answered a h u) = beating-active _ (prospect_beats u.role) ∙ sym a
way-active (woke e h g u) = beating-active _ (prospect_beats u.role) ∙ sym (backup_active e)
way-active (heeded e h u) = backup_active u.role ∙ sym (backup_active e)
way-active (waited e h u) = backup_active u.role ∙ sym (backup_active e)

-- who sends was active and beats
way-sends : {S : ℕ} {t : Trace} {k i : ℕ} → Went S t k i → t.sends (suc k) i ≡ true
    → Active t k i × Beats t (suc k) i
way-sends (rested a e q) s = absurd (clash s q)
way-sends (kept b h c o) s = (beating-active _ b, c)
way-sends (yielded b h u) s = absurd (clash s u.quiet)
way-sends (answered a h u) s = (a, prospect_beats u.role)
way-sends (woke e h g u) s = (backup_active e, prospect_beats u.role)
way-sends (heeded e h u) s = absurd (clash s u.quiet)
way-sends (waited e h u) s = absurd (clash s u.quiet)

-- who beats did so before, or reveals
way-new : {S : ℕ} {t : Trace} {k i : ℕ} → Went S t k i → Beats t (suc k) i
    → Beats t k i ⊎ (t.reveals (suc k) i ≡ true)
way-new (rested a e q) c = inl (sym (ap is_beating e) ∙ c)
way-new (kept b h c o) d = inl b
way-new (yielded b h u) d = inl b
way-new (answered a h u) d = inr u.reveals
way-new (woke e h g u) d = inr u.reveals
way-new (heeded e h u) d = absurd (backup_still u.role d)
way-new (waited e h u) d = absurd (backup_still u.role d)

-- who reveals, and so sends, heard a lower reveal or was woken
way-reveals : {S : ℕ} {t : Trace} {k i : ℕ} → Went S t k i → t.reveals (suc k) i ≡ true → t.sends (suc k) i ≡ true
    → HearsLowReveal t k i ⊎ Wakes S t k i
way-reveals (rested a e q) r s = absurd (clash s q)
way-reveals (kept b h c o) r s = absurd (clash r o.no_reveal)
way-reveals (yielded b h u) r s = absurd (clash s u.quiet)
way-reveals (answered a h u) r s = inl h
way-reveals (woke e h g u) r s = inr (record { role = e; deaf = h; due = g })
way-reveals (heeded e h u) r s = absurd (clash s u.quiet)
way-reveals (waited e h u) r s = absurd (clash s u.quiet)

-- who beats sends or is one older
way-timer : {S : ℕ} {t : Trace} {k i : ℕ} → Went S t k i → Beats t (suc k) i
    → (t.reveals (suc k) i ≡ true) ⊎ BeatsOn t k i
way-timer (rested a e q) d = absurd (clash (beating-active _ (sym (ap is_beating e) ∙ d)) a)
way-timer (kept b h c o) d = inr o
way-timer (yielded b h u) d = absurd (backup_still u.role d)
way-timer (answered a h u) d = inl u.reveals
way-timer (woke e h g u) d = inl u.reveals
way-timer (heeded e h u) d = absurd (backup_still u.role d)
way-timer (waited e h u) d = absurd (backup_still u.role d)

module _ {P S Q : ℕ} {t : Trace} (f : Facts P S Q t) where
  -- a server is active in every frame or in none
  pub active-at : (k i : ℕ) → i < t.size → is_active (t.role k i) ≡ is_active (t.role 0 i)
  active-at zero i l = refl
  active-at (suc zero) i l = (f.first i l).active-kept
  active-at (suc (suc k)) i l = way-active (went f (suc k) i (omega arith) l) ∙ active-at (suc k) i l

  -- who beats, or is backup, was active
  pub beater_active : (k i : ℕ) → i < t.size → Beats t k i → Active t 0 i
  beater_active k i l b = sym (active-at k i l) ∙ beating-active _ b

  pub backup_was : (k i : ℕ) → i < t.size → t.role k i ≡ Backup → Active t 0 i
  backup_was k i l e = sym (active-at k i l) ∙ backup_active e

  -- so was who sends or reveals; and it beats
  pub sender-active : (k i : ℕ) → 1 ≤ k → i < t.size → t.sends k i ≡ true → Active t 0 i
  sender-active zero i p l s = absurd (omega arith)
  sender-active (suc zero) i p l s = (f.first i l).sender-active s
  sender-active (suc (suc k)) i p l s =
      sym (active-at (suc k) i l) ∙ (way-sends (went f (suc k) i (omega arith) l) s).0

  pub sender-beats : (k i : ℕ) → 2 ≤ k → i < t.size → t.sends k i ≡ true → Beats t k i
  sender-beats zero i p l s = absurd (omega arith)
  sender-beats (suc k) i p l s = (way-sends (went f k i (omega arith) l) s).1

  pub revealer-active : (k i : ℕ) → 1 ≤ k → i < t.size → t.reveals k i ≡ true → Active t 0 i
  revealer-active k i p l r = sender-active k i p l (f.sent k i l r)

  pub revealer-beats : (k i : ℕ) → 1 ≤ k → i < t.size → t.reveals k i ≡ true → Beats t k i
  revealer-beats zero i p l r = absurd (omega arith)
  revealer-beats (suc zero) i p l r = (f.first i l).revealer-beats r
  revealer-beats (suc (suc k)) i p l r = sender-beats (suc (suc k)) i (omega arith) l (f.sent (suc (suc k)) i l r)

  -- without a reveal nobody newly beats
  pub no_new : (k i : ℕ) → 1 ≤ k → i < t.size → NoReveal t (suc k) → Beats t (suc k) i → Beats t k i
  no_new k i p l no_one b = on (way-new (went f k i p l) b) (λ q. q) (λ q. absurd (clash q (no_one i l)))

  -- a reveal answers a lower one, or comes from silence
  pub reveal_from : (k i : ℕ) → 1 ≤ k → i < t.size → t.reveals (suc k) i ≡ true → HearsLowReveal t k i ⊎ Wakes S t k i
  reveal_from k i p l r = way-reveals (went f k i p l) r (f.sent (suc k) i l r)

  -- a beater that has just not sent is one older
  pub older : (k i : ℕ) → 1 ≤ k → i < t.size → Beats t (suc k) i
      → (t.sends (suc k) i ≡ true) ⊎ (t.beat_age (suc k) i ≡ t.beat_age k i + 1)
  older k i p l b = on (way-timer (went f k i p l) b) (λ r. inl (f.sent (suc k) i l r)) (λ o. o.timer)
