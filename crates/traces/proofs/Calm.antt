-- While h beats unrivalled no silence age passes its beat age by much, so nobody is woken.
use mathlib.Core.Path.{◌≡◌, sym, ◌∙◌}
use mathlib.Core.Logic.{◌⊎◌, inl, inr}
use mathlib.Core.Bool.{true}
use Prim.Native.Nat.{ℕ, suc, ◌<◌, ◌≤◌}
use native.Mathlib.Omega.{arith}
use Rattle.lists.proofs.Cases.{on, clash}
use Rattle.roles.specs.declared.Role.TheVariants.{Backup}
use Rattle.traces.specs.Trace.{Trace, Beats, HearsAny}
use Rattle.traces.specs.Facts.{Facts, SilentBackup}
use Rattle.traces.proofs.Ways.{prospect_beats, backup_active, backup_still, Went, went, rested, kept, yielded, answered, woke, heeded, waited}
use Rattle.traces.proofs.Senders.{Wakes}
use Rattle.traces.proofs.Beaters.{Unrivalled}

-- i has been silent no longer than h; or h sends, and i has been silent no longer than P
abbrev pub Near : ℕ → Trace → ℕ → ℕ → ℕ → Type 0
Near P t h k i = ((t.sends k h ≡ true) × (t.silence_age k i ≤ P)) ⊎ (t.silence_age k i ≤ t.beat_age k h)

-- so it is of every backup
abbrev pub Calm : ℕ → Trace → ℕ → ℕ → Type 0
Calm P t h k = (i : ℕ) → i < t.size → t.role k i ≡ Backup → Near P t h k i

pub silent_near : (P : ℕ) (t : Trace) (h k i : ℕ) → SilentBackup t k i → Near P t h k i
silent_near P t h k i d = inr (let z = d.age in omega arith)

module _ {P S Q : ℕ} {t : Trace} (f : Facts P S Q t) (h : ℕ) (known : h < t.size) where
  -- a backup hears h when h sends
  pub hears_h : (k i : ℕ) → Beats t k h → t.role k i ≡ Backup → t.sends k h ≡ true → HearsAny t k i
  hears_h k i b e s = record { who = h; known = known; other = λ q. backup_still e (rw q at b); sent = s }

  -- in a calm frame nobody is woken
  pub calm_sleeps : (k i : ℕ) → 1 ≤ k → i < t.size → Beats t k h → Calm P t h k → Wakes S t k i → ⊥
  calm_sleeps k i p l b c w = on (c i l w.role) (λ r. w.deaf (hears_h k i b w.role r.0))
      (λ r. let young = (f.ages k h p known).beat-young b in omega arith)

  -- the next frame is calm too
  pub calm-step : (k : ℕ) → 1 ≤ k → Unrivalled t h k → Calm P t h k → Calm P t h (suc k)
  calm-step k p u c i l e = go (went f k i p l)
    where
      go : Went S t k i → Near P t h (suc k) i
      go (rested a q s) = absurd (clash (backup_active (sym q ∙ e)) a)
      go (kept b y d o) = absurd (backup_still e d)
      go (yielded b y d) = silent_near P t h (suc k) i d
      go (answered a y d) = absurd (backup_still e (prospect_beats d.role))
      go (woke a y g d) = absurd (backup_still e (prospect_beats d.role))
      go (heeded a y d) = silent_near P t h (suc k) i d
      go (waited a y d) =
          let older = d.age in
          let young = (f.ages k h p known).beat-young u.beats in
          on (c i l a) (λ r. absurd (y (hears_h k i u.beats a r.0))) λ r.
          on ((f.quiet k h p known).beats-on u.beats u.unheard).timer
          (λ s. inl (s, omega arith)) (λ s. inr (omega arith))
