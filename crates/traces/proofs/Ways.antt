-- The ways of one server's step, and what follows at once: who is active stays so, who sends beats,
-- who reveals beats.
use mathlib.Core.Path.{◌≡◌, refl}
use mathlib.Core.Logic.{◌⊎◌, inl, inr, ◌≢◌}
use mathlib.Core.Bool.{true, false}
use Prim.Native.Nat.{ℕ, suc, ◌+◌, ◌<◌, ◌≤◌}
use native.Mathlib.Omega.{arith}
use Rattle.lists.proofs.Cases.{tested, on, less, equal, clash}
use Rattle.roles.specs.declared.Role.{Role}
use Rattle.roles.specs.declared.Role.TheVariants.{Down, Idle, Sync, Backup, Prospect, Primary}
use Rattle.roles.specs.Roles.{is_active, is_beating}
use Rattle.traces.specs.Trace.{Trace, Active, Beats, HearsHigher, HearsLowReveal, HearsAny}
use Rattle.traces.specs.Facts.{Facts, SilentBackup, RevealingProspect, Waited, BeatsOn}
use Rattle.traces.proofs.Laws.{holds?, both?, found}

-- roles
pub beating : (r : Role) → is_beating r ≡ true → (r ≡ Prospect) ⊎ (r ≡ Primary)
unfolding is_beating
beating Down e = absurd (clash e refl)
beating Idle e = absurd (clash e refl)
beating Sync e = absurd (clash e refl)
beating Backup e = absurd (clash e refl)
beating Prospect e = inl refl
beating Primary e = inr refl

-- an active server is a backup, or beats
pub backs_or_beats : (r : Role) → is_active r ≡ true → (r ≡ Backup) ⊎ (is_beating r ≡ true)
unfolding is_active is_beating
backs_or_beats Down e = absurd (clash e refl)
backs_or_beats Idle e = absurd (clash e refl)
backs_or_beats Sync e = absurd (clash e refl)
backs_or_beats Backup e = inl refl
backs_or_beats Prospect e = inr refl
backs_or_beats Primary e = inr refl

pub beating-active : (r : Role) → is_beating r ≡ true → is_active r ≡ true
unfolding is_active
beating-active r e = on (beating r e) (λ q. rw q) (λ q. rw q)

pub prospect_beats : {r : Role} → r ≡ Prospect → is_beating r ≡ true
unfolding is_beating
prospect_beats e = rw e

pub primary-beats : {r : Role} → r ≡ Primary → is_beating r ≡ true
unfolding is_beating
primary-beats e = rw e

pub backup_active : {r : Role} → r ≡ Backup → is_active r ≡ true
unfolding is_active
backup_active e = rw e

pub backup_still : {r : Role} → r ≡ Backup → is_beating r ≡ true → ⊥
unfolding is_beating
backup_still {r} e b = let q : is_beating r ≡ false = rw e in clash b q

-- whether a server hears a higher one, a reveal of a lower one, any other
pub higher? : (t : Trace) (k i : ℕ) → HearsHigher t k i ⊎ (¬ HearsHigher t k i)
higher? t k i = on (found _ (λ j. both? (holds? (t.sends k j)) (holds? (t.higher j i))) t.size)
    (λ r. inl (record { who = r.0; known = r.1; sent = r.2.0; over = r.2.1 }))
    (λ h. inr (λ r. h r.who r.known (r.sent, r.over)))

pub low? : (t : Trace) (k i : ℕ) → HearsLowReveal t k i ⊎ (¬ HearsLowReveal t k i)
low? t k i = on (found _ (λ j. both? (holds? (t.reveals k j)) (holds? (t.higher i j))) t.size)
    (λ r. inl (record { who = r.0; known = r.1; revealed = r.2.0; under = r.2.1 }))
    (λ h. inr (λ r. h r.who r.known (r.revealed, r.under)))

pub any? : (t : Trace) (k i : ℕ) → HearsAny t k i ⊎ (¬ HearsAny t k i)
any? t k i = on (found _ (λ j. both? (other? j) (holds? (t.sends k j))) t.size)
    (λ r. inl (record { who = r.0; known = r.1; other = r.2.0; sent = r.2.1 }))
    (λ h. inr (λ r. h r.who r.known (r.other, r.sent)))
  where
    other? : (j : ℕ) → (j ≢ i) ⊎ (¬ (j ≢ i))
    other? j = on (equal j i) (λ e. inr (λ d. d e)) inl

-- the ways of one server's quiet step
pub data Went (S : ℕ) (t : Trace) (k i : ℕ) : Type 0 where
  rested : is_active (t.role k i) ≡ false → t.role (suc k) i ≡ t.role k i → t.sends (suc k) i ≡ false → Went S t k i
  kept : Beats t k i → ¬ HearsHigher t k i → Beats t (suc k) i → BeatsOn t k i → Went S t k i
  yielded : Beats t k i → HearsHigher t k i → SilentBackup t (suc k) i → Went S t k i
  answered : Active t k i → HearsLowReveal t k i → RevealingProspect t (suc k) i → Went S t k i
  woke : t.role k i ≡ Backup → ¬ HearsAny t k i → t.silence_age k i + 1 ≡ S → RevealingProspect t (suc k) i → Went S t k i
  heeded : t.role k i ≡ Backup → HearsAny t k i → SilentBackup t (suc k) i → Went S t k i
  waited : t.role k i ≡ Backup → ¬ HearsAny t k i → Waited t k i → Went S t k i

module _ {P S Q : ℕ} {t : Trace} (f : Facts P S Q t) where
  -- a prospect that hears no higher server goes on, or becomes primary
  pub prospect_on : (k i : ℕ) → 1 ≤ k → i < t.size → t.role k i ≡ Prospect → ¬ HearsHigher t k i
      → (t.role (suc k) i ≡ Primary)
      ⊎ ((t.role (suc k) i ≡ Prospect) × (t.prospect_age (suc k) i ≡ t.prospect_age k i + 1))
  prospect_on k i p l e h = let s = f.quiet k i p l in let y = (f.ages k i p l).prospect_young e in
      on (less (t.prospect_age k i + 1) Q) (λ g. inr (s.stays_prospect e h g))
      (λ g. inl (s.becomes-primary e h (omega arith)))

  -- a beater that hears no higher server beats on
  pub beats-still : (k i : ℕ) → 1 ≤ k → i < t.size → Beats t k i → ¬ HearsHigher t k i → Beats t (suc k) i
  beats-still k i p l b h = on (beating (t.role k i) b)
      (λ e. on (prospect_on k i p l e h) primary-beats (λ q. prospect_beats q.0))
      (λ e. primary-beats ((f.quiet k i p l).stays-primary e h))

  -- every quiet step goes one of the ways
  pub went : (k i : ℕ) → 1 ≤ k → i < t.size → Went S t k i
  went k i p l = let s = f.quiet k i p l in
      on (tested (is_active (t.role k i)))
      (λ a. on (backs_or_beats (t.role k i) a)
      (λ e. on (any? t k i)
      (λ y. on (low? t k i) (λ z. answered a z (s.rises e z)) (λ z. heeded e y (s.heeds e y z)))
      (λ y. on (less (t.silence_age k i + 1) S) (λ z. waited e y (s.waits e y z))
      (λ z. let g = (f.ages k i p l).silence-young e in let q : t.silence_age k i + 1 ≡ S = omega arith in
      woke e y q (s.wakes e y q))))
      (λ b. on (higher? t k i)
      (λ y. on (low? t k i) (λ z. answered a z (s.answers b y z)) (λ z. yielded b y (s.yields b y z)))
      (λ y. kept b y (beats-still k i p l b y) (s.beats-on b y))))
      (λ a. rested a (s.rests a).0 (s.rests a).1)
