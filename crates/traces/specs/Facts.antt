-- What is asked of a trace: the order, the limits, the ages, the first step, and every later step
-- of one server.
use Rattle.std.specs.Prelude.{◌≡◌, ◌⊎◌, ◌≢◌, Bool, true, false, ℕ, suc, ◌+◌, ◌*◌, ◌<◌, ◌≤◌}
use Rattle.lists.specs.Lists.{count_below}
use Rattle.roles.specs.declared.Role.TheVariants.{Backup, Prospect, Primary}
use Rattle.roles.specs.Roles.{is_active}
use Rattle.traces.specs.Trace.{Trace, active_at0, Active, Beats, HearsHigher, HearsLowReveal, HearsAny}

-- a strict order on the indices below n, total on those that are seated
pub record Order (n : ℕ) (seated : ℕ → Bool) (higher : ℕ → ℕ → Bool) : Type 0 where
  pub irreflexive : (i : ℕ) → i < n → higher i i ≡ false
  pub transitive : (i j k : ℕ) → i < n → j < n → k < n
      → higher i j ≡ true → higher j k ≡ true → higher i k ≡ true
  pub total : (i j : ℕ) → i < n → j < n → seated i ≡ true → seated j ≡ true → i ≢ j
      → (higher i j ≡ true) ⊎ (higher j i ≡ true)

-- the period P, the silence limit S and the prospect limit Q, where n servers are active
pub record Limits (n P S Q : ℕ) : Type 0 where
  pub period : 1 ≤ P
  pub fits : n ≤ P
  pub silence_limit_lem : 2 * P ≤ S
  pub prospect_limit_lem : 2 * P ≤ Q

-- the ages of i in frame k are below their limits
pub record Ages (P S Q : ℕ) (t : Trace) (k i : ℕ) : Type 0 where
  pub beat-young : Beats t k i → t.beat_age k i < P
  pub prospect_young : t.role k i ≡ Prospect → t.prospect_age k i < Q
  pub silence-young : t.role k i ≡ Backup → t.silence_age k i < S

-- the step 0 → 1 of i, in which anything may be heard
pub record FirstStep (t : Trace) (i : ℕ) : Type 0 where
  pub active-kept : is_active (t.role 1 i) ≡ is_active (t.role 0 i)
  pub sender-active : t.sends 1 i ≡ true → Active t 0 i
  pub revealer-beats : t.reveals 1 i ≡ true → Beats t 1 i

-- i is a backup of silence age 0 that sends nothing
pub record SilentBackup (t : Trace) (k i : ℕ) : Type 0 where
  pub role : t.role k i ≡ Backup
  pub age : t.silence_age k i ≡ 0
  pub quiet : t.sends k i ≡ false

-- i is a prospect that sends a reveal
pub record RevealingProspect (t : Trace) (k i : ℕ) : Type 0 where
  pub role : t.role k i ≡ Prospect
  pub reveals : t.reveals k i ≡ true

-- i waits one frame more, as a backup that sends nothing
pub record Waited (t : Trace) (k i : ℕ) : Type 0 where
  pub role : t.role (suc k) i ≡ Backup
  pub age : t.silence_age (suc k) i ≡ t.silence_age k i + 1
  pub quiet : t.sends (suc k) i ≡ false

-- i beats on: it sends, or its beat age grows; and it sends no reveal
pub record BeatsOn (t : Trace) (k i : ℕ) : Type 0 where
  pub no_reveal : t.reveals (suc k) i ≡ false
  pub timer : (t.sends (suc k) i ≡ true) ⊎ (t.beat_age (suc k) i ≡ t.beat_age k i + 1)

-- one server's step k → k + 1 in which nobody hears a heartbeat that is marked BS
pub record QuietStep (P S Q : ℕ) (t : Trace) (k i : ℕ) : Type 0 where
  pub rests : is_active (t.role k i) ≡ false → (t.role (suc k) i ≡ t.role k i) × (t.sends (suc k) i ≡ false)
  pub stays-primary : t.role k i ≡ Primary → ¬ HearsHigher t k i → t.role (suc k) i ≡ Primary
  pub stays_prospect : t.role k i ≡ Prospect → ¬ HearsHigher t k i → t.prospect_age k i + 1 < Q
      → (t.role (suc k) i ≡ Prospect) × (t.prospect_age (suc k) i ≡ t.prospect_age k i + 1)
  pub becomes-primary : t.role k i ≡ Prospect → ¬ HearsHigher t k i → t.prospect_age k i + 1 ≡ Q
      → t.role (suc k) i ≡ Primary
  pub beats-on : Beats t k i → ¬ HearsHigher t k i → BeatsOn t k i
  pub yields : Beats t k i → HearsHigher t k i → ¬ HearsLowReveal t k i → SilentBackup t (suc k) i
  pub answers : Beats t k i → HearsHigher t k i → HearsLowReveal t k i → RevealingProspect t (suc k) i
  pub rises : t.role k i ≡ Backup → HearsLowReveal t k i → RevealingProspect t (suc k) i
  pub wakes : t.role k i ≡ Backup → ¬ HearsAny t k i → t.silence_age k i + 1 ≡ S → RevealingProspect t (suc k) i
  pub heeds : t.role k i ≡ Backup → HearsAny t k i → ¬ HearsLowReveal t k i → SilentBackup t (suc k) i
  pub waits : t.role k i ≡ Backup → ¬ HearsAny t k i → t.silence_age k i + 1 < S → Waited t k i

-- all that is asked of a trace
pub record Facts (P S Q : ℕ) (t : Trace) : Type 0 where
  pub order : Order t.size (active_at0 t) t.higher
  pub limits : Limits (count_below (active_at0 t) t.size) P S Q
  pub sent : (k i : ℕ) → i < t.size → t.reveals k i ≡ true → t.sends k i ≡ true
  pub first : (i : ℕ) → i < t.size → FirstStep t i
  pub ages : (k i : ℕ) → 1 ≤ k → i < t.size → Ages P S Q t k i
  pub quiet : (k i : ℕ) → 1 ≤ k → i < t.size → QuietStep P S Q t k i
