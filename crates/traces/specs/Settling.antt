-- What is proved of every trace of which the facts hold. The proof is `settles` of
-- proofs/Settle.antt.
use Rattle.std.specs.Prelude.{◌≡◌, ◌⊎◌, ◌≢◌, true, false, ℕ, ◌+◌, ◌<◌, ◌≤◌}
use Rattle.roles.specs.declared.Role.TheVariants.{Backup, Primary}
use Rattle.roles.specs.Roles.{is_beating}
use Rattle.traces.specs.Trace.{Trace, Active}
use Rattle.traces.specs.Facts.{Facts}

-- in frame k, h is primary, all others that were active at 0 are backup, and no other server is
-- primary
pub record Led (t : Trace) (h k : ℕ) : Type 0 where
  pub leads : t.role k h ≡ Primary
  pub follow : (i : ℕ) → i < t.size → i ≢ h → Active t 0 i → t.role k i ≡ Backup
  pub alone : (i : ℕ) → i < t.size → t.role k i ≡ Primary → i ≡ h

-- h is the highest of those that are active at 0
abbrev pub Top : Trace → ℕ → Type 0
Top t h = (i : ℕ) → i < t.size → Active t 0 i → (i ≡ h) ⊎ (t.higher h i ≡ true)

-- nobody beats in frame k
abbrev pub NoneBeats : Trace → ℕ → Type 0
NoneBeats t k = (i : ℕ) → i < t.size → is_beating (t.role k i) ≡ false

-- h is the highest, if nobody beats at 1
abbrev pub TopIfStill : Trace → ℕ → Type 0
TopIfStill t h = NoneBeats t 1 → Top t h

-- one server, active at 0, leads from S + Q + 2 on; and it is the highest if nobody beats at 1
pub record Settled (S Q : ℕ) (t : Trace) : Type 0 where
  pub primary : ℕ
  pub known : primary < t.size
  pub active : Active t 0 primary
  pub led : (k : ℕ) → S + Q + 2 ≤ k → Led t primary k
  pub highest : TopIfStill t primary

-- a group with an active server settles
abbrev pub Settling : Type 0
Settling = (P S Q : ℕ) (t : Trace) → Facts P S Q t → (i : ℕ) → i < t.size → Active t 0 i → Settled S Q t
