-- The settling theorem. A reveal by S + 1, or the silence of all, makes the top primary; else the
-- highest of those that beat at 2 becomes it.
use mathlib.Core.Path.{◌≡◌}
use mathlib.Core.Logic.{◌⊎◌, inl, inr}
use mathlib.Core.Bool.{true}
use Prim.Native.Nat.{ℕ, zero, suc, ◌+◌, ◌<◌, ◌≤◌}
use native.Mathlib.Omega.{arith}
use Rattle.lists.proofs.Cases.{on, equal, clash, refuted}
use Rattle.roles.specs.Roles.{is_beating}
use Rattle.traces.specs.Trace.{Trace, active_at0, Active, Beats}
use Rattle.traces.specs.Facts.{Facts}
use Rattle.traces.specs.Settling.{TopIfStill, Settled, Settling}
use Rattle.traces.proofs.Laws.{holds?, found}
use Rattle.traces.proofs.Order.{highest}
use Rattle.traces.proofs.Ways.{prospect_beats, primary-beats, backup_still}
use Rattle.traces.proofs.Senders.{beater_active, no_new}
use Rattle.traces.proofs.Beaters.{Unrivalled, ripens}
use Rattle.traces.proofs.Sole.{Sole}
use Rattle.traces.proofs.Reveals.{IsTop, top_beats_on, reveal_makes_beat, sole_after}
use Rattle.traces.proofs.Quiet.{Unrevealed, HighestBeater, all-wake, sole_from, unrivalled_from}

-- somebody reveals in a frame 1 .. S + 1
pub record Revealed (S : ℕ) (t : Trace) : Type 0 where
  pub frame : ℕ
  pub early : 1 ≤ frame
  pub late : frame ≤ suc S
  pub who : ℕ
  pub known : who < t.size
  pub reveals : t.reveals frame who ≡ true

reveal? : (S : ℕ) (t : Trace) → Revealed S t ⊎ Unrevealed S t
reveal? S t = on (found Here here? (suc S))
    (λ r. let (i, l, e) = r.2 in
    inl (record { frame = suc r.0; early = omega arith; late = r.1; who = i; known = l; reveals = e }))
    (λ h. inr (nowhere h))
  where
    Here : ℕ → Type 0
    Here k = (i : ℕ) × (i < t.size) × (t.reveals (suc k) i ≡ true)

    here? : (k : ℕ) → Here k ⊎ (¬ Here k)
    here? k = on (found (λ i. t.reveals (suc k) i ≡ true) (λ i. holds? (t.reveals (suc k) i)) t.size) inl
        (λ h. inr (λ r. h r.0 r.1 r.2))

    nowhere : ((k : ℕ) → k < suc S → ¬ Here k) → Unrevealed S t
    nowhere h zero p l i m = absurd (omega arith)
    nowhere h (suc k) p l i m = refuted (t.reveals (suc k) i) (λ e. h k l (i, m, e))

module _ {P S Q : ℕ} {t : Trace} (f : Facts P S Q t) where
  -- one that beats unrivalled from S + 2 on and is the only beater from S + Q + 2 on has won
  won : (h : ℕ) → h < t.size → Active t 0 h → ((k : ℕ) → suc (suc S) ≤ k → Unrivalled t h k)
      → ((k : ℕ) → S + Q + 2 ≤ k → Sole P t h k) → TopIfStill t h → Settled S Q t
  won h l a on-top sole high = record {
    primary = h;
    known = l;
    active = a;
    highest = high;
    led = λ k g. let s = sole k (omega arith) in record {
      leads = ripens f h l (suc (suc S)) (omega arith) on-top k (omega arith);
      follow = s.backs;
      alone = λ i m e. on (equal i h) (λ q. q) (λ d. absurd (backup_still
          (s.backs i m d (beater_active f k i m (primary-beats e))) (primary-beats e)));
    };
  }

  -- a reveal by S + 2 that finds the top beating at S + 2
  top_wins : (h : ℕ) → IsTop t h → (y j : ℕ) → 1 ≤ y → y ≤ suc (suc S) → j < t.size → t.reveals y j ≡ true
      → Beats t (suc (suc S)) h → Settled S Q t
  top_wins h top y j p g l r b =
      won h top.known top.has (top_beats_on f h top (suc (suc S)) (omega arith) b)
      (λ k m. sole_after f h top y j p l r k (omega arith)) (λ _. top.over)

  -- no reveal up to S + 1, and a beater at 2
  beater_wins : Unrevealed S t → (h : ℕ) → HighestBeater t h → Settled S Q t
  beater_wins un h top =
      won h top.known (beater_active f 2 h top.known top.has)
      (λ k m. unrivalled_from f un h top k (omega arith))
      (λ k m. sole_from f un h top k (omega arith))
      (λ none. let hid = un 2 (omega arith) (omega arith) in
      absurd (clash (no_new f 1 h (omega arith) top.known hid top.has) (none h top.known)))

  settles_with : (h : ℕ) → IsTop t h → Settled S Q t
  settles_with h top = on (reveal? S t)
      (λ r. let b = reveal_makes_beat f h top r.frame r.who r.early r.known r.reveals in
      top_wins h top r.frame r.who r.early (omega arith) r.known r.reveals
      (top_beats_on f h top (suc r.frame) (omega arith) b (suc (suc S)) (omega arith)).beats)
      (λ un. on (highest f.order (λ i. is_beating (t.role 2 i)) (λ i. beater_active f 2 i) t.size (omega arith))
      (λ none. let u = all-wake f un none h top.known top.has in
      top_wins h top (suc (suc S)) h (omega arith) (omega arith) top.known u.reveals
      (prospect_beats u.role))
      (λ b. beater_wins un b.0 b.1))

pub settles : Settling
settles P S Q t f i l a = on (highest f.order (active_at0 t) (λ _ _ a. a) t.size (omega arith))
    (λ none. absurd (clash a (none i l)))
    (λ r. settles_with f r.0 r.1)
