-- One who beats and hears nobody higher: it sends within P frames, and is primary after Q.
use mathlib.Core.Path.{◌≡◌}
use mathlib.Core.Logic.{◌⊎◌, inl, inr}
use mathlib.Core.Bool.{true}
use Prim.Native.Nat.{ℕ, zero, suc, ◌+◌, ◌<◌, ◌≤◌}
use native.Mathlib.Omega.{arith}
use Rattle.lists.proofs.Cases.{on, clash}
use Rattle.roles.specs.declared.Role.TheVariants.{Prospect, Primary}
use Rattle.traces.specs.Trace.{Trace, Beats, HearsHigher}
use Rattle.traces.specs.Facts.{Facts}
use Rattle.traces.proofs.Laws.{upto, onward}
use Rattle.traces.proofs.Order.{no_both}
use Rattle.traces.proofs.Ways.{beating, prospect_on}
use Rattle.traces.proofs.Senders.{sender-beats, older}

-- h beats in frame k, and hears nobody higher
pub record Unrivalled (t : Trace) (h k : ℕ) : Type 0 where
  pub beats : Beats t k h
  pub unheard : ¬ HearsHigher t k h

-- no beater of frame k is higher than h
abbrev pub Tops : Trace → ℕ → ℕ → Type 0
Tops t h k = (i : ℕ) → i < t.size → Beats t k i → (i ≡ h) ⊎ (t.higher h i ≡ true)

-- h sends in a frame from a on, before b
pub record SendsIn (t : Trace) (h a b : ℕ) : Type 0 where
  pub frame : ℕ
  pub late : a ≤ frame
  pub soon : frame < b
  pub sent : t.sends frame h ≡ true

module _ {P S Q : ℕ} {t : Trace} (f : Facts P S Q t) (h : ℕ) (known : h < t.size) where
  -- who is the highest beater hears nobody higher
  pub tops-unheard : (k : ℕ) → 2 ≤ k → Tops t h k → ¬ HearsHigher t k h
  tops-unheard k p top r = on (top r.who r.known (sender-beats f k r.who p r.known r.sent))
      (λ e. clash (rw e at r.over) (f.order.irreflexive h known))
      (λ e. no_both f.order h r.who known r.known e r.over)

  -- from a + Q on it is primary
  pub ripens : (a : ℕ) → 1 ≤ a → ((k : ℕ) → a ≤ k → Unrivalled t h k) → (k : ℕ) → a + Q ≤ k → t.role k h ≡ Primary
  ripens a p on-top k l = on (onward Grown a first next k (omega arith)) (λ e. e)
      (λ r. let y = (f.ages k h (omega arith) known).prospect_young r.0 in absurd (omega arith))
    where
      Grown : ℕ → Type 0
      Grown k = (t.role k h ≡ Primary) ⊎ ((t.role k h ≡ Prospect) × (k ≤ t.prospect_age k h + a))

      first : Grown a
      first = on (beating (t.role a h) (on-top a (omega arith)).beats) (λ e. inr (e, omega arith)) inl

      next : (k : ℕ) → a ≤ k → Grown k → Grown (suc k)
      next k l (inl e) = inl ((f.quiet k h (omega arith) known).stays-primary e (on-top k l).unheard)
      next k l (inr r) = on (prospect_on f k h (omega arith) known r.0 (on-top k l).unheard) inl
          (λ q. inr (q.0, omega arith))

  -- it sends within P frames
  pub sends-soon : (a : ℕ) → 2 ≤ a → ((k : ℕ) → a ≤ k → k < a + P → Beats t k h) → SendsIn t h a (a + P)
  sends-soon zero p beats = absurd (omega arith)
  sends-soon (suc a) p beats =
      on (upto Older (suc a) (a + P) first next (a + P) (omega arith) (omega arith)) (λ r. r)
      (λ g. let y = (f.ages (a + P) h (omega arith) known).beat-young (beats (a + P) (omega arith) (omega arith)) in
      absurd (omega arith))
    where
      Older : ℕ → Type 0
      Older k = SendsIn t h (suc a) (suc a + P) ⊎ (k ≤ t.beat_age k h + a)

      first : Older (suc a)
      first = on (older f a h (omega arith) known (beats (suc a) (omega arith) (omega arith)))
          (λ s. inl (record { frame = suc a; late = omega arith; soon = omega arith; sent = s }))
          (λ g. inr (omega arith))

      next : (k : ℕ) → suc a ≤ k → k < a + P → Older k → Older (suc k)
      next k l g (inl r) = inl r
      next k l g (inr o) = on (older f k h (omega arith) known (beats (suc k) (omega arith) (omega arith)))
          (λ s. inl (record { frame = suc k; late = omega arith; soon = omega arith; sent = s }))
          (λ e. inr (omega arith))
