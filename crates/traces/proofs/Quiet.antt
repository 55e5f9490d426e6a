-- Traces in which nobody reveals for long: nobody beats at 2, and the top wakes (lemma C); or
-- somebody does, and the highest of them stays the only one (lemma D).
use mathlib.Core.Path.{◌∙◌}
use mathlib.Core.Logic.{◌⊎◌, inl, inr}
use Prim.Native.Nat.{ℕ, suc, ◌+◌, ◌<◌, ◌≤◌}
use native.Mathlib.Omega.{arith}
use Rattle.lists.proofs.Cases.{on, less, clash, refuted}
use Rattle.roles.specs.Roles.{is_beating}
use Rattle.traces.specs.Trace.{Trace, Active, Beats, HearsAny}
use Rattle.traces.specs.Facts.{Facts, RevealingProspect, Waited}
use Rattle.traces.specs.Settling.{NoneBeats}
use Rattle.traces.proofs.Laws.{upto}
use Rattle.traces.proofs.Order.{Highest}
use Rattle.traces.proofs.Ways.{beats-still, Went, went, rested, kept, yielded, answered, woke, heeded, waited}
use Rattle.traces.proofs.Senders.{NoReveal, active-at, sender-beats, no_new}
use Rattle.traces.proofs.Beaters.{Unrivalled, Tops, tops-unheard, sends-soon}
use Rattle.traces.proofs.Sole.{Sole, sole_unrivalled, sole_start, sole_on}

-- nobody reveals in the frames 1 .. S + 1
abbrev pub Unrevealed : ℕ → Trace → Type 0
Unrevealed S t = (k : ℕ) → 1 ≤ k → k ≤ suc S → NoReveal t k

-- h is the highest of those that beat at 2
abbrev pub HighestBeater : Trace → ℕ → Type 0
HighestBeater t h = Highest t.size t.higher (λ i. is_beating (t.role 2 i)) t.size h

module _ {P S Q : ℕ} {t : Trace} (f : Facts P S Q t) where
  -- if nobody beats, nothing is heard
  nothing-heard : (k i : ℕ) → 2 ≤ k → NoneBeats t k → ¬ HearsAny t k i
  nothing-heard k i p still r = clash (sender-beats f k r.who p r.known r.sent) (still r.who r.known)

  -- so an active server is woken or waits on
  wakes_or_waits : (k i : ℕ) → 2 ≤ k → i < t.size → NoneBeats t k → Active t 0 i → RevealingProspect t (suc k) i ⊎ Waited t k i
  wakes_or_waits k i p l still a = go (went f k i (omega arith) l)
    where
      go : Went S t k i → RevealingProspect t (suc k) i ⊎ Waited t k i
      go (rested z q s) = absurd (clash (active-at f k i l ∙ a) z)
      go (kept b y c o) = absurd (clash b (still i l))
      go (yielded b y u) = absurd (clash b (still i l))
      go (answered z y u) = inl u
      go (woke z y g u) = inl u
      go (heeded z y u) = absurd (nothing-heard k i p still y)
      go (waited z y u) = inr u

  module _ (un : Unrevealed S t) where
    -- lemma C: if nobody beats at 2 and nobody reveals up to S + 1, every active server reveals in
    -- S + 2
    pub all-wake : NoneBeats t 2 → (i : ℕ) → i < t.size → Active t 0 i → RevealingProspect t (suc (suc S)) i
    all-wake none i l a =
        let end = upto Silent 2 (suc S) (none, omega arith) next (suc S) (omega arith) (omega arith) in
        on (wakes_or_waits (suc S) i (omega arith) l end.0 a) (λ u. u)
        (λ w. let young = (f.ages (suc (suc S)) i (omega arith) l).silence-young w.role in
        let older = w.age in absurd (omega arith))
      where
        Silent : ℕ → Type 0
        Silent k = NoneBeats t k × (k ≤ t.silence_age k i + 2)

        next : (k : ℕ) → 2 ≤ k → k < suc S → Silent k → Silent (suc k)
        next k p g (none, age) =
            let no_one = un (suc k) (omega arith) g in (
              λ j m. refuted (is_beating (t.role (suc k) j))
                  (λ b. clash (no_new f k j (omega arith) m no_one b) (none j m)),
              on (wakes_or_waits k i p l none a)
                  (λ u. absurd (clash u.reveals (no_one i l))) (λ w. let older = w.age in omega arith),
            )

    -- lemma D: h is the highest that beats at 2, and nobody reveals up to S + 1
    module _ (h : ℕ) (top : HighestBeater t h) where
      -- nobody newly beats, so h stays the highest beater
      stays-highest : (k : ℕ) → 2 ≤ k → k ≤ suc S → Beats t k h × Tops t h k
      stays-highest = upto (λ k. Beats t k h × Tops t h k) 2 (suc S) (top.has, top.over)
          (λ k p g r. (
            beats-still f k h (omega arith) top.known r.0 (tops-unheard f h top.known k p r.1),
            λ i l b. r.1 i l (no_new f k i (omega arith) l (un (suc k) (omega arith) g) b),
          ))

      -- it sends, and from P + 2 on it is the only beater
      pub sole_from : (k : ℕ) → P + 2 ≤ k → Sole P t h k
      sole_from k g =
          let b = sends-soon f h top.known 2 (omega arith) (λ k p g. (stays-highest k p (omega arith)).0) in
          let x = b.frame in
          let r = stays-highest x (omega arith) (omega arith) in
          let start = sole_start f h top.known x (omega arith) r.0 r.1 b.sent
          (un (suc x) (omega arith) (omega arith)) in
          sole_on f h top.known (suc x) (omega arith) start k (omega arith)

      pub unrivalled_from : (k : ℕ) → 2 ≤ k → Unrivalled t h k
      unrivalled_from k p = on (less k (suc S))
          (λ g. let r = stays-highest k p (omega arith) in
          record { beats = r.0; unheard = tops-unheard f h top.known k p r.1 })
          (λ g. sole_unrivalled f h top.known k p (sole_from k (omega arith)))
