-- What a reveal brings. The top is the highest active server: from the next frame on it beats for
-- ever (lemmas A, B), reveals climb and end within P frames, and 2 * P frames later the top is the
-- only beater (lemma E).
use mathlib.Core.Path.{◌≡◌, sym, ◌∙◌}
use Prim.Native.Nat.{ℕ, suc, ◌+◌, ◌*◌, ◌<◌, ◌≤◌}
use mathlib.Core.Bool.{true}
use native.Mathlib.Omega.{arith}
use Rattle.lists.proofs.Cases.{on, less, clash, refuted}
use Rattle.roles.specs.declared.Role.TheVariants.{Backup}
use Rattle.traces.specs.Trace.{Trace, active_at0, Beats, HearsHigher, HearsLowReveal, HearsAny}
use Rattle.traces.specs.Facts.{Facts}
use Rattle.traces.proofs.Laws.{onward}
use Rattle.traces.proofs.Order.{Highest, not-over, rank, rank_lt, rank-small}
use Rattle.traces.proofs.Ways.{prospect_beats, backup_active, backup_still, backs_or_beats, beats-still, Went, went, rested, kept, yielded, answered, woke, heeded, waited}
use Rattle.traces.proofs.Senders.{NoReveal, active-at, beater_active, sender-active, revealer-active, revealer-beats, reveal_from}
use Rattle.traces.proofs.Beaters.{Unrivalled, Tops, sends-soon}
use Rattle.traces.proofs.Calm.{Near, Calm, silent_near, hears_h, calm_sleeps, calm-step}
use Rattle.traces.proofs.Sole.{Sole, sole_start, sole_on}

-- h is the highest of those that are active at 0
abbrev pub IsTop : Trace → ℕ → Type 0
IsTop t h = Highest t.size t.higher (active_at0 t) t.size h

module _ {P S Q : ℕ} {t : Trace} (f : Facts P S Q t) (h : ℕ) (top : IsTop t h) where
  -- nobody who sends is higher than the top
  pub top_unheard : (k : ℕ) → 1 ≤ k → ¬ HearsHigher t k h
  top_unheard k p r = not-over f.order (active_at0 t) h r.who top r.known
      (sender-active f k r.who p r.known r.sent) r.over

  pub top_tops : (k : ℕ) → Tops t h k
  top_tops k i l b = top.over i l (beater_active f k i l b)

  -- lemma A: the top stays
  pub top_stays : (k : ℕ) → 1 ≤ k → Beats t k h → Beats t (suc k) h
  top_stays k p b = beats-still f k h p top.known b (top_unheard k p)

  pub top_beats_on : (a : ℕ) → 1 ≤ a → Beats t a h → (k : ℕ) → a ≤ k → Unrivalled t h k
  top_beats_on a p b k l = record {
    beats = onward (λ k. Beats t k h) a b (λ k l. top_stays k (omega arith)) k l;
    unheard = top_unheard k (omega arith);
  }

  -- lemma B: a reveal makes the top beat in the next frame
  pub reveal_makes_beat : (k j : ℕ) → 1 ≤ k → j < t.size → t.reveals k j ≡ true → Beats t (suc k) h
  reveal_makes_beat k j p l r =
      on (backs_or_beats (t.role k h) (active-at f k h top.known ∙ top.has))
      (λ e. on (top.over j l (revealer-active f k j p l r))
      (λ q. absurd (backup_still e (rw q at (revealer-beats f k j p l r))))
      (λ q. let low : HearsLowReveal t k h = record { who = j; known = l; revealed = r; under = q } in
      prospect_beats ((f.quiet k h p top.known).rises e low).role))
      (top_stays k p)

  -- lemma E: after a reveal of j in frame y
  module _ (y j : ℕ) (p : 1 ≤ y) (l : j < t.size) (r : t.reveals y j ≡ true) where
    pub top_after : (k : ℕ) → suc y ≤ k → Unrivalled t h k
    top_after = top_beats_on (suc y) (omega arith) (reveal_makes_beat y j p l r)

    -- all but j hear it, and j beats
    heard : (i : ℕ) → t.role y i ≡ Backup → HearsAny t y i
    heard i e = hears_h f j l y i (revealer-beats f y j p l r) e (f.sent y j l r)

    calm-start : Calm P t h (suc y)
    calm-start i g e = go (went f y i p g)
      where
        go : Went S t y i → Near P t h (suc y) i
        go (rested a q s) = absurd (clash (backup_active (sym q ∙ e)) a)
        go (kept b u d o) = absurd (backup_still e d)
        go (yielded b u d) = silent_near P t h (suc y) i d
        go (answered a u d) = absurd (backup_still e (prospect_beats d.role))
        go (woke a u s d) = absurd (u (heard i a))
        go (heeded a u d) = silent_near P t h (suc y) i d
        go (waited a u d) = absurd (u (heard i a))

    calm-after : (k : ℕ) → suc y ≤ k → Calm P t h k
    calm-after = onward (Calm P t h) (suc y) calm-start
        (λ k g. calm-step f h top.known k (omega arith) (top_after k g))

    -- from y on a reveal answers one of a lower server
    climbs : (k i : ℕ) → y ≤ k → i < t.size → t.reveals (suc k) i ≡ true → HearsLowReveal t k i
    climbs k i g m s = on (reveal_from f k i (omega arith) m s) (λ z. z) (λ w. absurd (on (less y k)
        (λ q. calm_sleeps f h top.known k i (omega arith) m (top_after k q).beats (calm-after k q) w)
        (λ q. let e : k ≡ y = omega arith in let z : ¬ HearsAny t y i = rw e at w.deaf in
        z (heard i (rw e at w.role)))))

    -- so who reveals in frame k has k - y active servers below it
    climbed : (k : ℕ) → y ≤ k → (i : ℕ) → i < t.size → t.reveals k i ≡ true
        → k ≤ y + rank t.size (active_at0 t) t.higher i
    climbed = onward
        (λ k. (i : ℕ) → i < t.size → t.reveals k i ≡ true → k ≤ y + rank t.size (active_at0 t) t.higher i) y
        (λ i g s. omega arith)
        (λ k g below i m s. let c = climbs k i g m s in
        let q = below c.who c.known c.revealed in
        let a = revealer-active f k c.who (omega arith) c.known c.revealed in
        let z = rank_lt f.order i c.who m c.known a c.under in omega arith)

    pub no_more : (k : ℕ) → y + P ≤ k → NoReveal t k
    no_more k g i m = refuted (t.reveals k i) (λ s.
        let q = climbed k (omega arith) i m s in
        let z = rank-small f.order i m (revealer-active f k i (omega arith) m s) in omega arith)

    -- T sends within P frames more, and then it is the only beater
    pub sole_after : (k : ℕ) → y + 2 * P ≤ k → Sole P t h k
    sole_after k g =
        let b = sends-soon f h top.known (y + P) (omega arith) (λ k m _. (top_after k (omega arith)).beats) in
        let x = b.frame in
        let start = sole_start f h top.known x (omega arith) (top_after x (omega arith)).beats (top_tops x)
        b.sent (no_more (suc x) (omega arith)) in
        sole_on f h top.known (suc x) (omega arith) start k (omega arith)
