-- The frames of a channel as a trace, and who hears whom in it. Assumes nothing.
use mathlib.Core.Bool.{true, false, not}
use mathlib.Core.Path.{◌≡◌, refl, sym, ap, ap₂, subst, ◌∙◌}
use mathlib.Core.List.{[], Memᴰ}
use Prim.Native.Nat.{ℕ, zero, suc, ◌+◌, ◌-◌, ◌<◌}
use native.Mathlib.Omega.{arith}
use borrow.Author.Tests.{eq-eqb, ne_eqb, eqb-false, not-true}
use lib.Dec.{eqb}
use Rattle.lists.proofs.Cases.{tested, and_true, fst_true, snd_true, on, clash}
use Rattle.lists.proofs.Clear.{every_of}
use Rattle.heartbeat.specs.declared.Rank.{Rank}
use Rattle.heartbeat.specs.declared.Heartbeat.{Heartbeat}
use Rattle.heartbeat.specs.Rank.{higher}
use Rattle.heartbeat.specs.Heartbeat.{is_set}
use Rattle.heartbeat.proofs.Order.{irreflexive}
use Rattle.server.specs.declared.Server.{Server}
use Rattle.server.specs.Server.{rank_of, cleared, reveal_of, sent_any}
use Rattle.server.specs.Hearing.{from_higher, from_lower, lower_reveals}
use Rattle.server.proofs.Sent.{some-sent, reveal_sent, reveal_any, sent-rank, sent_reveal, sent-unmarked}
use Rattle.group.specs.declared.State.{State}
use Rattle.group.specs.Hearing.{place, over, hears_from, inbox}
use Rattle.group.specs.Frame.{advanced}
use Rattle.traces.specs.Trace.{Trace, HearsHigher, HearsLowReveal, HearsAny}
use Rattle.group.proofs.Next.{Apart}
use Rattle.group.proofs.Inbox.{in_inbox, of-inbox}
use Rattle.reached.proofs.Heard.{unmarked_all, no_call, empty?}
use Rattle.reached.proofs.Sound.{Sound, NoPass, AllWhole, rank-kept, hears-apart, sound-advanced, no_pass}

-- the channel k frames on, whether the day has so many or not
unfoldable pub runs : ℕ → State → State
runs zero c = c
runs (suc k) c = advanced (runs k c)

abbrev pub trace_of : State → Trace
trace_of c =
    record {
      size = 16;
      higher = over c;
      role = λ k i. (place (runs k c) i).role;
      silence_age = λ k i. (runs k c).frame - (place (runs k c) i).silence;
      beat_age = λ k i. (runs k c).frame - (place (runs k c) i).beat;
      prospect_age = λ k i. (runs k c).frame - (place (runs k c) i).prospect;
      sends = λ k i. sent_any (place (runs k c) i);
      reveals = λ k i. (place (runs k c) i).reveal;
    }

module _ (c : State) (sound : Sound c) (links : AllWhole c) where
  pub sound-runs : (k : ℕ) → Sound (runs k c)
  unfolding runs
  sound-runs zero = sound
  sound-runs (suc k) = sound-advanced (runs k c) (sound-runs k)

  pub links_run : (k : ℕ) → AllWhole (runs k c)
  unfolding runs advanced
  links_run zero = links
  links_run (suc k) = links_run k

  pub period_run : (k : ℕ) → (runs k c).period ≡ c.period
  unfolding runs advanced
  period_run zero = refl
  period_run (suc k) = period_run k

  pub frame_run : (k : ℕ) → (runs k c).frame ≡ c.frame + k
  unfolding runs advanced
  frame_run zero = omega arith
  frame_run (suc k) = let e = frame_run k in omega arith

  pub rank_run : (k i : ℕ) → i < 16 → rank_of (place (runs k c) i) ≡ rank_of (place c i)
  unfolding runs
  rank_run zero i h = refl
  rank_run (suc k) i h = rank-kept (runs k c) (sound-runs k) i h ∙ rank_run k i h

  pub over_run : (k i j : ℕ) → i < 16 → j < 16 → over (runs k c) i j ≡ over c i j
  over_run k i j h l = ap₂ higher (rank_run k i h) (rank_run k j l)

  pub no_pass_run : (k : ℕ) → NoPass (runs (suc k) c)
  unfolding runs
  no_pass_run k = no_pass (runs k c) (sound-runs k)

  module _ (k i : ℕ) (known : i < 16) where
    abbrev at : State
    at = runs k c

    abbrev hearer : Server
    hearer = cleared (place (runs k c) i)

    -- another place that sends is heard
    heard-from : (w : ℕ) → w < 16 → (w ≡ i → ⊥) → sent_any (place at w) ≡ true → hears_from at i w ≡ true
    unfolding hears_from
    heard-from w h d e = and_true (ap not (ne_eqb w i d)) (and_true e (links_run k w i h known))

    from-other : (w : ℕ) → hears_from at i w ≡ true → (w ≡ i → ⊥) × (sent_any (place at w) ≡ true)
    unfolding hears_from
    from-other w e = (
      eqb-false w i (not-true (eqb w i) (fst_true (not (eqb w i)) _ e)),
      fst_true (sent_any (place at w)) _ (snd_true (not (eqb w i)) _ e),
    )

    other-rank : (a b : ℕ) → over c a b ≡ true → a ≡ b → ⊥
    other-rank a b o e = clash (subst (λ (x : ℕ). over c x b ≡ true) e o) (irreflexive (rank_of (place c b)))

    apart : Apart at i
    apart = hears-apart at (sound-runs k) i

    -- a higher sender
    pub higher_in : HearsHigher (trace_of c) k i → (h : Heartbeat) × Memᴰ h (inbox at i) × (from_higher hearer h ≡ true)
    higher_in r =
        let s = some-sent (place at r.who) r.sent in
        let d = other-rank r.who i r.over in (
          s.0,
          in_inbox at i apart r.who s.0 r.known (heard-from r.who r.known d r.sent) s.1,
          ap (λ (x : Rank). higher x (rank_of (place at i))) (sent-rank (place at r.who) s.0 s.1) ∙ over_run k r.who i r.known known ∙ r.over,
        )

    pub no_higher_in : ¬ HearsHigher (trace_of c) k i → (h : Heartbeat) → Memᴰ h (inbox at i) → from_higher hearer h ≡ false
    no_higher_in n h m =
        on (tested (from_higher hearer h))
        (λ e.
        let o = of-inbox at i apart h m in
        absurd (n (record {
          who = o.0;
          known = o.1;
          sent = (from-other o.0 o.2).1;
          over =
              sym (over_run k o.0 i o.1 known)
              ∙ sym (ap (λ (x : Rank). higher x (rank_of (place at i))) (sent-rank (place at o.0) h o.3))
              ∙ e;
        })))
        (λ e. e)

    -- a reveal of a lower sender
    pub low_in : HearsLowReveal (trace_of c) k i → (h : Heartbeat) × Memᴰ h (inbox at i) × (lower_reveals hearer h ≡ true)
    low_in r =
        let w = place at r.who in
        let m = reveal_sent w r.revealed in
        let d : r.who ≡ i → ⊥ = λ e. other-rank i r.who r.under (sym e) in (
          reveal_of w,
          in_inbox at i apart r.who (reveal_of w) r.known (heard-from r.who r.known d (reveal_any w r.revealed)) m,
          and_true refl (over_run k i r.who known r.known ∙ r.under),
        )

    pub no_low_in : ¬ HearsLowReveal (trace_of c) k i → no_call hearer (inbox at i) ≡ true
    no_low_in n =
        every_of (λ h. not (lower_reveals hearer h)) (inbox at i)
        (λ h m.
        on (tested (lower_reveals hearer h))
        (λ e.
        let o = of-inbox at i apart h m in
        let set = fst_true (is_set h.reveal) _ e in
        let low = snd_true (is_set h.reveal) (from_lower hearer h) e in
        absurd (n (record {
          who = o.0;
          known = o.1;
          revealed = sent_reveal (place at o.0) h o.3 set;
          under =
              sym (over_run k i o.0 known o.1)
              ∙ sym (ap (λ (x : Rank). higher (rank_of (place at i)) x) (sent-rank (place at o.0) h o.3))
              ∙ low;
        })))
        (λ e. ap not e))

    -- anybody
    pub any_in : HearsAny (trace_of c) k i → (h : Heartbeat) × Memᴰ h (inbox at i)
    any_in r =
        let s = some-sent (place at r.who) r.sent in
        (s.0, in_inbox at i apart r.who s.0 r.known (heard-from r.who r.known r.other r.sent) s.1)

    pub none_in : ¬ HearsAny (trace_of c) k i → inbox at i ≡ []
    none_in n =
        on (empty? (inbox at i))
        (λ e. e)
        (λ r.
        let o = of-inbox at i apart r.0 r.1 in
        let f = from-other o.0 o.2 in
        absurd (n (record { who = o.0; known = o.1; other = f.0; sent = f.1 })))

    -- where nobody passed, BS is nobody's
    pub unmarked_in : NoPass at → unmarked_all (inbox at i) ≡ true
    unmarked_in n =
        every_of (λ h. eqb h.bs 0) (inbox at i)
        (λ h m. let o = of-inbox at i apart h m in eq-eqb h.bs 0 (sent-unmarked (place at o.0) h o.3 (n o.0 o.1)))
