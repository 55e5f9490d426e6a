-- The facts of the trace of a sound channel whose links are whole, and so: it settles. Assumes
-- nothing.
use mathlib.Core.Bool.{true, not}
use mathlib.Core.Path.{◌≡◌, refl, sym, ap, subst, ◌∙◌}
use Prim.Native.Nat.{ℕ, zero, suc, ◌-◌, ◌<◌, ◌≤◌}
use native.Mathlib.Omega.{arith}
use borrow.Author.Tests.{ne_eqb}
use Rattle.lists.specs.Lists.{count_below}
use Rattle.lists.proofs.Cases.{tested, on, clash}
use Rattle.lists.proofs.Counting.{count_le}
use Rattle.heartbeat.proofs.Order as ranks
use Rattle.periods.specs.declared.Period.{Period}
use Rattle.periods.specs.Period.{silence_limit, prospect_limit, beat_limit}
use Rattle.server.specs.Server.{rank_of, sent_any}
use Rattle.server.proofs.Sent.{reveal_any}
use Rattle.periods.proofs.Limits.{silence_limit_lem, prospect_limit_lem}
use Rattle.group.specs.declared.State.{State}
use Rattle.group.specs.Hearing.{place, over}
use Rattle.roles.specs.Roles.{is_active}
use Rattle.traces.specs.Trace.{Trace, active_at0}
use Rattle.traces.specs.Facts.{Order, Limits, Ages, FirstStep, QuietStep, Facts}
use Rattle.traces.specs.Settling.{Settled}
use Rattle.traces.proofs.Settle.{settles}
use Rattle.reached.proofs.Young.{Young}
use Rattle.reached.proofs.Sound.{Sound, seated_in, AllWhole, nothing-sent, rests, active-kept, revealer}
use Rattle.reached.proofs.Run.{runs, trace_of, sound-runs, period_run, no_pass_run}
use Rattle.reached.proofs.Quiet.{quiet_step}

module _ (c : State) (sound : Sound c) (links : AllWhole c) where
  abbrev p : Period
  p = c.period

  abbrev t : Trace
  t = trace_of c

  active-first : (i : ℕ) → active_at0 t i ≡ is_active (place c i).role
  unfolding runs
  active-first i = refl

  ordered : Order 16 (active_at0 t) (over c)
  ordered =
      record {
        irreflexive = λ i l. ranks.irreflexive (rank_of (place c i));
        transitive = λ i j k l m n. ranks.transitive (rank_of (place c i)) (rank_of (place c j)) (rank_of (place c k));
        total = λ i j l m a b d.
            ranks.total (rank_of (place c i)) (rank_of (place c j)) (sound.apart i j l m d (sound.seated i l (sym (active-first i) ∙ a)));
      }

  -- the active are seated, and so no more than P
  limited : Limits (count_below (active_at0 t) 16) (beat_limit p) (silence_limit p) (prospect_limit p)
  limited =
      let m =
      count_le (active_at0 t) (seated_in c) 16
      (λ i l a. ap not (ne_eqb (place c i).identity 0 (sound.seated i l (sym (active-first i) ∙ a)))) in
      let f = sound.fits in
      record { period = sound.period; fits = omega arith; silence_limit_lem = silence_limit_lem p; prospect_limit_lem = prospect_limit_lem p }

  first_step : (i : ℕ) → i < 16 → FirstStep t i
  unfolding runs
  first_step i l =
      record {
        active-kept = active-kept c sound i l;
        sender-active = λ q.
            on (tested (is_active (place c i).role))
            (λ a. a)
            (λ a. absurd (clash q (ap sent_any (rests c sound i l a) ∙ nothing-sent (place c i))));
        revealer-beats = revealer c sound i l;
      }

  aged : (k i : ℕ) → i < 16 → Ages (beat_limit p) (silence_limit p) (prospect_limit p) t k i
  aged k i l =
      let y : Young p (runs k c).frame (place (runs k c) i) =
      subst (λ (q : Period). Young q (runs k c).frame (place (runs k c) i)) (period_run c sound links k) ((sound-runs c sound links k).young i l) in
      record {
        beat-young = λ e. let past = y.beat-past in let due = y.beat-young e in omega arith;
        prospect_young = λ e. let past = y.prospect_past in let due = y.prospect_young e in omega arith;
        silence-young = λ e. let past = y.silence-past in let due = y.silence-young e in omega arith;
      }

  stepped : (k i : ℕ) → 1 ≤ k → i < 16 → QuietStep (beat_limit p) (silence_limit p) (prospect_limit p) t k i
  stepped zero i h l = absurd (omega arith)
  stepped (suc k) i h l = quiet_step c sound links (suc k) i l (no_pass_run c sound links k)

  facts : Facts (beat_limit p) (silence_limit p) (prospect_limit p) t
  facts =
      record {
        order = ordered;
        limits = limited;
        sent = λ k i l e. reveal_any (place (runs k c) i) e;
        first = first_step;
        ages = λ k i h l. aged k i l;
        quiet = stepped;
      }

  pub channel-settles : (i : ℕ) → i < 16 → is_active (place c i).role ≡ true → Settled (silence_limit p) (prospect_limit p) t
  channel-settles i l a = settles (beat_limit p) (silence_limit p) (prospect_limit p) t facts i l (active-first i ∙ a)
