-- A frame in which nothing happens. Assumes nothing.
use mathlib.Core.Bool.{Bool, false, ◌||◌}
use mathlib.Core.Path.{◌≡◌, refl, subst}
use Prim.Native.Nat.{ℕ, zero, suc, ◌+◌, ◌<◌}
use native.Mathlib.Omega.{arith}
use lib.ListN.{length}
use Rattle.lists.specs.Lists.{any_below}
use Rattle.lists.proofs.Cases.{clash, or_false, refuted}
use Rattle.std.specs.List.{list_any}
use Rattle.std.proofs.lemmas.List.Folds.{list_any_at}
use Rattle.server.specs.declared.Server.{Server}
use Rattle.server.specs.Server.{absent, sent_any}
use Rattle.server.specs.Timers.{timed}
use Rattle.group.specs.declared.State.{State}
use Rattle.group.specs.Hearing.{place}
use Rattle.frame.specs.Answers.{ticks_in}
use Rattle.frame.specs.Steps.{resting}
use Rattle.frame.proofs.Quiet.{no_timer, quiet_frame}
use Rattle.channel.specs.Steps.{Quiet}

-- a server of c sent in its frame, or has a timer due in the next
abbrev pub stirring : State → Server → Bool
stirring c s = sent_any s || ticks_in s.role (c.frame + 1) c.period s

none_any : (p : ℕ → Bool) (n : ℕ) → ((i : ℕ) → i < n → p i ≡ false) → any_below n p ≡ false
unfolding any_below
none_any p zero f = refl
none_any p (suc n) f = rw (none_any p n (λ i h. f i (omega arith)), f n (omega arith))

pub quiet_next : (c : State) → length c.servers ≡ 16 → list_any (stirring c) c.servers ≡ false → Quiet c
quiet_next c long e =
    let q = quiet_frame c (c.frame + 2) (none_any (λ (i : ℕ). sent_any (place c i)) 16 (λ i h. (each i h).0)) long (record { all = λ i h. record { rests = λ u a b. rests i h u a b } }) (omega arith) in
    record { next = q.0; silent = q.1 }
  where
    each : (i : ℕ) → i < 16 → (sent_any (place c i) ≡ false) × (ticks_in (place c i).role (c.frame + 1) c.period (place c i) ≡ false)
    each i h =
        or_false _ _
        (refuted (stirring c (place c i)) (λ t. clash (list_any_at (stirring c) c.servers i absent (omega (arith, long)) t) e))

    rests : (i : ℕ) → i < 16 → (u : ℕ) → c.frame < u → u < c.frame + 2 → timed u c.period (place c i) ≡ resting (place c i)
    rests i h u a b =
        let next : c.frame + 1 ≡ u = omega arith in
        subst (λ (t : ℕ). timed t c.period (place c i) ≡ resting (place c i)) next (no_timer (c.frame + 1) c.period (place c i) (place c i).role refl (each i h).1)
