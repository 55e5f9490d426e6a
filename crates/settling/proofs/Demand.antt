-- Demand 3: the channel after any list of calls is sound, its links are whole where none is cut,
-- and the calls that follow only count frames. Assumes nothing.
use mathlib.Core.Bool.{true, false, not}
use mathlib.Core.Path.{◌≡◌, refl, sym, ap, subst, ◌∙◌}
use mathlib.Core.List.{List, [], ◌∷◌}
use Prim.Native.Nat.{ℕ, zero, suc, ◌+◌, ◌-◌, ◌*◌, ◌≤◌}
use native.Mathlib.Omega.{arith}
use borrow.Author.Tests.{eq-eqb}
use lib.Dec.{eqb}
use lib.ListN.{length, get_or-replicate}
use Rattle.lists.proofs.Cases.{less, chosen, fst_true, snd_true, on, clash}
use Rattle.periods.specs.declared.Period.{Period}
use Rattle.periods.specs.Period.{silence_limit, prospect_limit}
use Rattle.group.specs.declared.State.{State}
use Rattle.group.specs.Outcome.{number_in}
use Rattle.group.specs.Table.{most, fresh}
use Rattle.group.specs.Hearing.{place, link_of}
use Rattle.group.specs.Frame.{advanced}
use Rattle.group.specs.Advance.{advanced_by}
use Rattle.group.specs.Calls.{Call, verb, advance, advance_to, outcome_of, slice_of, call_number, call_channel, channel_after}
use Rattle.group.proofs.Laws.{every_call_keeps_the_table}
use Rattle.traces.specs.Settling.{Settled}
use Rattle.reached.proofs.Sound.{Sound, AllWhole}
use Rattle.reached.proofs.Run.{runs, trace_of, frame_run, rank_run}
use Rattle.reached.proofs.Instance.{channel-settles}
use Rattle.reached.proofs.Made.{sound-fresh}
use Rattle.reached.proofs.Reached.{handed, sound-after}
use Rattle.reached.proofs.Links.{links-after}
use Rattle.settling.specs.Demand.{refused_if_verb, verbs_refused, settling_time, Led, Settles, DemandThree}
use Rattle.settling.specs.Whole.{LinksAreAsCut}

-- ---- calls that only count frames

runs-more : (m n : ℕ) (c : State) → runs m (runs n c) ≡ runs (m + n) c
unfolding runs
runs-more zero n c = ap (λ (k : ℕ). runs k c) (let e : n ≡ 0 + n = omega arith in e)
runs-more (suc m) n c = ap advanced (runs-more m n c) ∙ ap (λ (k : ℕ). runs k c) (let e : suc (m + n) ≡ suc m + n = omega arith in e)

-- to advance by n is to run n frames
pub by_runs : (n : ℕ) (c : State) → advanced_by n c ≡ runs n c
unfolding advanced_by runs
by_runs zero c = refl
by_runs (suc n) c = by_runs n (advanced c) ∙ runs-more n 1 c ∙ ap (λ (k : ℕ). runs k c) (let e : n + 1 ≡ suc n = omega arith in e)

accepted-verb : (c : State) (k : Call) → number_in (outcome_of c k) (length (slice_of k)) ≡ 0 → eqb (call_number c k) 0 ≡ true
unfolding call_number
accepted-verb c k z = eq-eqb (number_in (outcome_of c k) (length (slice_of k))) 0 z

-- the frames that a call counts, if it is no accepted verb
one-call : (c : State) (k : Call) → refused_if_verb c k ≡ true → (m : ℕ) × (call_channel c k ≡ runs m c)
unfolding runs
one-call c k e = on (handed c k) (λ r. taken k e r.0 r.1) (λ r. (0, r.1))
  where
    taken :
        (k : Call) → refused_if_verb c k ≡ true → number_in (outcome_of c k) (length (slice_of k)) ≡ 0 →
        call_channel c k ≡ (outcome_of c k).channel → (m : ℕ) × (call_channel c k ≡ runs m c)
    taken (verb v a b d) f z h = absurd (clash (sym (chosen true refl) ∙ f) (ap not (accepted-verb c (verb v a b d) z)))
    taken (advance d) f z h = (1, h)
    taken (advance_to t d) f z h = (t - c.frame, h ∙ by_runs (t - c.frame) c)

pub frames-only : (c : State) (ls : List Call) → verbs_refused c ls ≡ true → (m : ℕ) × (channel_after c ls ≡ runs m c)
unfolding channel_after verbs_refused runs
frames-only c [] e = (0, refl)
frames-only c (k ∷ ls) e =
    let a = one-call c k (fst_true (refused_if_verb c k) (verbs_refused (call_channel c k) ls) e) in
    let b = frames-only (call_channel c k) ls (snd_true (refused_if_verb c k) (verbs_refused (call_channel c k) ls) e) in
    (b.0 + a.0, b.1 ∙ ap (runs b.0) a.1 ∙ runs-more b.0 a.0 c)

-- ---- periods

period-after : (c : State) (ks : List Call) → (channel_after c ks).period ≡ c.period
unfolding channel_after
period-after c [] = refl
period-after c (k ∷ ks) = period-after (call_channel c k) ks ∙ (every_call_keeps_the_table c k).period

-- ---- links

pub links_are_as_cut : LinksAreAsCut
links_are_as_cut n t ks ok i j li lj =
    links-after (fresh t n) ks (sound-fresh t n ok) i j li lj false
    (get_or-replicate (most * most) (link_of i j) true false (omega arith))

-- ---- the theorem

-- of a sound channel whose links are whole
module _ (n : ℕ) (c : State) (sound : Sound c) (links : AllWhole c) (same : c.period.frames ≡ n) where
  -- m frames on, if they are enough
  led-at :
      (s : Settled (silence_limit c.period) (prospect_limit c.period) (trace_of c)) (m : ℕ) → settling_time n ≤ m → Led c s.primary (runs m c)
  unfolding runs
  led-at s m late =
      let l = s.led m (omega (arith, same, late)) in
      record { primary = l.leads; alone = l.alone; backups = l.follow; ranks = rank_run c sound links m }

  settled : Settled (silence_limit c.period) (prospect_limit c.period) (trace_of c) → Settles (settling_time n) c
  unfolding runs
  settled s =
      record {
        server = s.primary;
        known = s.known;
        seated = on (less 0 (place c s.primary).identity) (λ l. l) (λ l. absurd (sound.seated s.primary s.known s.active (omega arith)));
        was = s.active;
        led = λ ls e late.
            let r = frames-only c ls e in
            let g : (channel_after c ls).frame ≡ c.frame + r.0 = ap (λ (d : State). d.frame) r.1 ∙ frame_run c sound links r.0 in
            subst (Led c s.primary) (sym r.1) (led-at s r.0 (omega (arith, g, late)));
        within = λ k late. subst (Led c s.primary) (sym (by_runs k c)) (led-at s k late);
        highest = s.highest;
      }

pub settles : DemandThree
settles n t ks ok uncut i l a =
    settled n c sound links (ap (λ (p : Period). p.frames) (period-after first ks)) (channel-settles c sound links i l a)
  where
    first : State
    first = fresh t n

    c : State
    c = channel_after first ks

    begun : Sound first
    begun = sound-fresh t n ok

    sound : Sound c
    sound = sound-after first ks begun

    links : AllWhole c
    links i j li lj = links_are_as_cut n t ks ok i j li lj ∙ ap not (uncut (place first i).identity (place first j).identity)
