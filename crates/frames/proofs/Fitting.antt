-- As many frames as fit. Assumes nothing.
use Rattle.std.specs.Prelude.{Ok, Err}
use mathlib.Core.Bool.{Bool, true, false, not, ◌&&◌}
use mathlib.Core.Path.{◌≡◌, refl, sym, ap, ap₂, subst, ◌∙◌}
use mathlib.Core.Logic.{◌⊎◌, inl, inr, ⊎_elim}
use mathlib.Core.List.{List, [], ◌++◌, append-nil}
use Prim.Native.Nat.{ℕ, zero, suc, ◌+◌, ◌-◌, ◌≤◌, ◌<◌}
use native.Mathlib.Nat.{zero-add, suc-add}
use native.Mathlib.Omega.{arith}
use borrow.Author.Tests.{lt-ltb, ltb-true, le-leb, lt-leb, leb-true, leb-false, eq-eqb, ne_eqb, eqb-true, le-ltb}
use lib.Dec.{ltb, leb, eqb}
use lib.ListN.{length, length-append}
use Rattle.lists.specs.Choice.{choose}
use Rattle.lists.specs.Splice.{splice}
use Rattle.lists.proofs.Cases.{less, equal, on, tested, chosen, other, clash, and_true, and_right, fst_true, snd_true, and_left, not_so, not_some}
use Rattle.lists.proofs.Splicing.{splice-none}
use Rattle.refusal.specs.declared.Refusal.TheVariants.{Short}
use Rattle.periods.specs.declared.Period.{Period}
use Rattle.server.specs.declared.Server.{Server}
use Rattle.group.specs.declared.State.{State}
use Rattle.group.specs.Frame.{advanced, frame_lines, moved_to}
use Rattle.group.specs.Advance.{advanced_by, lines_by, fitting, frames_within, within_goes}
use Rattle.group.specs.Answers.{Gives}
use Rattle.group.proofs.Places.{frame-after}
use Rattle.group.proofs.Answering.{is-long, gives-refused, gives_so}
use Rattle.places.specs.Words.{servers_of}
use Rattle.frames.specs.declared.Stretched.{Stretched}
use Rattle.frame.specs.declared.Fared.{Fared}
use Rattle.frame.specs.Answers.{state_of, frame_fits, Plays}
use Rattle.frame.specs.Steps.{Out}
use Rattle.frames.specs.Steps.{Stepped, Jumps, Fares, Stretches, MovesWithin}
use Rattle.frame.proofs.Writing.{after-fits, start, chain, out_as}
use Rattle.group.proofs.Adding.{advanced_add, lines_add}
use Rattle.frames.proofs.Playing.{one-step, no_step, jumped}

-- ---- the number of frames that fit

one-fits : (n : ℕ) (c : State) (room : ℕ) → length (frame_lines c) ≤ room → fitting (suc n) c room ≡ suc (fitting n (advanced c) (room - length (frame_lines c)))
unfolding fitting
one-fits n c room h = rw (le-leb (length (frame_lines c)) room h, fitting)

pub none-fits : (n : ℕ) (c : State) (room : ℕ) → room < length (frame_lines c) → fitting n c room ≡ 0
unfolding fitting
none-fits zero c room h = refl
none-fits (suc n) c room h = rw (lt-leb (length (frame_lines c)) room h, fitting)

-- where k frames fit, the rest is what fits behind them
pub fit_add : (k m : ℕ) (c : State) (room : ℕ) → length (lines_by k c) ≤ room → fitting (k + m) c room ≡ k + fitting m (advanced_by k c) (room - length (lines_by k c))
unfolding advanced_by lines_by
fit_add zero m c room h =
    ap (λ (n : ℕ). fitting n c room) (zero-add m)
    ∙ ap (fitting m c) (let e : room ≡ room - 0 = omega arith in e)
    ∙ sym (zero-add (fitting m c (room - 0)))
fit_add (suc k) m c room h =
    let a = length (frame_lines c) in
    let b = length (lines_by k (advanced c)) in
    let e : length (frame_lines c ++ lines_by k (advanced c)) ≡ a + b = length-append (frame_lines c) (lines_by k (advanced c)) in
    ap (λ (n : ℕ). fitting n c room) (suc-add k m)
    ∙ one-fits (k + m) c room (omega arith)
    ∙ ap suc (fit_add k m (advanced c) (room - a) (omega arith))
    ∙ ap (λ (x : ℕ). suc (k + fitting m (advanced_by k (advanced c)) x)) (let q : (room - a) - b ≡ room - length (frame_lines c ++ lines_by k (advanced c)) = omega arith in q)
    ∙ sym (suc-add k (fitting m (advanced_by k (advanced c)) (room - length (frame_lines c ++ lines_by k (advanced c)))))

-- ---- one frame, if it fits

module _ (c : State) {w d : List ℕ} {at : ℕ} {r : Fared} {w' d' : List ℕ} (next : c.frame < 4294967295) (v : Plays c w d at r w' d') where
  -- whether it fits is a matter of its lines
  fits-is : frame_fits c d at ≡ leb (at + length (frame_lines c)) (length d)
  fits-is = ap (λ (b : Bool). b && leb (at + length (frame_lines c)) (length d)) (lt-ltb c.frame 4294967295 next)

  full_is : r.full ≡ not (leb (at + length (frame_lines c)) (length d))
  full_is = v.full ∙ ap not fits-is

  pub fares_one : r.full ≡ false → Fares c d at (servers_of w') (record { frame = c.frame + 1; at = r.at; full = false }) d'
  fares_one f =
      let fit : frame_fits c d at ≡ true = not_some _ (sym v.full ∙ f) in
      let room : at + length (frame_lines c) ≤ length d = leb-true _ _ (sym fits-is ∙ fit) in
      let o : Out true d at (frame_lines c) r.at d' =
      record {
        end = λ h. v.place ∙ chosen at fit ∙ sym (after-fits d at (frame_lines c) room);
        is = λ t h. v.slice ∙ chosen d fit;
        dry = λ t. absurd (clash refl t);
      } in
      record { full = sym f ∙ full_is; steps = let one : ◌≡◌ {A = ℕ} (choose false 0 1) 1 = other 0 refl in rw one (one-step c (v.words.servers ∙ chosen _ fit) o) }

  pub fares_not : r.full ≡ true → Fares c d at (servers_of w') (record { frame = c.frame; at = at; full = true }) d'
  fares_not f =
      let fit : frame_fits c d at ≡ false = not_so _ (sym v.full ∙ f) in
      let none : ◌≡◌ {A = ℕ} (choose true 0 1) 0 = chosen 1 refl in
      let same : d' ≡ d = v.slice ∙ other _ fit in
      let stay : servers_of w' ≡ c.servers = v.words.servers ∙ other _ fit in
      record { full = sym f ∙ full_is; steps = rw none (rw same (rw stay (no_step c))) }

-- ---- a jump, then one frame if it fits

module _ (c : State) {target s : ℕ} (j : Jumps c.period c.servers c.frame target s) where
  abbrev skipped : ℕ
  skipped = s - c.frame

  abbrev later : State
  later = moved_to c s c.servers

  lines-later : (n : ℕ) → lines_by (skipped + n) c ≡ lines_by n later
  lines-later n = lines_add skipped n c ∙ ap₂ (λ (x : List ℕ) (y : State). x ++ lines_by n y) (j.silent c.whole) (j.same c.whole)

  state-later : (n : ℕ) → advanced_by (skipped + n) c ≡ advanced_by n later
  state-later n = advanced_add skipped n c ∙ ap (advanced_by n) (j.same c.whole)

  -- no frame after the jump
  lines_none : lines_by (skipped + 0) c ≡ []
  unfolding lines_by
  lines_none = lines-later 0

  state-none : advanced_by (skipped + 0) c ≡ later
  unfolding advanced_by
  state-none = state-later 0

  -- one
  lines-one : length (lines_by (skipped + 1) c) ≡ length (frame_lines later)
  unfolding lines_by
  lines-one = ap length (lines-later 1 ∙ append-nil (frame_lines later))

  pub stretch_fares :
      {d : List ℕ} {at : ℕ} {l : List Server} {r : Stretched} {d' : List ℕ} → at ≤ length d → s < target → Fares later d at l r d' → Stretches c target d at l r d'
  stretch_fares {d} {at} {l} {r} {d'} room h v =
      on (tested r.full)
      (λ f.
      let none : ◌≡◌ {A = ℕ} (choose r.full 0 1) 0 = chosen 1 f in
      let short = leb-false (at + length (frame_lines later)) (length d) (not_so _ (sym v.full ∙ f)) in
      let from = j.from in
      record {
        count = skipped + 0;
        within = omega arith;
        fits = omega (arith, ap length lines_none);
        steps = jumped c j (rw none at v.steps);
        some = λ g. absurd (clash f g);
        stop = λ g. (omega arith, omega (arith, short, ap length lines_none, ap (λ (x : State). length (frame_lines x)) state-none));
      })
      (λ f.
      let one : ◌≡◌ {A = ℕ} (choose r.full 0 1) 1 = other 0 f in
      let enough = leb-true (at + length (frame_lines later)) (length d) (not_some _ (sym v.full ∙ f)) in
      let from = j.from in
      record {
        count = skipped + 1;
        within = omega arith;
        fits = omega (arith, lines-one, enough);
        steps = jumped c j (rw one at v.steps);
        some = λ g. omega arith;
        stop = λ g. absurd (clash g f);
      })

  -- the jump has reached the target
  pub stretch_jump : {d : List ℕ} {at : ℕ} → at ≤ length d → c.frame < target → target ≤ s → Stretches c target d at c.servers (record { frame = s; at = at; full = false }) d
  stretch_jump {d} {at} room h g =
      let from = j.from in
      let to = j.to in
      record {
        count = skipped + 0;
        within = omega arith;
        fits = omega (arith, ap length lines_none);
        steps = jumped c j (no_step later);
        some = λ z. omega arith;
        stop = λ z. absurd (clash z refl);
      }

-- ---- many: n frames after c, all of which fit

pub record Within (c : State) (target : ℕ) (d₀ d : List ℕ) (l : List Server) (t at : ℕ) (full : Bool) : Type 0 where
  pub count : ℕ
  pub now : c.frame + count ≡ t
  pub enough : count ≤ target - c.frame
  pub there : moved_to c t l ≡ advanced_by count c
  pub kept : length d ≡ length d₀
  pub fits : length (lines_by count c) ≤ length d₀
  pub place : at ≡ length (lines_by count c)
  pub out : Out true d₀ 0 (lines_by count c) at d
  pub stop : full ≡ true → fitting (target - c.frame - count) (advanced_by count c) (length d₀ - length (lines_by count c)) ≡ 0

-- the test of the loop
pub going : (t target : ℕ) (full : Bool) → (ltb t target && not full) ≡ true → (t < target) × (full ≡ false)
going t target full e = (ltb-true t target (fst_true (ltb t target) (not full) e), not_so full (snd_true (ltb t target) (not full) e))

module _ {c : State} {target : ℕ} {d₀ : List ℕ} where
  pub within-begin : Within c target d₀ d₀ c.servers c.frame 0 false
  unfolding advanced_by lines_by
  within-begin =
      record {
        count = 0;
        now = omega arith;
        enough = omega arith;
        there = refl;
        kept = refl;
        fits = omega arith;
        place = refl;
        out = start;
        stop = λ e. absurd (clash e refl);
      }

  module _ {d : List ℕ} {l : List Server} {t at : ℕ} {full : Bool} {l' : List Server} {r : Stretched} {d' : List ℕ} (v : Within c target d₀ d l t at full) (g : Stretches (moved_to c t l) target d at l' r d') where
    frame_then_lem : r.frame ≡ t + g.count
    frame_then_lem = ap (λ (x : State). x.frame) g.steps.channel ∙ frame-after g.count (moved_to c t l)

    lines-all : lines_by (v.count + g.count) c ≡ lines_by v.count c ++ lines_by g.count (moved_to c t l)
    lines-all = lines_add v.count g.count c ∙ ap (λ (x : State). lines_by v.count c ++ lines_by g.count x) (sym v.there)

    long-all : length (lines_by (v.count + g.count) c) ≡ length (lines_by v.count c) + length (lines_by g.count (moved_to c t l))
    long-all = ap length lines-all ∙ length-append (lines_by v.count c) (lines_by g.count (moved_to c t l))

    state-all : advanced_by (v.count + g.count) c ≡ advanced_by g.count (moved_to c t l)
    state-all = advanced_add v.count g.count c ∙ ap (advanced_by g.count) (sym v.there)

    pub within-turn : length d' ≡ length d → Within c target d₀ d' l' r.frame r.at r.full
    within-turn same =
        let now = v.now in
        let within = g.within in
        let kept = v.kept in
        let place = v.place in
        let fits : length (lines_by (v.count + g.count) c) ≤ length d₀ = omega (arith, g.fits, long-all) in
        let o : Out true d₀ 0 (lines_by (v.count + g.count) c) r.at d' = out_as (sym lines-all) (chain kept v.out g.steps.out) in
        record {
          count = v.count + g.count;
          now = omega (arith, frame_then_lem);
          enough = omega arith;
          there = g.steps.channel ∙ sym state-all;
          kept = same ∙ kept;
          fits = fits;
          place = o.end (omega arith) ∙ after-fits d₀ 0 (lines_by (v.count + g.count) c) (omega arith) ∙ zero-add (length (lines_by (v.count + g.count) c));
          out = o;
          stop =
              λ e.
              let s = g.stop e in
              none-fits (target - c.frame - (v.count + g.count)) (advanced_by (v.count + g.count) c) (length d₀ - length (lines_by (v.count + g.count) c))
              (omega (arith, s.1, long-all, ap (λ (x : State). length (frame_lines x)) state-all));
        }

    pub within-less : t < target → full ≡ false → (target - r.frame) + choose r.full 0 1 < (target - t) + choose full 0 1
    within-less h f =
        let was : ◌≡◌ {A = ℕ} (choose full 0 1) 1 = other 0 f in
        on (tested r.full)
        (λ e. let is : ◌≡◌ {A = ℕ} (choose r.full 0 1) 0 = chosen 1 e in omega (arith, frame_then_lem))
        (λ e. let is : ◌≡◌ {A = ℕ} (choose r.full 0 1) 1 = other 0 e in let some = g.some e in let within = g.within in omega (arith, frame_then_lem))

  pub within_end :
      {d : List ℕ} {l : List Server} {t at : ℕ} {full : Bool} → Within c target d₀ d l t at full → (ltb t target && not full) ≡ false →
      MovesWithin c target d₀ (record { servers = l; frame = t; at = at }) d
  unfolding fitting
  within_end {d} {l} {t} {at} {full} v h =
      let n = v.count in
      let m = target - c.frame - n in
      let enough = v.enough in
      let sum : target - c.frame ≡ n + m = omega arith in
      let rest : fitting m (advanced_by n c) (length d₀ - length (lines_by n c)) ≡ 0 = over (tested full) in
      let is : frames_within c target (length d₀) ≡ n = ap (λ (k : ℕ). fitting k c (length d₀)) sum ∙ fit_add n m c (length d₀) v.fits ∙ ap (λ (k : ℕ). n + k) rest ∙ (let e : n + 0 ≡ n = omega arith in e) in
      record {
        channel = v.there ∙ ap (λ (k : ℕ). advanced_by k c) (sym is);
        fits = subst (λ (k : ℕ). length (lines_by k c) ≤ length d₀) (sym is) v.fits;
        out = out_as (ap (λ (k : ℕ). lines_by k c) (sym is)) v.out;
      }
    where
      over : (full ≡ true) ⊎ (full ≡ false) → fitting (target - c.frame - v.count) (advanced_by v.count c) (length d₀ - length (lines_by v.count c)) ≡ 0
      over (inl e) = v.stop e
      over (inr e) =
          let now = v.now in
          let reached : target ≤ t = ⊎_elim (λ z. absurd (clash (and_true (lt-ltb t target z) (ap not e)) h)) (λ z. z) (less t target) in
          ap (λ (k : ℕ). fitting k (advanced_by v.count c) (length d₀ - length (lines_by v.count c))) (let z : target - c.frame - v.count ≡ 0 = omega arith in z)

-- where all frames fit, all of them are made
pub all-within :
    (c : State) (target : ℕ) {d : List ℕ} {r : Stepped} {d' : List ℕ} → MovesWithin c target d r d' → length (lines_by (target - c.frame) c) ≤ length d →
    (moved_to c r.frame r.servers ≡ advanced_by (target - c.frame) c) × Out true d 0 (lines_by (target - c.frame) c) r.at d'
unfolding fitting
all-within c target {d} {r} {d'} v h =
    let n = target - c.frame in
    let zero_more : n ≡ n + 0 = omega arith in
    let all : frames_within c target (length d) ≡ n = ap (λ (k : ℕ). fitting k c (length d)) zero_more ∙ fit_add n 0 c (length d) h ∙ sym zero_more in
    (v.channel ∙ ap (λ (k : ℕ). advanced_by k c) all, out_as (ap (λ (k : ℕ). lines_by k c) all) v.out)

-- ---- the answer

-- not one frame is made, of those that there are
pub no_frame : (t target u : ℕ) → (ltb t target && eqb u t) ≡ true → u ≡ t
no_frame t target u e = eqb-true u t (snd_true (ltb t target) _ e)

module _ (c : State) (target : ℕ) {d : List ℕ} {r : Stepped} {d' : List ℕ} (v : MovesWithin c target d r d') where
  abbrev frames : ℕ
  frames = frames_within c target (length d)

  frame-within : r.frame ≡ c.frame + frames
  frame-within = ap (λ (x : State). x.frame) v.channel ∙ frame-after frames c

  -- there are frames to go and none fits
  pub within-short : (ltb c.frame target && eqb r.frame c.frame) ≡ true → Gives c (within_goes c target (length d)) d (Err Short) 0 (moved_to c c.frame r.servers) d'
  unfolding lines_by advanced_by
  within-short e =
      let same = no_frame c.frame target r.frame e in
      let none : frames ≡ 0 = omega (arith, frame-within, same) in
      let kept : d' ≡ d = v.out.is refl (omega (arith, v.fits)) ∙ ap (λ (k : ℕ). splice d 0 (lines_by k c)) none ∙ splice-none d 0 in
      let stays : moved_to c c.frame r.servers ≡ c = ap (λ (t : ℕ). moved_to c t r.servers) (sym same) ∙ v.channel ∙ ap (λ (k : ℕ). advanced_by k c) none in
      rw kept (rw stays (gives-refused c (within_goes c target (length d)) d Short (chosen 0 (and_true (fst_true (ltb c.frame target) _ e) (eq-eqb frames 0 none)))))

  pub within-fits : (ltb c.frame target && eqb r.frame c.frame) ≡ false → Gives c (within_goes c target (length d)) d (Ok tt) r.at (moved_to c r.frame r.servers) d'
  within-fits e =
      let free : (ltb c.frame target && eqb frames 0) ≡ false = ap (λ (b : Bool). ltb c.frame target && b) same ∙ e in
      gives_so c (within_goes c target (length d)) d (is-long (within_goes c target (length d)) (length d) (other 9 free) v.fits)
      (v.out.end (omega arith) ∙ after-fits d 0 (lines_by frames c) (omega (arith, v.fits)) ∙ zero-add (length (lines_by frames c))) v.channel (v.out.is refl (omega (arith, v.fits)))
    where
      same : eqb frames 0 ≡ eqb r.frame c.frame
      same =
          ⊎_elim
          (λ z. eq-eqb frames 0 z ∙ sym (eq-eqb r.frame c.frame (omega (arith, frame-within))))
          (λ z. ne_eqb frames 0 z ∙ sym (ne_eqb r.frame c.frame (λ y. z (omega (arith, frame-within)))))
          (equal frames 0)

-- up to a later target nothing happens: all frames fit, and nothing is written
pub quiet-fits :
    (t : ℕ) (p : Period) (w : List ℕ) (l : List Bool) (target : ℕ) (d : List ℕ) → t < target → Jumps p (servers_of w) t target target →
    Gives (state_of t p (servers_of w) l) (within_goes (state_of t p (servers_of w) l) target (length d)) d (Ok tt) 0 (state_of target p (servers_of w) l) d
quiet-fits t p w l target d h j =
    let c = state_of t p (servers_of w) l in
    let g = stretch_jump c j {d = d} {at = 0} (omega arith) h (omega arith) in
    let v = within_end (within-turn within-begin g refl) (and_left _ (le-ltb target target (omega arith))) in
    within-fits c target v (and_right (ltb t target) (ne_eqb target t (λ z. omega arith)))
