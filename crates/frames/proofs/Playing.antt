-- Many frames. Assumes nothing.
use mathlib.Core.Bool.{Bool, false}
use mathlib.Core.Path.{◌≡◌, refl, sym, ap, ap₂, subst, ◌∙◌}
use mathlib.Core.Logic.{◌⊎◌, inl, inr, ⊎_elim}
use mathlib.Core.List.{List, ◌++◌, append-nil}
use Prim.Native.Nat.{ℕ, ◌+◌, ◌-◌, ◌≤◌, ◌<◌}
use native.Mathlib.Omega.{arith}
use borrow.Author.Tests.{lt-ltb, le-ltb}
use lib.Dec.{ltb}
use lib.ListN.{length}
use Rattle.lists.specs.Choice.{choose}
use Rattle.lists.proofs.Cases.{less, chosen, other, clash}
use Rattle.periods.specs.declared.Period.{Period}
use Rattle.server.specs.declared.Server.{Server}
use Rattle.group.specs.declared.State.{State}
use Rattle.group.specs.Frame.{advanced, frame_lines, moved_to}
use Rattle.group.specs.Advance.{advanced_by, lines_by}
use Rattle.places.specs.Words.{servers_of}
use Rattle.frame.specs.Answers.{state_of, Counts}
use Rattle.frame.specs.Steps.{Out, any_sent, AllRest}
use Rattle.frames.specs.Steps.{Stepped, Before, Steps, Jumps, Goes}
use Rattle.group.proofs.Places.{frame-after}
use Rattle.group.proofs.Adding.{advanced_add, lines_add}
use Rattle.frame.proofs.Writing.{Toward, start, begin, turn, finish}
use Rattle.frame.proofs.Quiet.{skip}

-- ---- steps

-- one frame: the servers after it, and its lines
pub one-step :
    (c : State) {wet : Bool} {d : List ℕ} {at n : ℕ} {l : List Server} {d' : List ℕ} → l ≡ (advanced c).servers → Out wet d at (frame_lines c) n d' →
    Steps wet 1 c d at (record { servers = l; frame = c.frame + 1; at = n }) d'
unfolding advanced_by lines_by advanced
one-step c e o = record { channel = ap (moved_to c (c.frame + 1)) e; out = rw (append-nil (frame_lines c)) o }

pub no_step : (c : State) {wet : Bool} {d : List ℕ} {at : ℕ} → Steps wet 0 c d at (record { servers = c.servers; frame = c.frame; at = at }) d
unfolding advanced_by lines_by
no_step c = record { channel = refl; out = start }

-- the next frame, which is before the target, counted
pub next-counted :
    (c : State) (target : ℕ) {w d : List ℕ} {at n : ℕ} {w' d' : List ℕ} → c.frame < target → c.frame < 4294967295 → Counts c w d at n w' d' →
    Steps false (choose (ltb c.frame target) 1 0) c d at (record { servers = servers_of w'; frame = c.frame + 1; at = n }) d'
next-counted c target {w} {d} {at} {n} {w'} {d'} h g v =
    let has = lt-ltb c.frame 4294967295 g in
    let o : Out false d at (frame_lines c) n d' = record { end = λ k. v.place ∙ chosen at has; is = λ t k. absurd (clash t refl); dry = λ t. v.slice } in
    subst (λ (k : ℕ). Steps false k c d at (record { servers = servers_of w'; frame = c.frame + 1; at = n }) d') (sym (chosen 0 (lt-ltb c.frame target h)))
    (one-step c (v.words.servers ∙ chosen c.servers has) o)

-- none where the target is reached
module _ (c : State) (target : ℕ) {wet : Bool} {d : List ℕ} {at : ℕ} where
  pub next-none : target ≤ c.frame → Steps wet (choose (ltb c.frame target) 1 0) c d at (record { servers = c.servers; frame = c.frame; at = at }) d
  next-none h =
      subst (λ (k : ℕ). Steps wet k c d at (record { servers = c.servers; frame = c.frame; at = at }) d) (sym (other 1 (le-ltb c.frame target h))) (no_step c)

-- ---- over frames in which nothing happens

-- to the present frame
pub jump_none : (p : Period) (l : List Server) {t target : ℕ} → t ≤ target → Jumps p l t target t
unfolding advanced_by lines_by
jump_none p l {t} {target} h =
    let z : t - t ≡ 0 = omega arith in
    record {
      from = omega arith;
      to = h;
      same = λ w. ap (λ (n : ℕ). advanced_by n (state_of t p l w)) z;
      silent = λ w. ap (λ (n : ℕ). lines_by n (state_of t p l w)) z;
    }

-- to one before the first timer
pub jump_quiet :
    (p : Period) (l : List Server) {t target f r : ℕ} → any_sent l ≡ false → length l ≡ 16 → AllRest t p l f → Before f t target r → Jumps p l t target r
jump_quiet p l {t} {target} {f} {r} quiet long rest b =
    let from = b.from in
    let to = b.to in
    let sum : t + (r - t) ≡ r = omega arith in
    let near : (r - t ≡ 0) ⊎ (t + (r - t) < f) = ⊎_elim (λ e. inl (omega arith)) (λ g. inr (omega arith)) b.early in
    record {
      from = from;
      to = to;
      same = λ w. (skip (r - t) (state_of t p l w) f quiet long rest near).0 ∙ ap (λ (m : ℕ). state_of m p l w) sum;
      silent = λ w. (skip (r - t) (state_of t p l w) f quiet long rest near).1;
    }

-- the steps after a jump, from where it began
pub jumped :
    (c : State) {target s n : ℕ} {wet : Bool} {d : List ℕ} {at : ℕ} {r : Stepped} {d' : List ℕ} → Jumps c.period c.servers c.frame target s →
    Steps wet n (moved_to c s c.servers) d at r d' → Steps wet ((s - c.frame) + n) c d at r d'
jumped c {target} {s} {n} {wet} {d} {at} {r} {d'} j w =
    let k = s - c.frame in
    let there = j.same c.whole in
    record {
      channel = w.channel ∙ ap (advanced_by n) (sym there) ∙ sym (advanced_add k n c);
      out =
          subst (λ (x : List ℕ). Out wet d at x r.at d')
          (sym (lines_add k n c ∙ ap₂ (λ (x : List ℕ) (y : State). x ++ lines_by n y) (j.silent c.whole) there))
          w.out;
    }

-- a jump, and the next frame
pub goes_jump :
    (c : State) {target s : ℕ} {wet : Bool} {d : List ℕ} {at : ℕ} {r : Stepped} {d' : List ℕ} → c.frame < target → Jumps c.period c.servers c.frame target s →
    Steps wet (choose (ltb s target) 1 0) (moved_to c s c.servers) d at r d' → Goes wet c target d at r d'
goes_jump c {target} {s} {wet} {d} {at} {r} {d'} h j w =
    let k = s - c.frame in
    let from = j.from in
    let to = j.to in
    let n : ℕ = choose (ltb s target) 1 0 in
    let there = j.same c.whole in
    record {
      count = k + n;
      some =
          ⊎_elim
          (λ l. let o : n ≡ 1 = chosen 0 (lt-ltb s target l) in omega arith)
          (λ l. omega arith)
          (less s target);
      within =
          ⊎_elim
          (λ l. let o : n ≡ 1 = chosen 0 (lt-ltb s target l) in omega arith)
          (λ l. let o : n ≡ 0 = other 1 (le-ltb s target l) in omega arith)
          (less s target);
      steps = jumped c j w;
    }

-- ---- all frames up to the target: what is left from the frame t with the servers l is the rest of
-- all from c on

pub record Playing (wet : Bool) (c : State) (target : ℕ) (d₀ : List ℕ) (at₀ : ℕ) (d : List ℕ) (l : List Server) (t at : ℕ) : Type 0 where
  pub rest : advanced_by (target - t) (moved_to c t l) ≡ advanced_by (target - c.frame) c
  pub out : Toward wet d₀ at₀ (lines_by (target - c.frame) c) d at (lines_by (target - t) (moved_to c t l))

frame_is : {c : State} {wet : Bool} {n : ℕ} {d : List ℕ} {at : ℕ} {r : Stepped} {d' : List ℕ} → Steps wet n c d at r d' → r.frame ≡ c.frame + n
frame_is {c} {wet} {n} p = ap (λ (x : State). x.frame) p.channel ∙ frame-after n c

pub play_less : {wet : Bool} {c : State} {target : ℕ} {d : List ℕ} {at : ℕ} {r : Stepped} {d' : List ℕ} → c.frame < target → Goes wet c target d at r d' → target - r.frame < target - c.frame
play_less h g = let e = frame_is g.steps in let some = g.some in let within = g.within in omega arith

module _ {wet : Bool} {c : State} {target : ℕ} {d₀ : List ℕ} {at₀ : ℕ} where
  pub play_begin : Playing wet c target d₀ at₀ d₀ c.servers c.frame at₀
  play_begin = record { rest = refl; out = begin refl }

  pub play_turn :
      {l : List Server} {t : ℕ} {d : List ℕ} {at : ℕ} {r : Stepped} {d' : List ℕ} → Playing wet c target d₀ at₀ d l t at → length d' ≡ length d →
      Goes wet (moved_to c t l) target d at r d' → Playing wet c target d₀ at₀ d' r.servers r.frame r.at
  play_turn {l} {t} {d} {at} {r} {d'} v same g =
      let now = moved_to c t l in
      let k = g.count in
      let e : r.frame ≡ t + k = frame_is g.steps in
      let within = g.within in
      let m = target - r.frame in
      let all : target - t ≡ k + m = omega arith in
      record {
        rest = ap (advanced_by m) g.steps.channel ∙ sym (advanced_add k m now) ∙ ap (λ (n : ℕ). advanced_by n now) (sym all) ∙ v.rest;
        out =
            turn v.out
            (ap (λ (n : ℕ). lines_by n now) all ∙ lines_add k m now ∙ ap (λ (x : State). lines_by k now ++ lines_by m x) (sym g.steps.channel))
            same g.steps.out;
      }

pub play_end :
    {wet : Bool} {c : State} {target : ℕ} {d₀ : List ℕ} {l : List Server} {t : ℕ} {d : List ℕ} {at : ℕ} → Playing wet c target d₀ 0 d l t at → target ≤ t →
    Out wet d₀ 0 (lines_by (target - c.frame) c) at d
unfolding lines_by
play_end {wet} {c} {target} {d₀} {l} {t} v h = finish v.out (ap (λ (n : ℕ). lines_by n (moved_to c t l)) (let z : target - t ≡ 0 = omega arith in z))
