-- What becomes of a feed, and of the numbers and links lent to it. Assumes nothing.
use Rattle.std.specs.Prelude.{Ok, Err}
use mathlib.Core.Bool.{Bool, true}
use mathlib.Core.Path.{◌≡◌, refl, sym, ap, subst, ◌∙◌}
use mathlib.Core.List.{List}
use mathlib.Core.Logic.{◌⊎◌, inl, inr}
use Prim.Native.Nat.{ℕ, ◌+◌, ◌<◌}
use native.Mathlib.Omega.{arith}
use borrow.Author.Tests.{eq-eqb, ne_eqb}
use lib.Dec.{eqb}
use lib.ListN.{length, take}
use Rattle.lists.specs.Choice.{choose}
use Rattle.lists.proofs.Cases.{on, clash, chosen, other}
use Rattle.refusal.specs.declared.Refusal.{Refusal}
use Rattle.periods.specs.declared.Period.{Period}
use Rattle.group.specs.declared.State.{State}
use Rattle.places.specs.Words.{words_of, Canonical}
use Rattle.feeding.specs.Fed.{Fed}
use Rattle.feed.specs.declared.Stage.{Stage}
use Rattle.feed.specs.declared.Stage.TheVariants.{AtPeriod, AtServers, AtEntries, AtClose}
use Rattle.feed.specs.declared.Feed.{Feed}
use Rattle.feed.specs.Answers.{day_of, channel_of, fed_of, stage_of, unmade, feed_after, words_after, links_after, Leaves}
use Rattle.feed.specs.Steps.{turned, Made, Passes}

-- a write that was done was not refused
pub not-refused : {A : Type 0} {n : ℕ} {k : Refusal} → Ok n ≡ Err k → A
not-refused e = absurd (let z : ◌≡◌ {A = ℕ} 0 1 = cc in omega arith)

-- ---- passing

pub made-servers : Made AtServers
made-servers e = let z : ◌≡◌ {A = ℕ} 0 1 = cc in omega arith

pub made-entries : Made AtEntries
made-entries e = let z : ◌≡◌ {A = ℕ} 0 1 = cc in omega arith

pub made_close : Made AtClose
made_close e = let z : ◌≡◌ {A = ℕ} 0 1 = cc in omega arith

module _ {x : Feed} {w : List ℕ} {k : List Bool} where
  pub passes_kept : {y : Feed} → y.number ≡ x.number → y.length ≡ x.length → y.stage ≡ x.stage → y.frame ≡ x.frame → y.period ≡ x.period → Passes x w k y w k
  passes_kept n l g t p = record { line = inl (n, l); before = λ e. (sym g ∙ e, t, p, refl, refl); form = λ f. f; opened = λ s h. absurd (h (g ∙ s)) }

  pub passes_same : Passes x w k x w k
  passes_same = passes_kept refl refl refl refl refl

  module _ {y : Feed} {w' : List ℕ} {k' : List Bool} (form : Canonical w → Canonical w') (opened : x.stage ≡ AtPeriod → Canonical w') where
    -- on a channel: the line is kept
    pub passes_on : {g : Stage} → Made g → y.stage ≡ g → y.number ≡ x.number → y.length ≡ x.length → Passes x w k y w' k'
    passes_on h g n l = record { line = inl (n, l); before = λ e. absurd (h (sym g ∙ e)); form = form; opened = λ s m. opened s }

    -- or done
    pub passes-next : {g : Stage} → Made g → y.stage ≡ g → y.number ≡ x.number + 1 → y.length ≡ 0 → Passes x w k y w' k'
    passes-next h g n l = record { line = inr (omega arith, l); before = λ e. absurd (h (sym g ∙ e)); form = form; opened = λ s m. opened s }

    pub passes-turned : {g : Stage} → Made g → y ≡ turned x g → Passes x w k y w' k'
    passes-turned h e = passes-next h (ap (λ (z : Feed). z.stage) e) (ap (λ (z : Feed). z.number) e) (ap (λ (z : Feed). z.length) e)

at-period : (g : Stage) → (g ≡ AtPeriod) ⊎ Made g
at-period AtPeriod = inl refl
at-period AtServers = inr made-servers
at-period AtEntries = inr made-entries
at-period AtClose = inr made_close

-- one after the other
pub passes_then : {x y z : Feed} {w w₁ w₂ : List ℕ} {k k₁ k₂ : List Bool} → Passes x w k y w₁ k₁ → Passes y w₁ k₁ z w₂ k₂ → Passes x w k z w₂ k₂
passes_then {x} {y} {z} p q =
    record {
      line = by p.line q.line;
      before = λ e. let b = q.before e in let a = p.before b.0 in (a.0, b.1 ∙ a.1, b.2 ∙ a.2, b.3 ∙ a.3, b.4 ∙ a.4);
      form = λ f. q.form (p.form f);
      opened = λ s m. on (at-period y.stage) (λ e. q.opened e m) (λ e. q.form (p.opened s e));
    }
  where
    by : ((y.number ≡ x.number) × (y.length ≡ x.length)) ⊎ ((x.number < y.number) × (y.length ≡ 0)) →
        ((z.number ≡ y.number) × (z.length ≡ y.length)) ⊎ ((y.number < z.number) × (z.length ≡ 0)) →
        ((z.number ≡ x.number) × (z.length ≡ x.length)) ⊎ ((x.number < z.number) × (z.length ≡ 0))
    by (inl a) (inl b) = inl (b.0 ∙ a.0, b.1 ∙ a.1)
    by (inl a) (inr b) = let h = a.0 in let i = b.0 in inr (omega arith, b.1)
    by (inr a) (inl b) = let h = a.0 in let i = b.0 in inr (omega arith, b.1 ∙ a.1)
    by (inr a) (inr b) = let h = a.0 in let i = b.0 in inr (omega arith, b.1)

-- ---- what is left of all that is known of a feed

stage-back : (g : Stage) (c : State) → g ≡ stage_of (day_of g c).stage
stage-back AtPeriod c = refl
stage-back AtServers c = refl
stage-back AtEntries c = refl
stage-back AtClose c = refl

pub unmade-is : (g : Stage) (c : State) → unmade (day_of g c).stage ≡ true → g ≡ AtPeriod
unmade-is AtPeriod c e = refl
unmade-is AtServers c e = absurd (clash e refl)
unmade-is AtEntries c e = absurd (clash e refl)
unmade-is AtClose c e = absurd (clash e refl)

-- a part of the channel, or what there was before there is one
held : {A : Type 0} (g : Stage) (c : State) (part : State → A) (old : A) → (g ≡ AtPeriod → part c ≡ old) → part c ≡ choose (unmade (day_of g c).stage) old (part (day_of g c).channel)
held AtPeriod c part old h = h refl ∙ sym (chosen _ refl)
held AtServers c part old h = sym (other old refl)
held AtEntries c part old h = sym (other old refl)
held AtClose c part old h = sym (other old refl)

abbrev parts : Bool → ℕ → ℕ → Stage → ℕ → Period → Feed
parts o i m g t p = record { over = o; number = i; length = m; stage = g; frame = t; period = p }

pub same_parts : (o : Bool) (i : ℕ) {m m' : ℕ} {g g' : Stage} {t t' : ℕ} {p p' : Period} → m ≡ m' → g ≡ g' → t ≡ t' → p ≡ p' → parts o i m g t p ≡ parts o i m' g' t' p'
same_parts o i {m} {m'} {g} {g'} {t} {t'} {p} {p'} a b c d =
    ap (λ (y : ℕ). parts o i y g t p) a
    ∙ ap (λ (y : Stage). parts o i m' y t p) b
    ∙ ap (λ (y : ℕ). parts o i m' g' y p) c
    ∙ ap (λ (y : Period). parts o i m' g' t' y) d

module _ {x : Feed} {w : List ℕ} {k : List Bool} {n : ℕ} {y : Feed} (l : List ℕ) {w' : List ℕ} {k' : List Bool}
    (long : y.length ≡ choose (eqb y.number x.number) (x.length + n) (length (take y.length l)))
    (before : y.stage ≡ AtPeriod → (y.frame ≡ x.frame) × (y.period ≡ x.period) × (w' ≡ w) × (k' ≡ k)) (form : Canonical w → Canonical w')
    (opened : x.stage ≡ AtPeriod → Made y.stage → Canonical w') where
  pub leaves_by : Leaves x w k n (fed_of y l w' k') y w' k'
  unfolding feed_after words_after links_after
  leaves_by =
      let c = channel_of y w' k' in
      let g = y.stage in
      let numbers : Canonical w' → w' ≡ choose (unmade (day_of g c).stage) w (words_of (day_of g c).channel.servers) = λ f. f ∙ held g c (λ (z : State). words_of z.servers) w (λ e. sym f ∙ (before e).2) in
      record {
        feed =
            same_parts y.over y.number long (stage-back g c)
            (held g c (λ (z : State). z.frame) x.frame (λ e. (before e).0))
            (held g c (λ (z : State). z.period) x.period (λ e. (before e).1));
        words = λ f. numbers (form f);
        opened = λ s. on (at-period g) (λ e. (before e).2 ∙ sym (chosen _ (ap (λ (z : Stage). unmade (day_of z c).stage) e))) (λ m. numbers (opened s m));
        before = λ e. (before (unmade-is g c e)).2;
        links = held g c (λ (z : State). z.whole) k (λ e. (before e).3);
      }

pub leaves_passed : {x : Feed} {w : List ℕ} {k : List Bool} {y : Feed} (l : List ℕ) {w' : List ℕ} {k' : List Bool} {f : Fed} → Passes x w k y w' k' → fed_of y l w' k' ≡ f → Leaves x w k 0 f y w' k'
leaves_passed {x} {w} {k} {y} l {w'} {k'} p e =
    subst (λ (g : Fed). Leaves x w k 0 g y w' k') e (leaves_by l (long p.line) (λ s. let b = p.before s in (b.1, b.2, b.3, b.4)) p.form p.opened)
  where
    long : ((y.number ≡ x.number) × (y.length ≡ x.length)) ⊎ ((x.number < y.number) × (y.length ≡ 0)) → y.length ≡ choose (eqb y.number x.number) (x.length + 0) (length (take y.length l))
    long (inl s) = let z : y.length ≡ x.length + 0 = let i = s.1 in omega arith in z ∙ sym (chosen _ (eq-eqb y.number x.number s.0))
    long (inr s) = s.1 ∙ ap (λ (i : ℕ). length (take i l)) (sym s.1) ∙ sym (other _ (ne_eqb y.number x.number (λ z. let i = s.0 in omega arith)))
