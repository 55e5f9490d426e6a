-- What turns leave of a feed and of what is lent to it. Assumes nothing.
use mathlib.Core.Bool.{Bool, true, false}
use mathlib.Core.Path.{◌≡◌, refl, sym, ap, subst, ◌∙◌}
use mathlib.Core.List.{List}
use Prim.Native.Nat.{ℕ, ◌+◌, ◌≤◌}
use native.Mathlib.Omega.{arith}
use borrow.Author.Tests.{eq-eqb, ne_eqb}
use lib.Dec.{eqb}
use lib.ListN.{length}
use Rattle.lists.specs.Choice.{choose}
use Rattle.lists.proofs.Cases.{less, equal, tested, on, clash, chosen, other}
use Rattle.group.specs.declared.State.{State}
use Rattle.places.specs.Words.{words_of, Canonical}
use Rattle.feeding.specs.Fed.{Fed}
use Rattle.feed.specs.declared.Feed.{Feed}
use Rattle.feed.specs.declared.Stage.{Stage}
use Rattle.feed.specs.declared.Stage.TheVariants.{AtPeriod, AtServers, AtEntries, AtClose}
use Rattle.feed.specs.Answers.{day_of, channel_of, fed_of, unmade, feed_after, words_after, links_after, Leaves}
use Rattle.feed.proofs.Leaving.{unmade-is, same_parts, passes_same, leaves_passed}
use Rattle.printer.specs.declared.Turned.{Turned}
use Rattle.printer.specs.Print.{turn_move}
use Rattle.printer.specs.Steps.{Turns, TurnsIn}
use Rattle.printer.proofs.Turning.{short_none}
use Rattle.printer.proofs.Later.{Later, later_same, turn-later}

-- nothing is done
pub leaves_none : {x : Feed} (l : List ℕ) {w : List ℕ} {k : List Bool} → Leaves x w k 0 (fed_of x l w k) x w k
leaves_none l = leaves_passed l passes_same refl

-- what is known, worked out in another way
pub leaves_as : {x : Feed} {w : List ℕ} {k : List Bool} {n : ℕ} {f g : Fed} {x' : Feed} {w' : List ℕ} {k' : List Bool} → f ≡ g → Leaves x w k n g x' w' k' → Leaves x w k n f x' w' k'
leaves_as {x} {w} {k} {n} {f} {g} {x'} {w'} {k'} e q = subst (λ (h : Fed). Leaves x w k n h x' w' k') (sym e) q

-- ---- one after the other

channel-is : (g : Stage) (c : State) → unmade (day_of g c).stage ≡ false → (day_of g c).channel ≡ c
channel-is AtPeriod c e = absurd (clash refl e)
channel-is AtServers c e = refl
channel-is AtEntries c e = refl
channel-is AtClose c e = refl

-- numbers that are decided, where there is a channel, are canonical
form-made : (w : List ℕ) (y : Feed) (l : List ℕ) {w' : List ℕ} (k' : List Bool) → w' ≡ words_after w (fed_of y l w' k') → unmade (fed_of y l w' k').day.stage ≡ false → Canonical w'
unfolding words_after
form-made w y l {w'} k' q e = q ∙ other _ e ∙ ap (λ (s : State). words_of s.servers) (channel-is y.stage (channel_of y w' k') e)

-- numbers that were canonical are
form-then : {x : Feed} {w : List ℕ} {k : List Bool} {n : ℕ} {y : Feed} (l : List ℕ) {w' : List ℕ} {k' : List Bool} → Leaves x w k n (fed_of y l w' k') y w' k' → Canonical w → Canonical w'
form-then {w = w} {y = y} l {w'} {k'} q f =
    on (tested (unmade (fed_of y l w' k').day.stage))
    (λ e. subst Canonical (sym (q.before e)) f)
    (λ e. form-made w y l k' (q.words f) e)

-- what is kept until there is a channel
kept_on : {A : Type 0} (s t : Bool) (a b c : A) → (t ≡ true → s ≡ true) → choose t (choose s a b) c ≡ choose t a c
kept_on s t a b c h = on (tested t) (λ e. chosen _ e ∙ chosen _ (h e) ∙ sym (chosen _ e)) (λ e. other _ e ∙ sym (other _ e))

module _ {x : Feed} {w : List ℕ} {k : List Bool} {i : ℕ} {y : Feed} (l : List ℕ) {w₁ : List ℕ} {k₁ : List Bool} (p : Leaves x w k i (fed_of y l w₁ k₁) y w₁ k₁) (h : x.number ≤ y.number)
    {n : ℕ} {g : Fed} {z : Feed} {w₂ : List ℕ} {k₂ : List Bool} (q : Leaves y w₁ k₁ n g z w₂ k₂) (v : Later (fed_of y l w₁ k₁) n g) where
  abbrev f : Fed
  f = fed_of y l w₁ k₁

  -- the line's length
  long : choose (eqb g.number y.number) (y.length + n) (length g.line) ≡ choose (eqb g.number x.number) (x.length + (i + n)) (length g.line)
  unfolding feed_after
  long =
      let was : y.length ≡ choose (eqb y.number x.number) (x.length + i) (length f.line) = ap (λ (a : Feed). a.length) p.feed in
      let up = v.number in
      on (equal g.number y.number)
      (λ e.
      chosen _ (eq-eqb g.number y.number e)
      ∙ on (equal y.number x.number)
      (λ o.
      let is : y.length ≡ x.length + i = was ∙ chosen _ (eq-eqb y.number x.number o) in
      (let a : y.length + n ≡ x.length + (i + n) = omega arith in a) ∙ sym (chosen _ (eq-eqb g.number x.number (e ∙ o))))
      (λ o.
      let is : y.length ≡ length f.line = was ∙ other _ (ne_eqb y.number x.number o) in
      let m = v.line e in
      (let a : y.length + n ≡ length g.line = omega arith in a) ∙ sym (other _ (ne_eqb g.number x.number (λ u. o (sym e ∙ u))))))
      (λ o. other _ (ne_eqb g.number y.number o) ∙ sym (other _ (ne_eqb g.number x.number (λ u. omega arith))))

  pub leaves-then : Leaves x w k (i + n) g z w₂ k₂
  unfolding feed_after words_after links_after
  leaves-then =
      let was = p.feed in
      let numbers : w₂ ≡ words_after w₁ g → w₁ ≡ words_after w f → w₂ ≡ words_after w g = λ a b. a ∙ ap (λ (u : List ℕ). choose (unmade g.day.stage) u (words_of g.day.channel.servers)) b ∙ kept_on _ _ _ _ _ v.made in
      record {
        feed =
            q.feed
            ∙ same_parts g.over g.number long refl
            (ap (λ (a : Feed). choose (unmade g.day.stage) a.frame g.day.channel.frame) was ∙ kept_on _ _ _ _ _ v.made)
            (ap (λ (a : Feed). choose (unmade g.day.stage) a.period g.day.channel.period) was ∙ kept_on _ _ _ _ _ v.made);
        words = λ c. numbers (q.words (form-then l p c)) (p.words c);
        opened =
            λ s.
            numbers
            (on (tested (unmade f.day.stage))
            (λ e. q.opened (unmade-is y.stage (channel_of y w₁ k₁) e))
            (λ e. q.words (form-made w y l k₁ (p.opened s) e)))
            (p.opened s);
        before = λ e. q.before e ∙ p.before (v.made e);
        links = q.links ∙ ap (λ (a : List Bool). choose (unmade g.day.stage) a g.day.channel.whole) p.links ∙ kept_on _ _ _ _ _ v.made;
      }

-- ---- turns

-- the turns so far: what they left; where there was none each number is as it was
pub record Leaving (x₀ : Feed) (w₀ : List ℕ) (k₀ : List Bool) (i : ℕ) (x : Feed) (l w : List ℕ) (k : List Bool) (first : Bool) : Type 0 where
  pub leaves : Leaves x₀ w₀ k₀ i (fed_of x l w k) x w k
  pub later : x₀.number ≤ x.number
  pub fresh : first ≡ true → w ≡ w₀

pub leaving_begins : {x : Feed} (l : List ℕ) {w : List ℕ} {k : List Bool} → Leaving x w k 0 x l w k true
leaving_begins l = record { leaves = leaves_none l; later = omega arith; fresh = λ e. refl }

-- where a turn comes to
turn-comes : {f : Fed} {s : List ℕ} {last : Bool} {d : List ℕ} {r : Turned} {f' : Fed} {d' : List ℕ} → Turns f s last d r f' d' → Later f r.used f'
turn-comes {f} {s} {last} {d} {r} {f'} {d'} t =
    let m = turn_move f s last (length d) in
    subst (λ (n : ℕ). Later f n f') (sym t.move.used)
    (on (less (length d) (length m.lines))
    (λ h.
    let no = t.move.not h in
    rw (no.1, short_none f last (length d) s h) later_same)
    (λ h. let so = t.move.so h in rw so.1 (turn-later f s last (length d))))

pub leaving_turn :
    {x₀ : Feed} {w₀ : List ℕ} {k₀ : List Bool} {i : ℕ} {x : Feed} {l w : List ℕ} {k : List Bool} {first : Bool} {s : List ℕ} {last : Bool} {d : List ℕ} {r : Turned} {l' w' : List ℕ} {k' : List Bool} {d' : List ℕ} →
    Leaving x₀ w₀ k₀ i x l w k first → TurnsIn x l w k s last d r l' w' k' d' → Leaving x₀ w₀ k₀ (i + r.used) r.feed l' w' k' false
leaving_turn {l = l} v t =
    let c = turn-comes t.turns in
    let up = c.number in
    let h = v.later in
    record { leaves = leaves-then l v.leaves h t.leaves c; later = omega arith; fresh = λ e. absurd (clash e refl) }
