-- The bytes of a line, as they are taken. Assumes nothing.
use mathlib.Core.Bool.{Bool}
use mathlib.Core.Path.{◌≡◌, refl, sym, ap, ap₂, subst, ◌∙◌}
use mathlib.Core.List.{List, [], ◌∷◌, ◌++◌}
use Prim.Native.Nat.{ℕ, ◌+◌, ◌<◌}
use native.Mathlib.Omega.{arith}
use native.Mathlib.Numerals.{add-one}
use borrow.Author.Tests.{eq-eqb}
use lib.ListN.{length, take, get_or, set}
use lib.Seq.{take-suc, length-take-le}
use Rattle.lists.specs.Splice.{splice}
use Rattle.lists.proofs.Cases.{less, on, chosen}
use Rattle.lists.proofs.Splicing.{splice-none, splice-more}
use Rattle.feeding.specs.Fed.{Fed, enough, taken}
use Rattle.feed.specs.declared.Feed.{Feed}
use Rattle.feed.specs.Answers.{fed_of, Takes, Leaves, TakesIn}
use Rattle.feed.proofs.Leaving.{leaves_by}

-- i bytes of s written into the line l₀ from the place n₀ on
pub record Filling (l₀ : List ℕ) (n₀ : ℕ) (s l : List ℕ) (n i : ℕ) : Type 0 where
  pub long : length l₀ ≡ enough
  pub place : n ≡ n₀ + i
  pub bytes : l ≡ splice l₀ n₀ (take i s)
  pub fits : 0 < i → n₀ < enough

pub fill_begins : {l s : List ℕ} {n : ℕ} → length l ≡ enough → Filling l n s l n 0
fill_begins {l} {s} {n} long = record { long = long; place = omega arith; bytes = sym (splice-none l n); fits = λ h. absurd (omega arith) }

module _ {l₀ : List ℕ} {n₀ : ℕ} {s l : List ℕ} {n i : ℕ} (v : Filling l₀ n₀ s l n i) where
  pub fill_turn : {x : ℕ} → i < length s → n < enough → x ≡ get_or s i 0 → Filling l₀ n₀ s (set l n x) (n + 1) (i + 1)
  fill_turn {x} h room q =
      let long = v.long in
      let place = v.place in
      let some : length (take i s) ≡ i = length-take-le i s (omega arith) in
      let at : n ≡ n₀ + length (take i s) = omega arith in
      let more : take i s ++ (x ∷ []) ≡ take (i + 1) s = rw add-one (ap (λ (y : ℕ). take i s ++ (y ∷ [])) q ∙ sym (take-suc s i 0 h)) in
      record {
        long = long;
        place = omega arith;
        bytes = ap₂ (λ (y : List ℕ) (m : ℕ). set y m x) v.bytes at ∙ splice-more l₀ n₀ (take i s) x (omega arith) ∙ ap (splice l₀ n₀) more;
        fits = λ z. omega arith;
      }

  -- where none are written it does not matter from where
  line-filled : {m : ℕ} → (0 < i → n₀ ≡ m) → l ≡ splice l₀ m (take i s)
  line-filled {m} e =
      on (less 0 i)
      (λ h. v.bytes ∙ ap (λ (a : ℕ). splice l₀ a (take i s)) (e h))
      (λ h.
      let none : take i s ≡ [] = ap (λ (a : ℕ). take a s) (let z : i ≡ 0 = omega arith in z) in
      v.bytes ∙ ap (splice l₀ n₀) none ∙ splice-none l₀ n₀ ∙ sym (splice-none l₀ m) ∙ ap (splice l₀ m) (sym none))

-- what is taken, and what becomes of the feed and its line
pub fill_ends :
    (x : Feed) {s l₀ l : List ℕ} {n i : ℕ} (w : List ℕ) (k : List Bool) → Filling l₀ x.length s l n i →
    let y : Feed = record { over = x.over; number = x.number; length = n; stage = x.stage; frame = x.frame; period = x.period } in
    Takes (fed_of x l₀ w k) s i (fed_of y l w k) → TakesIn x l₀ w k s i y l
fill_ends x {s} {l₀} {l} {n} {i} w k v t =
    let y : Feed = record { over = x.over; number = x.number; length = n; stage = x.stage; frame = x.frame; period = x.period } in
    let f = fed_of x l₀ w k in
    let long = v.long in
    record {
      takes = t;
      leaves =
          subst (λ (g : Fed). Leaves x w k i g y w k) t.fed
          (leaves_by l (v.place ∙ sym (chosen _ (eq-eqb x.number x.number refl))) (λ e. (refl, refl, refl, refl)) (λ z. z) (λ s h. absurd (h s)));
      line = line-filled v (λ h. let z = v.fits h in sym (length-take-le x.length l₀ (omega arith))) ∙ ap (λ (a : ℕ). splice l₀ (length f.line) (take a s)) t.used;
    }
