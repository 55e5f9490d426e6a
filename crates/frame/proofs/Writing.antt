-- Lines written one after the other, or only counted. Assumes nothing.
use mathlib.Core.Bool.{Bool}
use mathlib.Core.Path.{◌≡◌, refl, sym, ap, ap₂, subst, ◌∙◌}
use mathlib.Core.List.{List, [], ◌++◌}
use mathlib.Core.Logic.{⊎_elim}
use Prim.Native.Nat.{ℕ, ◌+◌, ◌≤◌, ◌<◌}
use native.Mathlib.Omega.{arith}
use borrow.Author.Tests.{le-leb, lt-leb}
use lib.ListN.{length, length-append}
use Rattle.lists.specs.Splice.{splice, fits}
use Rattle.lists.proofs.Cases.{less, chosen, other, and_true, and_left}
use Rattle.lists.proofs.Splicing.{splice-none, splices}
use Rattle.lines.specs.Lines.{place_after, Says}
use Rattle.frame.specs.Steps.{Out}

pub after-fits : (d : List ℕ) (at : ℕ) (w : List ℕ) → at + length w ≤ length d → place_after d at w ≡ at + length w
unfolding place_after
after-fits d at w h = chosen _ (le-leb _ _ h)

pub after-not : (d : List ℕ) (at : ℕ) (w : List ℕ) → length d < at + length w → place_after d at w ≡ length d + 1
unfolding place_after
after-not d at w h = other _ (lt-leb _ _ h)

-- what is said is a run
pub says-out : {wet : Bool} {d : List ℕ} {at : ℕ} {w : List ℕ} {r : ℕ} {d' : List ℕ} → Says wet d at w r d' → Out wet d at w r d'
says-out {wet} {d} {at} {w} p =
    record {
      end = λ h. p.place;
      is = λ t h. p.slice ∙ chosen _ (and_true t (le-leb _ _ h));
      dry = λ t. p.slice ∙ other _ (and_left (fits d at w) t);
    }

pub out_as : {wet : Bool} {d : List ℕ} {at : ℕ} {w v : List ℕ} {r : ℕ} {d' : List ℕ} → w ≡ v → Out wet d at w r d' → Out wet d at v r d'
out_as {wet} {d} {at} {w} {v} {r} {d'} e o = subst (λ (x : List ℕ). Out wet d at x r d') e o

-- ---- runs one after the other

pub chain :
    {wet : Bool} {d : List ℕ} {at : ℕ} {w : List ℕ} {r : ℕ} {d' : List ℕ} {v : List ℕ} {r' : ℕ} {d'' : List ℕ} →
    length d' ≡ length d → Out wet d at w r d' → Out wet d' r v r' d'' → Out wet d at (w ++ v) r' d''
chain {wet} {d} {at} {w} {r} {d'} {v} {r'} {d''} same p q =
    let e = length-append w v in
    ⊎_elim
    (λ l.
    record {
      end =
          λ h.
          let r-is : r ≡ length d + 1 = p.end h ∙ after-not d at w l in
          q.end (omega arith) ∙ after-not d' r v (omega arith) ∙ ap (λ (n : ℕ). n + 1) same ∙ sym (after-not d at (w ++ v) (omega arith));
      is = λ t h. absurd (omega arith);
      dry = λ t. q.dry t ∙ p.dry t;
    })
    (λ l.
    let r-is : r ≡ at + length w = p.end (omega arith) ∙ after-fits d at w l in
    let k : r + length v ≡ at + length (w ++ v) = omega arith in
    record {
      end =
          λ h.
          q.end (omega arith)
          ∙ ⊎_elim
          (λ o. after-not d' r v (omega arith) ∙ ap (λ (n : ℕ). n + 1) same ∙ sym (after-not d at (w ++ v) (omega arith)))
          (λ o. after-fits d' r v (omega arith) ∙ k ∙ sym (after-fits d at (w ++ v) (omega arith)))
          (less (length d) (at + length (w ++ v)));
      is = λ t h. q.is t (omega arith) ∙ ap₂ (λ (x : List ℕ) (n : ℕ). splice x n v) (p.is t l) r-is ∙ splices d at w v h;
      dry = λ t. q.dry t ∙ p.dry t;
    })
    (less (length d) (at + length w))

-- nothing said
pub start : {wet : Bool} {d : List ℕ} {at : ℕ} → Out wet d at [] at d
start {wet} {d} {at} =
    record {
      end =
          λ h.
          ⊎_elim
          (λ l. let e : at ≡ length d + 1 = omega arith in e ∙ sym (after-not d at [] (omega arith)))
          (λ l. let e : at ≡ at + 0 = omega arith in e ∙ sym (after-fits d at [] (omega arith)))
          (less (length d) at);
      is = λ t k. sym (splice-none d at);
      dry = λ t. refl;
    }

-- A loop that writes: to finish what is left, w at the place at, finishes the whole, w₀ at the
-- place at₀.
pub record Toward (wet : Bool) (d₀ : List ℕ) (at₀ : ℕ) (w₀ : List ℕ) (d : List ℕ) (at : ℕ) (w : List ℕ) : Type 0 where
  pub kept : length d ≡ length d₀
  pub goes : (r : ℕ) (d' : List ℕ) → Out wet d at w r d' → Out wet d₀ at₀ w₀ r d'

module _ {wet : Bool} {d₀ : List ℕ} {at₀ : ℕ} {w₀ : List ℕ} where
  pub begin : {w : List ℕ} → w₀ ≡ w → Toward wet d₀ at₀ w₀ d₀ at₀ w
  begin e = record { kept = refl; goes = λ r d' q. rw e q }

  pub turn :
      {d : List ℕ} {at : ℕ} {u v w : List ℕ} {r : ℕ} {d' : List ℕ} →
      Toward wet d₀ at₀ w₀ d at u → u ≡ v ++ w → length d' ≡ length d → Out wet d at v r d' → Toward wet d₀ at₀ w₀ d' r w
  turn p e same o = record { kept = same ∙ p.kept; goes = λ r' d'' q. p.goes r' d'' (rw e (chain same o q)) }

  pub finish : {d : List ℕ} {at : ℕ} {u : List ℕ} → Toward wet d₀ at₀ w₀ d at u → u ≡ [] → Out wet d₀ at₀ w₀ at d
  finish {d} {at} p e = p.goes at d (rw e start)
