-- What is found of pairs, one after the other. Assumes nothing.
use Rattle.std.proofs.Common.{◌≡◌, ℕ, zero, suc, ◌+◌, ◌-◌, ◌<◌, ◌≤◌, true, false, leb, List, length, sym, refl, ap, ◌∙◌, ap₂, arith, eq-eqb, ne_eqb, leb-true, le-leb, not, Result, Ok, Err, IfOk, Option, Some, None}
use borrow.Author.Tests.{lt-leb}
use Rattle.lists.proofs.Cases.{tested, on, chosen, other}
use Rattle.departure.specs.declared.Departure.{Departure}
use Rattle.departure.specs.Departure.{line_number, judged}
use Rattle.vectors.specs.declared.Pair.{Pair}
use Rattle.vectors.specs.declared.Tally.{Tally}
use Rattle.vectors.specs.Found.{Found}
use Rattle.vectors.specs.declared.Differs.TheVariants.{Answer}
use Rattle.vectors.specs.Days.{part}
use Rattle.vectors.specs.Tally.{beginning, counted, stopped, Counted}
use Rattle.vectors.specs.Pairs.{pair_at, answer_to, pair_found, with_pair, next_pair, pairs_from}
use Rattle.vectors.proofs.Comparing.{not_so, so}
use Rattle.vectors.proofs.Tallying.{begun, counts, stops}

module _
    (s : List ℕ) (p : Pair) {d g : List ℕ} (x : d ≡ part s p.at p.day) (y : g ≡ part s (p.at + p.day) p.sheet)
    {q : Departure} (j : q ≡ judged d g) {m : ℕ} (e : m ≡ line_number q) where
  answered : m ≡ answer_to s p
  answered = e ∙ ap line_number (j ∙ ap₂ judged x y)

  pub pair_agrees : m ≡ p.answer → Ok tt ≡ pair_found s p
  unfolding pair_found
  pair_agrees h = sym (chosen _ (eq-eqb _ _ (sym answered ∙ h)))

  pub pair_differs : (m ≡ p.answer → ⊥) → Err Answer ≡ pair_found s p
  unfolding pair_found
  pair_differs h = sym (other _ (ne_eqb _ _ (λ z. h (answered ∙ z))))

-- what follows of a value, where there is one
pub if_ok : {T E : Type 0} {P Q : T → Type 0} (r : Result T E) → ((t : T) → P t → Q t) → IfOk r P → IfOk r Q
if_ok (Ok t) f h = f t h
if_ok (Err e) f h = h

-- a pair more
module _ (s : List ℕ) (t : Tally) where
  pub with_whole :
      {p : Pair} → Some p ≡ pair_at s t.at → p.end ≤ length s → {f : Found} {q : Tally} → f ≡ pair_found s p → q ≡ counted t f p.end 0 → q ≡ next_pair s t
  unfolding with_pair
  with_whole {p} e h g r = r ∙ ap (λ (f : Found). counted t f p.end 0) g ∙ sym (chosen _ (le-leb _ _ h)) ∙ ap (with_pair s t) e

  pub too_short : {p : Pair} → Some p ≡ pair_at s t.at → length s < p.end → {q : Tally} → q ≡ stopped t → q ≡ next_pair s t
  unfolding with_pair
  too_short e h r = r ∙ sym (other _ (lt-leb _ _ h)) ∙ ap (with_pair s t) e

  pub none_there : None ≡ pair_at s t.at → {q : Tally} → q ≡ stopped t → q ≡ next_pair s t
  unfolding with_pair
  none_there e r = r ∙ ap (with_pair s t) e

next-counts : (s : List ℕ) {k : ℕ} (t : Tally) (p : Option Pair) → Counted (length s) k t → Counted (length s) (k + 1) (with_pair s t p)
unfolding with_pair
next-counts s t None v = stops v refl
next-counts s t (Some p) v =
    on (tested (leb p.end (length s)))
    (λ h. counts v (pair_found s p) (chosen _ h) (leb-true p.end (length s) h) (omega arith))
    (λ h. stops v (other _ h))

-- ---- the loop

one_more_lem : (n : ℕ) (s : List ℕ) (t : Tally) → t.good ≡ true → pairs_from (suc n) s t ≡ pairs_from n s (next_pair s t)
unfolding pairs_from
one_more_lem n s t h = chosen _ h

no_more : (n : ℕ) (s : List ℕ) (t : Tally) → t.good ≡ false → pairs_from n s t ≡ t
unfolding pairs_from
no_more zero s t h = refl
no_more (suc n) s t h = other _ h

-- after k of n pairs, the whole is what the others make of it
pub record Pairing (s : List ℕ) (t₀ : Tally) (n k : ℕ) (t : Tally) : Type 0 where
  pub within : Counted (length s) k t
  pub so_far : pairs_from n s t₀ ≡ pairs_from (n - k) s t

pub begin : {s : List ℕ} {at n : ℕ} {t : Tally} → t ≡ beginning at → at ≤ length s → Pairing s (beginning at) n 0 t
begin {s} {at} {n} e h =
    let all : n - 0 ≡ n = omega arith in
    record { within = begun e h; so_far = rw (e, all) refl }

module _ {s : List ℕ} {t₀ : Tally} {n k : ℕ} {t : Tally} (v : Pairing s t₀ n k t) where
  pub turn : k < n → not t.good ≡ false → {q : Tally} → q ≡ next_pair s t → Pairing s t₀ n (k + 1) q
  turn h g e =
      let left : n - k ≡ suc (n - (k + 1)) = omega arith in
      rw e
      (record {
        within = next-counts s t (pair_at s t.at) v.within;
        so_far = v.so_far ∙ ap (λ (m : ℕ). pairs_from m s t) left ∙ one_more_lem (n - (k + 1)) s t (so t.good g);
      })

  -- after the last, or where one was not well written
  pub end : n ≤ k → t ≡ pairs_from n s t₀
  unfolding pairs_from
  end h = let none : n - k ≡ 0 = omega arith in sym (v.so_far ∙ rw none refl)

  pub halted : not t.good ≡ true → t ≡ pairs_from n s t₀
  halted h = sym (v.so_far ∙ no_more (n - k) s t (not_so t.good h))
