-- The next sender: whom the look-up finds, and that none comes before it. Assumes nothing.
use mathlib.Core.Bool.{Bool, true, false, ◌&&◌}
use mathlib.Core.Path.{◌≡◌, refl, sym, ap₂, ◌∙◌}
use mathlib.Core.Logic.{◌⊎◌, inl, inr}
use Prim.Native.Nat.{ℕ, zero, suc, ◌<◌, ◌≤◌}
use native.Mathlib.Omega.{arith}
use borrow.Author.Tests.{lt-ltb, le-ltb, ne_eqb}
use Rattle.lists.specs.Choice.{choose}
use Rattle.lists.proofs.Cases.{less, equal, chosen, other, by_choice, and_true, fst_true, snd_true, on, clash}
use Rattle.heartbeat.specs.declared.Rank.{Rank}
use Rattle.heartbeat.specs.Rank.{higher}
use Rattle.heartbeat.proofs.Order.{transitive, total}
use Rattle.server.specs.Server.{rank_of}
use Rattle.group.specs.declared.State.{State}
use Rattle.group.specs.Hearing.{place, hears_from, over, is_place, comes, next_among, next_sender}

-- the ranks of the places that place j hears are different
pub record Apart (c : State) (j : ℕ) : Type 0 where
  pub differ : (a b : ℕ) → hears_from c j a ≡ true → hears_from c j b ≡ true → a < 16 → b < 16 → (a ≡ b → ⊥) → rank_of (place c a) ≡ rank_of (place c b) → ⊥

-- of two different ranks one is higher
one-higher : (a b : Rank) → (a ≡ b → ⊥) → (higher a b ≡ true) ⊎ (higher b a ≡ true)
unfolding higher
one-higher a b d =
    on (equal a.identity b.identity)
    (λ e.
    let apart : a.priority ≡ b.priority → ⊥ = λ p. d (ap₂ (λ (x y : ℕ). record { priority = x; identity = y }) p e) in
    on (less a.priority b.priority)
    (λ l. inr (other _ (ne_eqb b.priority a.priority (λ z. apart (sym z))) ∙ lt-ltb a.priority b.priority l))
    (λ l. inl (other _ (ne_eqb a.priority b.priority apart) ∙ lt-ltb b.priority a.priority (below b.priority a.priority l (λ z. apart (sym z))))))
    (λ e. total a b e)
  where
    below : (m n : ℕ) → m ≤ n → (m ≡ n → ⊥) → m < n
    below m n l h = on (less m n) (λ g. g) (λ g. absurd (h (omega arith)))

-- place i comes after the place last
abbrev pub under : State → ℕ → ℕ → Bool
under c last i = choose (is_place last) (over c last i) true

-- place i may be heard after the place last
abbrev pub waits : State → ℕ → ℕ → ℕ → Bool
waits c j last i = hears_from c j i && under c last i

-- best is the first of the places below n that may be heard after the place last
pub record First (c : State) (j last n best : ℕ) : Type 0 where
  pub some : best < 16 → waits c j last best ≡ true
  pub below : best < 16 → best < n
  pub none : 16 ≤ best → best ≡ 16
  pub first : (i : ℕ) → i < n → waits c j last i ≡ true → (best < 16) × ((i ≡ best) ⊎ (over c best i ≡ true))

-- ---- which place comes before the best

module _ (c : State) (j last best n : ℕ) where
  -- one that comes may be heard, and is higher than the best
  comes-waits : comes c j last best n ≡ true → waits c j last n ≡ true
  unfolding comes
  comes-waits t = and_true (fst_true (hears_from c j n) _ t) (fst_true (under c last n) _ (snd_true (hears_from c j n) _ t))

  comes-over : comes c j last best n ≡ true → best < 16 → over c n best ≡ true
  unfolding comes
  comes-over t h = sym (chosen _ (lt-ltb best 16 h)) ∙ snd_true (under c last n) _ (snd_true (hears_from c j n) _ t)

  -- one that may be heard comes if it is higher than the best, or if there is none
  over-comes : waits c j last n ≡ true → best < 16 → over c n best ≡ true → comes c j last best n ≡ true
  unfolding comes
  over-comes w h u =
      and_true (fst_true (hears_from c j n) _ w) (and_true (snd_true (hears_from c j n) _ w) (chosen _ (lt-ltb best 16 h) ∙ u))

  first-comes : waits c j last n ≡ true → 16 ≤ best → comes c j last best n ≡ true
  unfolding comes
  first-comes w h =
      and_true (fst_true (hears_from c j n) _ w) (and_true (snd_true (hears_from c j n) _ w) (other _ (le-ltb best 16 h)))

-- ---- the best of all

module _ (c : State) (j last : ℕ) (apart : Apart c j) where
  -- one place more
  more : (n best : ℕ) → n < 16 → First c j last n best → First c j last (suc n) (choose (comes c j last best n) n best)
  more n best h f =
      by_choice (First c j last (suc n)) (comes c j last best n)
      (λ t.
      record {
        some = λ _. comes-waits c j last best n t;
        below = λ _. omega arith;
        none = λ g. absurd (omega arith);
        first =
            λ i l w.
            on (less i n)
            (λ g.
            let r = f.first i g w in
            let above = comes-over c j last best n t r.0 in
            (h, inr (on r.1 (λ q. rw q above) (λ q. transitive (rank_of (place c n)) (rank_of (place c best)) (rank_of (place c i)) above q))))
            (λ g. (h, inl (omega arith)));
      })
      (λ t.
      record {
        some = f.some;
        below = λ g. let l = f.below g in omega arith;
        none = f.none;
        first = λ i l w. on (less i n) (λ g. f.first i g w) (λ g. let q : i ≡ n = omega arith in behind (rw q at w) q t);
      })
    where
      -- n may be heard, and does not come before the best: then there is a best, and it comes
      -- before n
      behind : {i : ℕ} → waits c j last n ≡ true → i ≡ n → comes c j last best n ≡ false → (best < 16) × ((i ≡ best) ⊎ (over c best i ≡ true))
      behind {i} w q t =
          on (less best 16)
          (λ g. (
            g,
            inr (rw q (on (one-higher (rank_of (place c best)) (rank_of (place c n)) (apart.differ best n (fst_true _ _ (f.some g)) (fst_true _ _ w) g h (λ z. let l = f.below g in omega arith)))
                (λ u. u)
                (λ u. absurd (clash (over-comes c j last best n w g u) t)))),
          ))
          (λ g. absurd (clash (first-comes c j last best n w g) t))

  among : (n : ℕ) → n ≤ 16 → First c j last n (next_among c j last n)
  unfolding next_among
  among zero h =
      record { some = λ g. absurd (omega arith); below = λ g. absurd (omega arith); none = λ g. refl; first = λ i l w. absurd (omega arith) }
  among (suc n) h = more n (next_among c j last n) h (among n (omega arith))

  pub next-first : First c j last 16 (next_sender c j last)
  unfolding next_sender
  next-first = among 16 (omega arith)
