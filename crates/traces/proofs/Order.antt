-- The order of the servers: the highest that passes a test, and a server's rank, the number of
-- those lower than it.
use mathlib.Core.Path.{◌≡◌, sym}
use mathlib.Core.Logic.{◌⊎◌, inl, inr}
use mathlib.Core.Bool.{Bool, true, false, ◌&&◌}
use Prim.Native.Nat.{ℕ, zero, suc, ◌<◌, ◌≤◌}
use native.Mathlib.Omega.{arith}
use Rattle.lists.specs.Lists.{count_below}
use Rattle.lists.proofs.Cases.{fst_true, snd_true, and_true, and_right, tested, on, less, equal, clash}
use Rattle.lists.proofs.Counting.{count_lt}
use Rattle.traces.specs.Facts.{Order}

-- h passes the test p, and is higher than all others below m that do
pub record Highest (n : ℕ) (higher : ℕ → ℕ → Bool) (p : ℕ → Bool) (m h : ℕ) : Type 0 where
  pub known : h < n
  pub has : p h ≡ true
  pub over : (i : ℕ) → i < m → p i ≡ true → (i ≡ h) ⊎ (higher h i ≡ true)

module _ {n : ℕ} {seated : ℕ → Bool} {higher : ℕ → ℕ → Bool} (o : Order n seated higher) where
  pub no_both : (i j : ℕ) → i < n → j < n → higher i j ≡ true → higher j i ≡ true → ⊥
  no_both i j a b p q = clash (o.transitive i j i a b a p q) (o.irreflexive i a)

  -- who is below the highest is not above it
  pub not-over : (p : ℕ → Bool) (h i : ℕ) → Highest n higher p n h → i < n → p i ≡ true → higher i h ≡ true → ⊥
  not-over p h i g l e q = on (g.over i l e)
      (λ s. clash (rw s at q) (o.irreflexive h g.known))
      (λ s. no_both h i g.known l s q)

  -- a highest below m is one below m + 1, if m is no rival
  grow : {p : ℕ → Bool} {m h : ℕ} → Highest n higher p m h → (p m ≡ true → (m ≡ h) ⊎ (higher h m ≡ true))
      → Highest n higher p (suc m) h
  grow {p} {m} {h} r q = record {
    known = r.known;
    has = r.has;
    over = λ i g c. on (less i m) (λ l. r.over i l c)
        (λ l. let s : i ≡ m = omega arith in rw s (q (rw s at c)));
  }

  -- below m nobody passes the test, or there is a highest that does, if all who pass it are seated
  pub highest : (p : ℕ → Bool) → ((i : ℕ) → i < n → p i ≡ true → seated i ≡ true) → (m : ℕ) → m ≤ n
      → ((i : ℕ) → i < m → p i ≡ false) ⊎ ((h : ℕ) × Highest n higher p m h)
  highest p sits zero l = inl (λ i g. absurd (omega arith))
  highest p sits (suc m) l =
      on (tested (p m))
      (λ e. inr (on (highest p sits m (omega arith)) (λ f. (m, only e f)) (λ r. against e r.0 r.1)))
      (λ e. on (highest p sits m (omega arith))
      (λ f. inl (λ i g. on (less i m) (f i) (λ q. let s : i ≡ m = omega arith in rw s e)))
      (λ r. inr (r.0, grow r.1 (λ c. absurd (clash c e)))))
    where
      only : p m ≡ true → ((i : ℕ) → i < m → p i ≡ false) → Highest n higher p (suc m) m
      only e f = record {
        known = l;
        has = e;
        over = λ i g c. on (less i m)
            (λ q. absurd (clash c (f i q))) (λ q. inl (omega arith));
      }

      beaten : p m ≡ true → (h : ℕ) → Highest n higher p m h → higher m h ≡ true → Highest n higher p (suc m) m
      beaten e h r u = record {
        known = l;
        has = e;
        over = λ i g c. on (less i m)
            (λ q. inr (on (r.over i q c) (λ f. rw f u) (o.transitive m h i l r.known (omega arith) u)))
            (λ q. inl (omega arith));
      }

      against : p m ≡ true → (h : ℕ) → Highest n higher p m h → (h : ℕ) × Highest n higher p (suc m) h
      against e h r = on (equal h m) (λ s. (h, grow r (λ _. inl (sym s)))) λ s.
          on (o.total h m r.known l (sits h r.known r.has) (sits m l e) s)
          (λ u. (h, grow r (λ _. inr u))) (λ u. (m, beaten e h r u))

-- how many of the seated are lower than i
pub rank : ℕ → (ℕ → Bool) → (ℕ → ℕ → Bool) → ℕ → ℕ
rank n seated higher i = count_below (λ j. seated j && higher i j) n

module _ {n : ℕ} {seated : ℕ → Bool} {higher : ℕ → ℕ → Bool} (o : Order n seated higher) where
  -- a lower one that is seated has a smaller rank
  pub rank_lt : (i j : ℕ) → i < n → j < n → seated j ≡ true → higher i j ≡ true
      → rank n seated higher j < rank n seated higher i
  unfolding rank
  rank_lt i j a b s e = count_lt (λ x. seated x && higher j x) (λ x. seated x && higher i x) n
      (λ x l q.
      and_true (fst_true (seated x) (higher j x) q) (o.transitive i j x a b l e (snd_true (seated x) (higher j x) q))) j b
      (and_right (seated j) (o.irreflexive j b)) (and_true s e)

  -- and the rank of a seated one is below the number of the seated
  pub rank-small : (i : ℕ) → i < n → seated i ≡ true → rank n seated higher i < count_below seated n
  unfolding rank
  rank-small i a s = count_lt (λ x. seated x && higher i x) seated n
      (λ x l q. fst_true (seated x) (higher i x) q) i a (and_right (seated i) (o.irreflexive i a)) s
