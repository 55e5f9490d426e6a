-- The senders that a place hears: each may be heard, each lower than the one before, and none left
-- out. Assumes nothing.
use mathlib.Core.Bool.{true, false}
use mathlib.Core.Path.{◌≡◌, refl, sym, ◌∙◌}
use mathlib.Core.List.Memᴰ
use mathlib.Core.List.{[], ◌∷◌, Memᴰ}
use Prim.Native.Nat.{ℕ, zero, suc, ◌<◌, ◌≤◌}
use native.Mathlib.Omega.{arith}
use borrow.Author.Tests.{lt-ltb, le-ltb}
use Rattle.lists.specs.Lists.{count_below}
use Rattle.lists.proofs.Cases.{tested, less, chosen, other, and_true, fst_true, snd_true, on, clash}
use Rattle.lists.proofs.Counting.{count_lt, count-size}
use Rattle.heartbeat.proofs.Order.{irreflexive, transitive}
use Rattle.server.specs.Server.{rank_of}
use Rattle.group.specs.declared.State.{State}
use Rattle.group.specs.Hearing.{place, hears_from, over, no_place, next_sender, senders_after, senders}
use Rattle.group.proofs.Next.{Apart, under, waits, next-first}

module _ (c : State) (j : ℕ) (apart : Apart c j) where
  -- the list opened: one comes next, or none
  pub some_next : (n last : ℕ) → next_sender c j last < 16 → senders_after c j (suc n) last ≡ next_sender c j last ∷ senders_after c j n (next_sender c j last)
  unfolding senders_after
  some_next n last h = rw (lt-ltb (next_sender c j last) 16 h, senders_after)

  pub none-next : (n last : ℕ) → 16 ≤ next_sender c j last → senders_after c j (suc n) last ≡ []
  unfolding senders_after
  none-next n last h = rw (le-ltb (next_sender c j last) 16 h, senders_after)

  -- who is lower than one that comes after the last comes after the last
  pub under_trans : (last a b : ℕ) → under c last a ≡ true → over c a b ≡ true → under c last b ≡ true
  under_trans last a b e f =
      on (less last 16)
      (λ h.
      chosen _ (lt-ltb last 16 h)
      ∙ transitive (rank_of (place c last)) (rank_of (place c a)) (rank_of (place c b)) (sym (chosen _ (lt-ltb last 16 h)) ∙ e) f)
      (λ h. other _ (le-ltb last 16 h))

  -- each sender may be heard after the last
  pub each : (n last i : ℕ) → Memᴰ i (senders_after c j n last) → (i < 16) × (waits c j last i ≡ true)
  unfolding senders_after
  each zero last i m = absurd (Memᴰ.not-nil m)
  each (suc n) last i m =
      let next = next_sender c j last in
      let f = next-first c j last apart in
      on (less next 16)
      (λ h.
      on (Memᴰ.cases_cons (rw (some_next n last h) at m))
      (λ q. rw q (h, f.some h))
      (λ r.
      let below = each n next i r in
      let lower : over c next i ≡ true = sym (chosen _ (lt-ltb next 16 h)) ∙ snd_true (hears_from c j i) _ below.1 in (
        below.0,
        and_true (fst_true (hears_from c j i) _ below.1) (under_trans last next i (snd_true (hears_from c j next) _ (f.some h)) lower),
      )))
      (λ h. absurd (Memᴰ.not-nil (rw (none-next n last h) at m)))

  -- none is left out, if there are as many turns as there are senders
  complete : (n last : ℕ) → count_below (waits c j last) 16 ≤ n → (i : ℕ) → i < 16 → waits c j last i ≡ true → Memᴰ i (senders_after c j n last)
  complete zero last l i h w = absurd (let s = count_lt (λ _. false) (waits c j last) 16 (λ _ _ e. absurd (clash e refl)) i h refl w in omega arith)
  complete (suc n) last l i h w =
      let next = next_sender c j last in
      let f = next-first c j last apart in
      let g = f.first i h w in
      let here : waits c j last next ≡ true = f.some g.0 in
      rw (some_next n last g.0)
      (on g.1
      (λ q. Memᴰ.head q)
      (λ q.
      let lower : under c next i ≡ true = chosen _ (lt-ltb next 16 g.0) ∙ q in
      let fewer =
      count_lt (waits c j next) (waits c j last) 16
      (λ k r e.
      and_true (fst_true (hears_from c j k) _ e)
      (under_trans last next k (snd_true (hears_from c j next) _ here) (sym (chosen _ (lt-ltb next 16 g.0)) ∙ snd_true (hears_from c j k) _ e)))
      next g.0 (itself next g.0) here in
      Memᴰ.tail (complete n next (omega arith) i h (and_true (fst_true (hears_from c j i) _ w) lower))))
    where
      -- no place comes after itself
      itself : (k : ℕ) → k < 16 → waits c j k k ≡ false
      itself k l =
          on (tested (waits c j k k))
          (λ e. absurd (clash (sym (chosen _ (lt-ltb k 16 l)) ∙ snd_true (hears_from c j k) _ e) (irreflexive (rank_of (place c k)))))
          (λ e. e)

  -- whoever is heard is among the senders
  pub all-heard : (i : ℕ) → i < 16 → hears_from c j i ≡ true → Memᴰ i (senders c j)
  all-heard i h e = complete 16 no_place (count-size (waits c j no_place) 16) i h (and_true e (other _ (le-ltb no_place 16 (omega arith))))
