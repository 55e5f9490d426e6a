-- What a place hears: first all from higher senders, then all from lower ones. Assumes nothing.
use mathlib.Core.Bool.{true}
use mathlib.Core.Path.{◌≡◌, refl, sym, ap, ◌∙◌}
use mathlib.Core.Logic.{inr}
use mathlib.Core.List.Memᴰ
use mathlib.Core.List.{List, [], ◌∷◌, ◌++◌, append_assoc, Memᴰ}
use Prim.Native.Nat.{ℕ, zero, suc, ◌<◌}
use borrow.Author.Tests.{lt-ltb}
use Rattle.lists.specs.Lists.{every}
use Rattle.lists.proofs.Cases.{less, chosen, fst_true, snd_true, on}
use Rattle.lists.proofs.Clear.{every_append}
use Rattle.heartbeat.specs.declared.Heartbeat.{Heartbeat}
use Rattle.heartbeat.proofs.Order.{transitive, total}
use Rattle.server.specs.declared.Server.{Server}
use Rattle.server.specs.Server.{rank_of, plain_of, sent_by}
use Rattle.server.specs.Hearing.{from_higher, from_lower}
use Rattle.server.proofs.Sent.{every-sent}
use Rattle.group.specs.declared.State.{State}
use Rattle.group.specs.Hearing.{place, hears_from, over, no_place, next_sender, senders_after, sent_by_all, senders, inbox}
use Rattle.group.proofs.Next.{Apart}
use Rattle.group.proofs.Senders.{some_next, none-next, each, all-heard}

-- what is heard falls into heartbeats of higher senders and then heartbeats of lower ones
pub record Falls (s : Server) (hs : List Heartbeat) : Type 0 where
  pub upper : List Heartbeat
  pub under : List Heartbeat
  pub parts : hs ≡ upper ++ under
  pub highers : every (from_higher s) upper ≡ true
  pub lowers : every (from_lower s) under ≡ true

-- all of one sender's heartbeats have its rank
sent-higher : (s x : Server) → from_higher s (plain_of x) ≡ true → every (from_higher s) (sent_by x) ≡ true
sent-higher s x e = every-sent (from_higher s) x e (inr e) (inr e)

sent-lower : (s x : Server) → from_lower s (plain_of x) ≡ true → every (from_lower s) (sent_by x) ≡ true
sent-lower s x e = every-sent (from_lower s) x e (inr e) (inr e)

module _ (c : State) (s : Server) where
  -- senders that are all lower
  all-lower : (is : List ℕ) → ((i : ℕ) → Memᴰ i is → from_lower s (plain_of (place c i)) ≡ true) → every (from_lower s) (sent_by_all c is) ≡ true
  unfolding sent_by_all
  all-lower [] h = refl
  all-lower (i ∷ is) h =
      every_append (from_lower s) (sent_by (place c i)) (sent_by_all c is) (sent-lower s (place c i) (h i (Memᴰ.head refl))) (all-lower is (λ k m. h k (Memᴰ.tail m)))

  -- each sender lower than those before it
  pub data Descends : List ℕ → Type 0 where
    none : Descends []
    next : {i : ℕ} {is : List ℕ} → ((k : ℕ) → Memᴰ k is → over c i k ≡ true) → Descends is → Descends (i ∷ is)

  -- each sender is higher or lower than the hearer
  falls : (is : List ℕ) → Descends is → ((i : ℕ) → Memᴰ i is → ((place c i).identity ≡ s.identity) → ⊥) → Falls s (sent_by_all c is)
  unfolding sent_by_all
  falls [] d h = record { upper = []; under = []; parts = refl; highers = refl; lowers = refl }
  falls (i ∷ is) (next f d) h =
      on (total (rank_of (place c i)) (rank_of s) (h i (Memᴰ.head refl)))
      (λ e.
      let r = falls is d (λ k m. h k (Memᴰ.tail m)) in
      record {
        upper = sent_by (place c i) ++ r.upper;
        under = r.under;
        parts = ap (λ (l : List Heartbeat). sent_by (place c i) ++ l) r.parts ∙ sym (append_assoc (sent_by (place c i)) r.upper r.under);
        highers = every_append (from_higher s) (sent_by (place c i)) r.upper (sent-higher s (place c i) e) r.highers;
        lowers = r.lowers;
      })
      (λ e.
      record {
        upper = [];
        under = sent_by (place c i) ++ sent_by_all c is;
        parts = refl;
        highers = refl;
        lowers =
            every_append (from_lower s) (sent_by (place c i)) (sent_by_all c is) (sent-lower s (place c i) e)
            (all-lower is (λ k m. transitive (rank_of s) (rank_of (place c i)) (rank_of (place c k)) e (f k m)));
      })

-- what a sender sent is in what is heard of all
pub in_all : (c : State) (is : List ℕ) (i : ℕ) (h : Heartbeat) → Memᴰ i is → Memᴰ h (sent_by (place c i)) → Memᴰ h (sent_by_all c is)
unfolding sent_by_all
in_all c [] i h m n = absurd (Memᴰ.not-nil m)
in_all c (k ∷ is) i h m n =
    on (Memᴰ.cases_cons m)
    (λ q. Memᴰ.append_left (sent_by_all c is) (rw q at n))
    (λ q. Memᴰ.append_right (sent_by (place c k)) (in_all c is i h q n))

-- and what is heard of all was sent by one of them
pub of-all : (c : State) (is : List ℕ) (h : Heartbeat) → Memᴰ h (sent_by_all c is) → (i : ℕ) × Memᴰ i is × Memᴰ h (sent_by (place c i))
unfolding sent_by_all
of-all c [] h m = absurd (Memᴰ.not-nil m)
of-all c (k ∷ is) h m =
    on (Memᴰ.append_cases (sent_by (place c k)) m)
    (λ q. (k, Memᴰ.head refl, q))
    (λ q. let r = of-all c is h q in (r.0, Memᴰ.tail r.1, r.2))

module _ (c : State) (j : ℕ) (apart : Apart c j) where
  pub descends : (n last : ℕ) → Descends c (place c j) (senders_after c j n last)
  unfolding senders_after
  descends zero last = none
  descends (suc n) last =
      on (less (next_sender c j last) 16)
      (λ h.
      rw (some_next c j apart n last h)
      (next
      (λ k m.
      let w = each c j apart n (next_sender c j last) k m in
      sym (chosen _ (lt-ltb (next_sender c j last) 16 h)) ∙ snd_true (hears_from c j k) _ w.1)
      (descends n (next_sender c j last))))
      (λ h. rw (none-next c j apart n last h) none)

  -- a heard place, from the list of senders
  pub is-heard : (i : ℕ) → Memᴰ i (senders c j) → (i < 16) × (hears_from c j i ≡ true)
  is-heard i m = let w = each c j apart 16 no_place i m in (w.0, fst_true (hears_from c j i) _ w.1)

  pub inbox-falls : ((i : ℕ) → i < 16 → hears_from c j i ≡ true → (place c i).identity ≡ (place c j).identity → ⊥) → Falls (place c j) (inbox c j)
  unfolding inbox
  inbox-falls h = falls c (place c j) (senders c j) (descends 16 no_place) (λ i m. let w = is-heard i m in h i w.0 w.1)

  -- what a heard place sent is in the inbox, and the other way round
  pub in_inbox : (i : ℕ) (h : Heartbeat) → i < 16 → hears_from c j i ≡ true → Memᴰ h (sent_by (place c i)) → Memᴰ h (inbox c j)
  unfolding inbox
  in_inbox i h l e m = in_all c (senders c j) i h (all-heard c j apart i l e) m

  pub of-inbox : (h : Heartbeat) → Memᴰ h (inbox c j) → (i : ℕ) × (i < 16) × (hears_from c j i ≡ true) × Memᴰ h (sent_by (place c i))
  unfolding inbox
  of-inbox h m =
      let r = of-all c (senders c j) h m in
      let w = is-heard r.0 r.1 in
      (r.0, w.0, w.1, r.2)
