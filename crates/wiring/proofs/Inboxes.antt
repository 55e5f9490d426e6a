-- What a member hears by the protocol is the inbox of its place in the channel. Assumes nothing.
use mathlib.Core.Bool.{Bool, true, false, not, ◌&&◌}
use mathlib.Core.Path.{◌≡◌, refl, sym, ap, ap₂, subst, ◌∙◌}
use mathlib.Core.List.Memᴰ
use mathlib.Core.List.{List, [], ◌∷◌, ◌++◌, append-nil, Memᴰ}
use Prim.Native.Nat.{ℕ, ◌<◌}
use borrow.Author.Tests.{eq-eqb, ne_eqb}
use lib.Dec.{eqb}
use lib.ListN.{replicate, get_or-map}
use Rattle.lists.specs.Choice.{choose}
use Rattle.lists.specs.Lists.{every}
use Rattle.lists.proofs.Cases.{tested, equal, chosen, other, and_true, fst_true, snd_true, on, clash}
use Rattle.lists.proofs.Clear.{every_mem, every_of}
use Rattle.heartbeat.specs.declared.Heartbeat.{Heartbeat}
use Rattle.heartbeat.specs.declared.Rank.{Rank}
use Rattle.heartbeat.specs.Rank.{higher}
use Rattle.heartbeat.specs.Heartbeat.{sender}
use Rattle.heartbeat.proofs.Order.{irreflexive, asymmetric}
use Rattle.server.specs.declared.Server.{Server}
use Rattle.server.specs.Server.{absent, rank_of, plain_of, reveal_of, pass_of, sent_by, sent_any}
use Rattle.server.proofs.Sent.{sent-rank}
use Rattle.group.specs.declared.State.{State}
use Rattle.group.specs.Table.{is_empty}
use Rattle.group.specs.Hearing.{place, whole, hears_from, over, sent_by_all, senders, inbox, no_place}
use Rattle.group.proofs.Inbox.{Descends, next, descends, is-heard, of-all, of-inbox}
use Rattle.group.proofs.Senders.{all-heard}
use Rattle.reached.proofs.Sound.{Sound, hears-apart}
use Rattle.wiring.specs.Members.{Member, nobody, identity_of}
use Rattle.wiring.specs.Heard.{member_at, is_vacant, from, falling, Heard, Comes}
use Rattle.wiring.specs.Same.{member_of, group_of}
use Rattle.wiring.proofs.Sorting.{from-own, from_nil, from-append, from-none, to-from, one-order}

-- ---- the members of the group of a channel

pub member-at : (c : State) (i : ℕ) → member_at (group_of c) i ≡ member_of c (place c i)
unfolding choose
member-at c i = get_or-map (member_of c) c.servers i absent

pub identity-of : (c : State) (s : Server) → identity_of (member_of c s) ≡ s.identity
identity-of c s =
    on (equal s.identity 0)
    (λ e. ap identity_of (chosen _ (eq-eqb s.identity 0 e)) ∙ sym e)
    (λ e. ap identity_of (other _ (ne_eqb s.identity 0 e)))

pub identity-at : (c : State) (i : ℕ) → identity_of (member_at (group_of c) i) ≡ (place c i).identity
identity-at c i = ap identity_of (member-at c i) ∙ identity-of c (place c i)

pub taken : (c : State) (i : ℕ) → is_vacant (member_at (group_of c) i) ≡ false → is_empty (place c i) ≡ false
taken c i e = ap (λ (n : ℕ). eqb n 0) (sym (identity-at c i)) ∙ e

pub not-vacant : (c : State) (i : ℕ) → is_empty (place c i) ≡ false → is_vacant (member_at (group_of c) i) ≡ false
not-vacant c i e = ap (λ (n : ℕ). eqb n 0) (identity-at c i) ∙ e

sent-at : (c : State) (i : ℕ) → is_empty (place c i) ≡ false → (member_at (group_of c) i).sent ≡ sent_by (place c i)
sent-at c i e = ap (λ (m : Member). m.sent) (member-at c i ∙ other nobody e)

-- ---- lists of one sender

from_all : (x : ℕ) (l : List Heartbeat) → ((h : Heartbeat) → Memᴰ h l → h.tiebreaker ≡ x) → from x l ≡ l
from_all x [] f = from_nil x
from_all x (h ∷ l) f =
    from-own x h l (f h (Memᴰ.head refl)) ∙ ap (λ (r : List Heartbeat). h ∷ r) (from_all x l (λ k m. f k (Memᴰ.tail m)))

own : (s : Server) (h : Heartbeat) → Memᴰ h (sent_by s) → h.tiebreaker ≡ s.identity
own s h m = ap (λ (r : Rank). r.identity) (sent-rank s h m)

falling_level : (r : Rank) (l : List Heartbeat) → ((h : Heartbeat) → Memᴰ h l → sender h ≡ r) → falling l ≡ true
unfolding falling
falling_level r [] f = refl
falling_level r (h ∷ l) f =
    and_true
    (every_of (λ k. not (higher (sender k) (sender h))) l
    (λ k m. ap not (ap₂ higher (f k (Memᴰ.tail m)) (f h (Memᴰ.head refl)) ∙ irreflexive r)))
    (falling_level r l (λ k m. f k (Memᴰ.tail m)))

falling-append :
    (a b : List Heartbeat) → falling a ≡ true → falling b ≡ true →
    ((h k : Heartbeat) → Memᴰ h a → Memᴰ k b → higher (sender k) (sender h) ≡ false) → falling (a ++ b) ≡ true
unfolding falling
falling-append [] b f g x = g
falling-append (h ∷ a) b f g x =
    let p : Heartbeat → Bool = λ k. not (higher (sender k) (sender h)) in
    let q = fst_true (every p a) (falling a) f in
    and_true
    (every_of p (a ++ b)
    (λ k m.
    on (Memᴰ.append_cases a m)
    (λ l. every_mem p a q l)
    (λ l. ap not (x h k (Memᴰ.head refl) l))))
    (falling-append a b (snd_true (every p a) (falling a) f) g (λ i k m n. x i k (Memᴰ.tail m) n))

-- ---- the senders of a place

module _ (c : State) (sound : Sound c) (s : Server) where
  -- servers that stand in their places
  abbrev Seated : List ℕ → Type 0
  Seated is = (i : ℕ) → Memᴰ i is → (i < 16) × (is_empty (place c i) ≡ false)

  apart : (i k : ℕ) → i < 16 → k < 16 → is_empty (place c i) ≡ false → (i ≡ k → ⊥) → (place c k).identity ≡ (place c i).identity → ⊥
  apart i k h l e d q = sound.apart i k h l d (λ z. clash (eq-eqb (place c i).identity 0 z) e) (sym q)

  falls-all : (is : List ℕ) → Descends c s is → falling (sent_by_all c is) ≡ true
  unfolding sent_by_all falling
  falls-all [] d = refl
  falls-all (i ∷ is) (next f d) =
      falling-append (sent_by (place c i)) (sent_by_all c is)
      (falling_level (rank_of (place c i)) (sent_by (place c i)) (λ h m. sent-rank (place c i) h m))
      (falls-all is d)
      (λ h k m n.
      let r = of-all c is k n in
      ap₂ higher (sent-rank (place c r.0) k r.2) (sent-rank (place c i) h m)
      ∙ asymmetric (rank_of (place c i)) (rank_of (place c r.0)) (f r.0 r.1))

  -- of a place that is not among them
  from_out :
      (i : ℕ) → i < 16 → is_empty (place c i) ≡ false → (is : List ℕ) → Seated is → (Memᴰ i is → ⊥) →
      from (place c i).identity (sent_by_all c is) ≡ []
  from_out i h e is w n =
      from-none (place c i).identity (sent_by_all c is)
      (λ k m q.
      let r = of-all c is k m in
      let u = w r.0 r.1 in
      apart i r.0 h u.0 e (λ z. n (subst (λ (x : ℕ). Memᴰ x is) (sym z) r.1)) (sym (own (place c r.0) k r.2) ∙ q))

  -- and of one that is
  from_in :
      (i : ℕ) → i < 16 → is_empty (place c i) ≡ false → (is : List ℕ) → Descends c s is → Seated is → Memᴰ i is →
      from (place c i).identity (sent_by_all c is) ≡ sent_by (place c i)
  unfolding sent_by_all
  from_in i h e [] d w m = absurd (Memᴰ.not-nil m)
  from_in i h e (k ∷ is) (next f d) w m =
      let x = (place c i).identity in
      let split = from-append x (sent_by (place c k)) (sent_by_all c is) in
      on (equal i k)
      (λ q.
      split
      ∙ ap₂ (λ (a b : List Heartbeat). a ++ b)
      (from_all x (sent_by (place c k)) (λ g n. own (place c k) g n ∙ ap (λ (y : ℕ). (place c y).identity) (sym q)))
      (from_out i h e is (λ y n. w y (Memᴰ.tail n))
      (λ n. clash (subst (λ (y : ℕ). over c y i ≡ true) (sym q) (f i n)) (irreflexive (rank_of (place c i)))))
      ∙ append-nil (sent_by (place c k))
      ∙ ap (λ (y : ℕ). sent_by (place c y)) (sym q))
      (λ q.
      split
      ∙ ap₂ (λ (a b : List Heartbeat). a ++ b)
      (from-none x (sent_by (place c k)) (λ g n z. apart i k h (w k (Memᴰ.head refl)).0 e q (sym (own (place c k) g n) ∙ z)))
      (from_in i h e is d (λ y n. w y (Memᴰ.tail n)) (on (Memᴰ.cases_cons m) (λ z. absurd (q z)) (λ n. n))))

-- ---- the inbox

-- what is in a choice between a list and none is in the list
in_choice : (t : Bool) (l : List Heartbeat) {h : Heartbeat} → Memᴰ h (choose t l []) → Memᴰ h l
unfolding choose
in_choice true l m = m
in_choice false l m = absurd (Memᴰ.not-nil m)

none-sent : (s : Server) → sent_any s ≡ false → sent_by s ≡ []
unfolding sent_by sent_any
none-sent s e =
    on (equal s.beats 0)
    (λ z.
    let a : choose s.reveal true (not (eqb s.pass 0)) ≡ false = sym (chosen true (eq-eqb s.beats 0 z)) ∙ e in
    on (tested s.reveal)
    (λ t. absurd (clash {t = true} refl (sym (chosen _ t) ∙ a)))
    (λ t.
    let b : not (eqb s.pass 0) ≡ false = sym (other true t) ∙ a in
    on (equal s.pass 0)
    (λ q.
    ap (λ (n : ℕ). replicate n (plain_of s) ++ (choose s.reveal (reveal_of s ∷ []) [] ++ choose (eqb s.pass 0) [] (pass_of s ∷ []))) z
    ∙ ap (λ (l : List Heartbeat). l ++ choose (eqb s.pass 0) [] (pass_of s ∷ [])) (other (reveal_of s ∷ []) t)
    ∙ chosen (pass_of s ∷ []) (eq-eqb s.pass 0 q))
    (λ q. absurd (clash (ap not (ne_eqb s.pass 0 q)) b))))
    (λ z. absurd (clash {t = true} refl (sym (other _ (ne_eqb s.beats 0 z)) ∙ e)))

module _ (c : State) (sound : Sound c) (j : ℕ) where
  seated : (i : ℕ) → i < 16 → hears_from c j i ≡ true → is_empty (place c i) ≡ false
  unfolding hears_from
  seated i h e =
      on (equal (place c i).identity 0)
      (λ z.
      absurd (clash
      (fst_true (sent_any (place c i)) (whole c i j) (snd_true (not (eqb i j)) (sent_any (place c i) && whole c i j) e))
      (sound.silent i h z)))
      (λ z. ne_eqb (place c i).identity 0 z)

  from-inbox : (i : ℕ) → i < 16 → is_empty (place c i) ≡ false → from (place c i).identity (inbox c j) ≡ choose (not (eqb i j) && whole c i j) (sent_by (place c i)) []
  unfolding inbox hears_from
  from-inbox i h e =
      let a = hears-apart c sound j in
      let w : (k : ℕ) → Memᴰ k (senders c j) → (k < 16) × (is_empty (place c k) ≡ false) =
      (λ k m. let r = is-heard c j a k m in (r.0, seated k r.0 r.1)) in
      on (tested (hears_from c j i))
      (λ t.
      from_in c sound (place c j) i h e (senders c j) (descends c j a 16 no_place) w (all-heard c j a i h t)
      ∙ sym (chosen [] (and_true (fst_true (not (eqb i j)) _ t) (snd_true (sent_any (place c i)) (whole c i j) (snd_true (not (eqb i j)) _ t)))))
      (λ t.
      from_out c sound (place c j) i h e (senders c j) w (λ m. clash (is-heard c j a i m).1 t)
      ∙ on (tested (not (eqb i j) && whole c i j))
      (λ p.
      let quiet : sent_any (place c i) ≡ false =
      on (tested (sent_any (place c i)))
      (λ q. absurd (clash (and_true (fst_true (not (eqb i j)) (whole c i j) p) (and_true q (snd_true (not (eqb i j)) (whole c i j) p))) t))
      (λ q. q) in
      sym (chosen [] p ∙ none-sent (place c i) quiet))
      (λ p. sym (other (sent_by (place c i)) p)))

  -- what is heard by the protocol
  pub heard-inbox : (hs : List Heartbeat) → Heard (group_of c) j hs → hs ≡ inbox c j
  unfolding inbox
  heard-inbox hs heard =
      one-order hs (inbox c j) heard.order (falls-all c sound (place c j) (senders c j) (descends c j (hears-apart c sound j) 16 no_place))
      (λ h m.
      on m
      (λ l. let r = heard.comes.known h l in subst (λ (x : ℕ). from x hs ≡ from x (inbox c j)) (sym (identity-at c r.place) ∙ r.identity) (alike r.place r.seated.place (taken c r.place r.seated.server)))
      (λ l.
      let r = of-inbox c j (hears-apart c sound j) h l in
      subst (λ (x : ℕ). from x hs ≡ from x (inbox c j)) (sym (own (place c r.0) h r.3)) (alike r.0 r.1 (seated r.0 r.1 r.2))))
    where
      alike : (i : ℕ) → i < 16 → is_empty (place c i) ≡ false → from (place c i).identity hs ≡ from (place c i).identity (inbox c j)
      alike i l e =
          ap (λ (x : ℕ). from x hs) (sym (identity-at c i))
          ∙ heard.comes.each i (record { place = l; server = not-vacant c i e })
          ∙ ap (λ (x : List Heartbeat). choose (not (eqb i j) && whole c i j) x []) (sent-at c i e)
          ∙ sym (from-inbox i l e)

  -- the inbox itself is heard as it must be
  pub inbox-heard : Heard (group_of c) j (inbox c j)
  unfolding inbox
  inbox-heard =
      record {
        comes =
            record {
              each = λ i s.
                  ap (λ (x : ℕ). from x (inbox c j)) (identity-at c i)
                  ∙ from-inbox i s.place (taken c i s.server)
                  ∙ ap (λ (x : List Heartbeat). choose (not (eqb i j) && whole c i j) x []) (sym (sent-at c i (taken c i s.server)));
              known = λ h m.
                  let r = of-inbox c j (hears-apart c sound j) h m in
                  record {
                    place = r.0;
                    seated = record { place = r.1; server = not-vacant c r.0 (seated r.0 r.1 r.2) };
                    identity = identity-at c r.0 ∙ sym (own (place c r.0) h r.3);
                  };
            };
        order = falls-all c sound (place c j) (senders c j) (descends c j (hears-apart c sound j) 16 no_place);
      }

  -- heartbeats that come to a place with one identity are of one sender
  pub one-sender : (hs : List Heartbeat) → Comes (group_of c) j hs → (h k : Heartbeat) → Memᴰ h hs → Memᴰ k hs → h.tiebreaker ≡ k.tiebreaker → sender h ≡ sender k
  one-sender hs comes h k m n e =
      let r = comes.known h m in
      let w : (g : Heartbeat) → Memᴰ g hs → g.tiebreaker ≡ h.tiebreaker → sender g ≡ rank_of (place c r.place) =
      (λ g q z.
      let f = comes.each r.place r.seated in
      let there = subst (Memᴰ g) (ap (λ (x : ℕ). from x hs) (z ∙ sym r.identity) ∙ f) (to-from hs q) in
      sent-rank (place c r.place) g (subst (Memᴰ g) (sent-at c r.place (taken c r.place r.seated.server)) (in_choice _ (member_at (group_of c) r.place).sent there))) in
      w h m refl ∙ sym (w k n (sym e))
