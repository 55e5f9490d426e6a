-- What comes in any order, sorted as it comes, is heard in the right one. Assumes nothing.
use mathlib.Core.Bool.{true, false, not}
use mathlib.Core.Path.{◌≡◌, refl, sym, ap, subst, ◌∙◌}
use mathlib.Core.List.Memᴰ
use mathlib.Core.List.{List, [], ◌∷◌, ◌++◌, append-nil, append_assoc, Memᴰ}
use Prim.Native.Nat.{ℕ}
use borrow.Author.Tests.{not-true}
use Rattle.lists.specs.Lists.{every}
use Rattle.lists.proofs.Cases.{tested, equal, and_true, fst_true, snd_true, on, clash}
use Rattle.lists.proofs.Clear.{every_mem, every_of}
use Rattle.heartbeat.specs.declared.Heartbeat.{Heartbeat}
use Rattle.heartbeat.specs.declared.Rank.{Rank}
use Rattle.heartbeat.specs.Rank.{higher}
use Rattle.heartbeat.specs.Heartbeat.{sender}
use Rattle.heartbeat.proofs.Order.{irreflexive, asymmetric, transitive, total}
use Rattle.group.specs.declared.Table.{Table}
use Rattle.group.specs.declared.State.{State}
use Rattle.group.specs.Table.{fresh_refusal, fresh}
use Rattle.group.specs.Hearing.{inbox}
use Rattle.group.specs.Calls.{channel_after}
use Rattle.reached.proofs.Sound.{Sound}
use Rattle.reached.proofs.Made.{sound-fresh}
use Rattle.reached.proofs.Reached.{sound-after}
use Rattle.wiring.specs.Members.{identity_of}
use Rattle.wiring.specs.Heard.{Group, member_at, from, Comes, falling, Heard, keep, sorted}
use Rattle.wiring.specs.Group.{new_group, Move, group_after, Wired}
use Rattle.wiring.specs.Same.{group_of, calls_of, CanHear, ProtocolCanBeMet, SortedIsHeard}
use Rattle.wiring.proofs.Sorting.{from-own, from-skip, from_nil, from-append, from-none}
use Rattle.wiring.proofs.Inboxes.{inbox-heard, one-sender}
use Rattle.wiring.proofs.Moves.{new-agrees}

-- of one identity there is one sender
abbrev One : List Heartbeat → Type 0
One l = (h k : Heartbeat) → Memᴰ h l → Memᴰ k l → h.tiebreaker ≡ k.tiebreaker → sender h ≡ sender k

pub keep-before : (h k : Heartbeat) (l : List Heartbeat) → higher (sender h) (sender k) ≡ true → keep h (k ∷ l) ≡ h ∷ k ∷ l
unfolding keep
keep-before h k l e = rw (e, keep)

pub keep-behind : (h k : Heartbeat) (l : List Heartbeat) → higher (sender h) (sender k) ≡ false → keep h (k ∷ l) ≡ k ∷ keep h l
unfolding keep
keep-behind h k l e = rw (e, keep)

keep_nil : (h : Heartbeat) → keep h [] ≡ h ∷ []
unfolding keep
keep_nil h = refl

-- what is kept is h, and what was kept before
of-keep : (h : Heartbeat) (l : List Heartbeat) {g : Heartbeat} → Memᴰ g (keep h l) → Memᴰ g (h ∷ l)
of-keep h [] {g} m = subst (Memᴰ g) (keep_nil h) m
of-keep h (k ∷ l) {g} m =
    on (tested (higher (sender h) (sender k)))
    (λ e. subst (Memᴰ g) (keep-before h k l e) m)
    (λ e.
    on (Memᴰ.cases_cons (subst (Memᴰ g) (keep-behind h k l e) m))
    (λ q. Memᴰ.tail (Memᴰ.head q))
    (λ r. on (Memᴰ.cases_cons (of-keep h l r)) (λ q. Memᴰ.head q) (λ n. Memᴰ.tail (Memᴰ.tail n))))

-- after one that is lower than h, all are
below : (h k : Heartbeat) (l : List Heartbeat) → falling (k ∷ l) ≡ true → One (h ∷ k ∷ l) → higher (sender h) (sender k) ≡ true → (g : Heartbeat) → Memᴰ g (k ∷ l) → higher (sender h) (sender g) ≡ true
unfolding falling
below h k l f one e g m =
    on (Memᴰ.cases_cons m)
    (λ q. ap (λ (x : Heartbeat). higher (sender h) (sender x)) q ∙ e)
    (λ n.
    on (equal g.tiebreaker k.tiebreaker)
    (λ q. ap (higher (sender h)) (one g k (Memᴰ.tail (Memᴰ.tail n)) (Memᴰ.tail (Memᴰ.head refl)) q) ∙ e)
    (λ q.
    on (total (sender g) (sender k) q)
    (λ p. absurd (clash p (not-true _ (every_mem (λ x. not (higher (sender x) (sender k))) l (fst_true _ (falling l) f) n))))
    (λ p. transitive (sender h) (sender k) (sender g) e p)))

keep-falls : (h : Heartbeat) (l : List Heartbeat) → falling l ≡ true → One (h ∷ l) → falling (keep h l) ≡ true
unfolding falling keep
keep-falls h [] f one = refl
keep-falls h (k ∷ l) f one =
    on (tested (higher (sender h) (sender k)))
    (λ e.
    ap falling (keep-before h k l e)
    ∙ and_true (every_of (λ x. not (higher (sender x) (sender h))) (k ∷ l) (λ g m. ap not (asymmetric (sender h) (sender g) (below h k l f one e g m)))) f)
    (λ e.
    ap falling (keep-behind h k l e)
    ∙ and_true
    (every_of (λ x. not (higher (sender x) (sender k))) (keep h l)
    (λ g m.
    on (Memᴰ.cases_cons (of-keep h l m))
    (λ q. ap (λ (x : Heartbeat). not (higher (sender x) (sender k))) q ∙ ap not e)
    (λ n. every_mem (λ x. not (higher (sender x) (sender k))) l (fst_true _ (falling l) f) n)))
    (keep-falls h l (snd_true (every (λ x. not (higher (sender x) (sender k))) l) (falling l) f)
    (λ x y m n. one x y (on (Memᴰ.cases_cons m) (λ q. Memᴰ.head q) (λ r. Memᴰ.tail (Memᴰ.tail r))) (on (Memᴰ.cases_cons n) (λ q. Memᴰ.head q) (λ r. Memᴰ.tail (Memᴰ.tail r))))))

-- of each sender, h stands behind what was kept before
keep-from : (x : ℕ) (h : Heartbeat) (l : List Heartbeat) → falling l ≡ true → One (h ∷ l) → from x (keep h l) ≡ from x l ++ from x (h ∷ [])
unfolding falling
keep-from x h [] f one = ap (from x) (keep_nil h) ∙ ap (λ (y : List Heartbeat). y ++ from x (h ∷ [])) (sym (from_nil x))
keep-from x h (k ∷ l) f one =
    on (tested (higher (sender h) (sender k)))
    (λ e.
    ap (from x) (keep-before h k l e)
    ∙ on (equal h.tiebreaker x)
    (λ q.
    let no : from x (k ∷ l) ≡ [] =
    from-none x (k ∷ l)
    (λ g m z.
    clash (below h k l f one e g m)
    (ap (λ (r : Rank). higher r (sender g)) (one h g (Memᴰ.head refl) (Memᴰ.tail m) (q ∙ sym z)) ∙ irreflexive (sender g))) in
    from-own x h (k ∷ l) q
    ∙ ap (λ (y : List Heartbeat). h ∷ y) (no ∙ sym (from_nil x))
    ∙ sym (from-own x h [] q)
    ∙ ap (λ (y : List Heartbeat). y ++ from x (h ∷ [])) (sym no))
    (λ q.
    from-skip x h (k ∷ l) q
    ∙ sym (append-nil (from x (k ∷ l)))
    ∙ ap (λ (y : List Heartbeat). from x (k ∷ l) ++ y) (sym (from-skip x h [] q ∙ from_nil x))))
    (λ e.
    ap (from x) (keep-behind h k l e)
    ∙ from-append x (k ∷ []) (keep h l)
    ∙ ap (λ (y : List Heartbeat). from x (k ∷ []) ++ y)
    (keep-from x h l (snd_true (every (λ y. not (higher (sender y) (sender k))) l) (falling l) f)
    (λ a b m n. one a b (on (Memᴰ.cases_cons m) (λ q. Memᴰ.head q) (λ r. Memᴰ.tail (Memᴰ.tail r))) (on (Memᴰ.cases_cons n) (λ q. Memᴰ.head q) (λ r. Memᴰ.tail (Memᴰ.tail r)))))
    ∙ sym (append_assoc (from x (k ∷ [])) (from x l) (from x (h ∷ [])))
    ∙ ap (λ (y : List Heartbeat). y ++ from x (h ∷ [])) (sym (from-append x (k ∷ []) l)))

-- what is sorted: it falls, has of each sender what was kept and then what came, and nothing else
pub record Sorted (l hs s : List Heartbeat) : Type 0 where
  pub falls : falling s ≡ true
  pub each : (x : ℕ) → from x s ≡ from x l ++ from x hs
  pub of : (g : Heartbeat) → Memᴰ g s → Memᴰ g (l ++ hs)

sorts : (l hs : List Heartbeat) → falling l ≡ true → One (l ++ hs) → Sorted l hs (sorted l hs)
unfolding sorted
sorts l [] f one =
    record {
      falls = f;
      each = λ x. sym (append-nil (from x l)) ∙ ap (λ (y : List Heartbeat). from x l ++ y) (sym (from_nil x));
      of = λ g m. Memᴰ.append_left [] m;
    }
sorts l (h ∷ hs) f one =
    let in-first : (g : Heartbeat) → Memᴰ g (h ∷ l) → Memᴰ g (l ++ (h ∷ hs)) =
    (λ g m.
    on (Memᴰ.cases_cons m)
    (λ q. Memᴰ.append_right l (Memᴰ.head q))
    (λ n. Memᴰ.append_left (h ∷ hs) n)) in
    let in_all : (g : Heartbeat) → Memᴰ g (keep h l ++ hs) → Memᴰ g (l ++ (h ∷ hs)) =
    (λ g m.
    on (Memᴰ.append_cases (keep h l) m)
    (λ n. in-first g (of-keep h l n))
    (λ n. Memᴰ.append_right l (Memᴰ.tail n))) in
    let first : One (h ∷ l) = (λ a b m n. one a b (in-first a m) (in-first b n)) in
    let r = sorts (keep h l) hs (keep-falls h l f first) (λ a b m n. one a b (in_all a m) (in_all b n)) in
    record {
      falls = r.falls;
      each = λ x.
          r.each x
          ∙ ap (λ (y : List Heartbeat). y ++ from x hs) (keep-from x h l f first)
          ∙ append_assoc (from x l) (from x (h ∷ [])) (from x hs)
          ∙ ap (λ (y : List Heartbeat). from x l ++ y) (sym (from-append x (h ∷ []) hs));
      of = λ g m. in_all g (r.of g m);
    }

-- ---- of the group of a channel, and so of every group that wired moves reach

pub sorted-heard : (c : State) → Sound c → (j : ℕ) (hs : List Heartbeat) → Comes (group_of c) j hs → Heard (group_of c) j (sorted [] hs)
unfolding falling
sorted-heard c sound j hs comes =
    let r = sorts [] hs refl (one-sender c sound j hs comes) in
    record {
      comes =
          record {
            each = λ i s.
                let x = identity_of (member_at (group_of c) i) in r.each x ∙ ap (λ (y : List Heartbeat). y ++ from x hs) (from_nil x) ∙ comes.each i s;
            known = λ h m. comes.known h (r.of h m);
          };
      order = r.falls;
    }

module _ (t : Table) (n : ℕ) (ks : List Move) (ok : fresh_refusal t n ≡ 0) (w : Wired (new_group t n) ks) where
  abbrev reached : State
  reached = channel_after (fresh t n) (calls_of (fresh t n) ks)

  sound : Sound reached
  sound = sound-after (fresh t n) (calls_of (fresh t n) ks) (sound-fresh t n ok)

  pub is_sorted : (j : ℕ) (hs : List Heartbeat) → Comes (group_after (new_group t n) ks) j hs → Heard (group_after (new_group t n) ks) j (sorted [] hs)
  is_sorted j hs comes =
      let e = (new-agrees t n ks ok w).group in
      subst (λ (g : Group). Heard g j (sorted [] hs)) (sym e) (sorted-heard reached sound j hs (subst (λ (g : Group). Comes g j hs) e comes))

  pub can_hear : (j : ℕ) → CanHear (group_after (new_group t n) ks) j
  can_hear j =
      let e = (new-agrees t n ks ok w).group in
      subst (λ (g : Group). CanHear g j) (sym e) (record { heartbeats = inbox reached j; heard = inbox-heard reached sound j })

pub sorted_is_heard : SortedIsHeard
sorted_is_heard = is_sorted

pub protocol_can_be_met : ProtocolCanBeMet
protocol_can_be_met = can_hear
