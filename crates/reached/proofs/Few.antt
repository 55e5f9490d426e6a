-- In a frame a server hears 15 others at the most, and of each one pass. Assumes nothing.
use mathlib.Core.Bool.{Bool, true, false, not, ◌&&◌}
use mathlib.Core.Path.{◌≡◌, refl, sym, ap, ◌∙◌}
use mathlib.Core.List.{List, [], ◌∷◌, ◌++◌}
use Prim.Native.Nat.{ℕ, zero, suc, ◌+◌, ◌<◌, ◌≤◌}
use native.Mathlib.Omega.{arith}
use borrow.Author.Tests.{eq-eqb, lt-ltb}
use lib.Dec.{eqb}
use lib.ListN.{length, replicate}
use Rattle.lists.specs.Choice.{choose}
use Rattle.lists.specs.Lists.{count_below}
use Rattle.lists.proofs.Cases.{tested, less, chosen, other, and_true, and_left, and_right, fst_true, snd_true, on}
use Rattle.lists.proofs.Counting.{count_lt, count-size}
use Rattle.heartbeat.specs.declared.Heartbeat.{Heartbeat}
use Rattle.heartbeat.proofs.Order.{irreflexive}
use Rattle.server.specs.declared.Server.{Server}
use Rattle.server.specs.Server.{rank_of, plain_of, reveal_of, pass_of, sent_by}
use Rattle.group.specs.declared.State.{State}
use Rattle.group.specs.Hearing.{place, hears_from, no_place, next_sender, senders_after, sent_by_all, senders, inbox}
use Rattle.group.proofs.Next.{Apart, waits, next-first}
use Rattle.group.proofs.Senders.{some_next, none-next, under_trans}

-- ---- senders

module _ (c : State) (j : ℕ) (apart : Apart c j) where
  few-after : (n last : ℕ) → length (senders_after c j n last) ≤ count_below (waits c j last) 16
  unfolding senders_after
  few-after zero last = omega arith
  few-after (suc n) last =
      let next = next_sender c j last in
      let f = next-first c j last apart in
      on (less next 16)
      (λ h.
      let low = snd_true (hears_from c j next) _ (f.some h) in
      let self : waits c j next next ≡ false = and_right (hears_from c j next) (chosen _ (lt-ltb next 16 h) ∙ irreflexive (rank_of (place c next))) in
      let s =
      count_lt (waits c j next) (waits c j last) 16
      (λ i l w.
      and_true (fst_true (hears_from c j i) _ w)
      (under_trans c j apart last next i low (sym (chosen _ (lt-ltb next 16 h)) ∙ snd_true (hears_from c j i) _ w)))
      next h self (f.some h) in
      let r = few-after n next in
      let e = ap length (some_next c j apart n last h) in
      omega (arith, s, r, e))
      (λ h. let e = ap length (none-next c j apart n last h) in omega (arith, e))

  -- a server does not hear itself
  not_itself : waits c j no_place j ≡ false
  unfolding hears_from
  not_itself = and_left _ (and_left _ (ap not (eq-eqb j j refl)))

  pub few-senders : j < 16 → length (senders c j) ≤ 15
  few-senders h =
      let s = count_lt (waits c j no_place) (λ _. true) 16 (λ _ _ _. refl) j h not_itself refl in
      let z = count-size (λ _. true) 16 in
      let r = few-after 16 no_place in
      omega (arith, s, z, r)

-- ---- passes

-- the heartbeat passes to the identity i
abbrev pub marks : ℕ → Heartbeat → Bool
marks i h = not (eqb h.bs 0) && eqb h.bs i

-- how many do
abbrev pub marked : ℕ → List Heartbeat → ℕ
marked i [] = 0
marked i (h ∷ hs) = choose (marks i h) 1 0 + marked i hs

pub marked_append : (i : ℕ) (a b : List Heartbeat) → marked i (a ++ b) ≡ marked i a + marked i b
marked_append i [] b = let e : marked i b ≡ 0 + marked i b = omega arith in e
marked_append i (h ∷ a) b = let e = marked_append i a b in omega (arith, e)

unmarked-one : (i : ℕ) (h : Heartbeat) → h.bs ≡ 0 → ◌≡◌ {A = ℕ} (choose (marks i h) 1 0) 0
unmarked-one i h e = other 1 (and_left (eqb h.bs i) (ap not (eq-eqb h.bs 0 e)))

at_most_one : (i : ℕ) (h : Heartbeat) → choose (marks i h) 1 0 ≤ 1
at_most_one i h =
    on (tested (marks i h))
    (λ e. let q : ◌≡◌ {A = ℕ} (choose (marks i h) 1 0) 1 = chosen 0 e in omega (arith, q))
    (λ e. let q : ◌≡◌ {A = ℕ} (choose (marks i h) 1 0) 0 = other 1 e in omega (arith, q))

unmarked-many : (i n : ℕ) (h : Heartbeat) → h.bs ≡ 0 → marked i (replicate n h) ≡ 0
unmarked-many i zero h e = refl
unmarked-many i (suc n) h e = let a = unmarked-one i h e in let b = unmarked-many i n h e in omega (arith, a, b)

-- a server passes once in a frame
marked-sent : (i : ℕ) (s : Server) → marked i (sent_by s) ≤ 1
unfolding sent_by
marked-sent i s =
    let r = choose s.reveal (reveal_of s ∷ []) [] in
    let p = choose (eqb s.pass 0) [] (pass_of s ∷ []) in
    let a = marked_append i (replicate s.beats (plain_of s)) (r ++ p) in
    let b = marked_append i r p in
    let d = unmarked-many i s.beats (plain_of s) refl in
    let no_reveal : marked i r ≡ 0 =
    on (tested s.reveal)
    (λ e. ap (marked i) (chosen [] e) ∙ (let q = unmarked-one i (reveal_of s) refl in omega (arith, q)))
    (λ e. ap (marked i) (other (reveal_of s ∷ []) e)) in
    let one : marked i p ≤ 1 =
    on (tested (eqb s.pass 0))
    (λ e. let q = ap (marked i) (chosen {a = []} (pass_of s ∷ []) e) in omega (arith, q))
    (λ e.
    let q = ap (marked i) (other {b = pass_of s ∷ []} [] e) in
    let m = at_most_one i (pass_of s) in
    omega (arith, q, m)) in
    omega (arith, a, b, d, no_reveal, one)

marked_all : (i : ℕ) (c : State) (is : List ℕ) → marked i (sent_by_all c is) ≤ length is
unfolding sent_by_all
marked_all i c [] = omega arith
marked_all i c (k ∷ is) =
    let a = marked_append i (sent_by (place c k)) (sent_by_all c is) in
    let b = marked-sent i (place c k) in
    let d = marked_all i c is in
    omega (arith, a, b, d)

-- so of 15 passes at the most
pub few-marked : (i : ℕ) (c : State) (j : ℕ) → Apart c j → j < 16 → marked i (inbox c j) ≤ 15
unfolding inbox
few-marked i c j apart h = let a = marked_all i c (senders c j) in let b = few-senders c j apart h in omega (arith, a, b)
