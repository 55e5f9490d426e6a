-- Plain heartbeats are sorted as those that they stand for. Assumes nothing.
use mathlib.Core.Bool.{true, false}
use mathlib.Core.Path.{◌≡◌, refl, sym, ap, subst, ◌∙◌}
use mathlib.Core.List.{List, [], ◌∷◌, map}
use lib.Dec.{eqb}
use Rattle.lists.proofs.Cases.{tested, on, bit-back}
use Rattle.heartbeat.specs.declared.Heartbeat.{Heartbeat}
use Rattle.heartbeat.specs.Rank.{higher}
use Rattle.heartbeat.specs.Heartbeat.{sender}
use Rattle.plain.specs.declared.PlainHeartbeat.{PlainHeartbeat}
use Rattle.plain.specs.Plain.{heartbeat_of}
use Rattle.playout.specs.Writing.{plain_higher}
use Rattle.wiring.specs.Heard.{keep, sorted}
use Rattle.wiring.proofs.Keeping.{keep-before, keep-behind}
use Rattle.wiring.specs.Heard.{Group, Comes, Heard}
use Rattle.wiring.specs.Same.{OneSheet, SortedIsHeard}
use Rattle.plainwiring.specs.Group.{group_from, move_from}
use Rattle.plainwiring.specs.Rules.{keep_plain, sorted_plain, PlainSortIsHeard}
use Rattle.plainwiring.proofs.Group.{plain_groups_play}

plain-before : (h k : PlainHeartbeat) (l : List PlainHeartbeat) → eqb (plain_higher h k) 1 ≡ true → keep_plain h (k ∷ l) ≡ h ∷ k ∷ l
unfolding keep_plain
plain-before h k l e = rw (e, keep_plain)

plain-behind : (h k : PlainHeartbeat) (l : List PlainHeartbeat) → eqb (plain_higher h k) 1 ≡ false → keep_plain h (k ∷ l) ≡ k ∷ keep_plain h l
unfolding keep_plain
plain-behind h k l e = rw (e, keep_plain)

keeps : (h : PlainHeartbeat) (l : List PlainHeartbeat) → map heartbeat_of (keep_plain h l) ≡ keep (heartbeat_of h) (map heartbeat_of l)
unfolding keep_plain keep
keeps h [] = refl
keeps h (k ∷ l) =
    let t = higher (sender (heartbeat_of h)) (sender (heartbeat_of k)) in
    let is : eqb (plain_higher h k) 1 ≡ t = bit-back t in
    on (tested t)
    (λ e. ap (map heartbeat_of) (plain-before h k l (is ∙ e)) ∙ sym (keep-before (heartbeat_of h) (heartbeat_of k) (map heartbeat_of l) e))
    (λ e.
    ap (map heartbeat_of) (plain-behind h k l (is ∙ e))
    ∙ ap (λ (r : List Heartbeat). heartbeat_of k ∷ r) (keeps h l)
    ∙ sym (keep-behind (heartbeat_of h) (heartbeat_of k) (map heartbeat_of l) e))

sorts : (l hs : List PlainHeartbeat) → map heartbeat_of (sorted_plain l hs) ≡ sorted (map heartbeat_of l) (map heartbeat_of hs)
unfolding sorted_plain sorted
sorts l [] = refl
sorts l (h ∷ hs) = sorts (keep_plain h l) hs ∙ ap (λ (r : List Heartbeat). sorted r (map heartbeat_of hs)) (keeps h l)

-- from what playout says of fronts
pub plain_sort_is_heard : OneSheet → SortedIsHeard → PlainSortIsHeard
plain_sort_is_heard sheets sorts-well t n ms ns d w ok plays j hs comes =
    let r = plain_groups_play sheets t n ms ns d w ok plays in
    subst (Heard (group_from d) j) (sym (sorts [] hs))
    (subst (λ (g : Group). Heard g j (sorted [] (map heartbeat_of hs))) (sym r.group)
    (sorts-well t n (map move_from ms) ok r.wired j (map heartbeat_of hs) (subst (λ (g : Group). Comes g j (map heartbeat_of hs)) r.group comes)))
