-- The order of hearing, place by place in the list of senders. Assumes nothing.
use mathlib.Core.Bool.{true, not}
use mathlib.Core.Path.{◌≡◌, refl, ap, sym, ◌∙◌}
use mathlib.Core.List.{List, [], ◌∷◌, Memᴰ}
use Prim.Native.Nat.{ℕ, zero, suc, ◌<◌}
use native.Mathlib.Omega.{arith}
use lib.Dec.{eqb}
use lib.ListN.{length, get_or}
use Rattle.lists.proofs.Cases.{fst_true, snd_true, clash}
use Rattle.heartbeat.proofs.Order.{irreflexive}
use Rattle.server.specs.declared.Server.{Server}
use Rattle.server.specs.Server.{rank_of, sent_any}
use Rattle.group.specs.declared.State.{State}
use Rattle.group.specs.Table.{most}
use Rattle.group.specs.Hearing.{place, hears_from, over, no_place, senders}
use Rattle.group.specs.Laws.{SendersDiffer, sender_at, AllHearInOrder}
use Rattle.group.proofs.Next.{Apart}
use Rattle.group.proofs.Senders.{all-heard}
use Rattle.group.proofs.Inbox.{Descends, next, descends, is-heard}

-- what stands at a place of a list is in it
at_place : (l : List ℕ) (n d : ℕ) → n < length l → Memᴰ (get_or l n d) l
at_place [] n d h = absurd (omega arith)
at_place (x ∷ l) zero d h = Memᴰ.head refl
at_place (x ∷ l) (suc n) d h = Memᴰ.tail (at_place l n d (omega arith))

falling-at :
    (c : State) (s : Server) (l : List ℕ) → Descends c s l → (m n : ℕ) → m < n → n < length l →
    over c (get_or l m no_place) (get_or l n no_place) ≡ true
falling-at c s [] d m n h g = absurd (omega arith)
falling-at c s (i ∷ l) (next f d) zero zero h g = absurd (omega arith)
falling-at c s (i ∷ l) (next f d) zero (suc n) h g = f (get_or l n no_place) (at_place l n no_place (omega arith))
falling-at c s (i ∷ l) (next f d) (suc m) zero h g = absurd (omega arith)
falling-at c s (i ∷ l) (next f d) (suc m) (suc n) h g = falling-at c s l d m n (omega arith) (omega arith)

heard-sent : (c : State) (j i : ℕ) → hears_from c j i ≡ true → sent_any (place c i) ≡ true
unfolding hears_from
heard-sent c j i e = fst_true (sent_any (place c i)) _ (snd_true (not (eqb i j)) _ e)

pub apart-heard : (c : State) → SendersDiffer c → (j : ℕ) → Apart c j
apart-heard c h j = record { differ = λ a b p q la lb d e. h a b la lb d (heard-sent c j a p) (heard-sent c j b q) e }

pub all_hear_in_order : AllHearInOrder
all_hear_in_order c h j =
    let apart = apart-heard c h j in
    let falls = falling-at c (place c j) (senders c j) (descends c j apart most no_place) in
    record {
      heard = is-heard c j apart;
      all = all-heard c j apart;
      once = λ m n l g e. clash (ap (λ (x : ℕ). over c x (sender_at c j n)) (sym e) ∙ falls m n l g) (irreflexive (rank_of (place c (sender_at c j n))));
      falling = falls;
    }
