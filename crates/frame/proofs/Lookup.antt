-- The look-up of the next sender. Assumes nothing.
use mathlib.Core.Bool.{Bool, true, false, not, ◌&&◌}
use mathlib.Core.Path.{◌≡◌, refl, sym, ap, ap₂, subst, ◌∙◌}
use mathlib.Core.List.Memᴰ
use mathlib.Core.List.{List, [], ◌∷◌, ◌++◌, append-nil, append_assoc, Memᴰ}
use mathlib.Core.Logic.{◌⊎◌, inl, inr, ⊎_elim}
use Prim.Native.Nat.{ℕ, zero, suc, ◌+◌, ◌-◌, ◌*◌, ◌/◌, ◌%◌, ◌≤◌, ◌<◌}
use native.Mathlib.Omega.{arith}
use native.Mathlib.Numerals.{add-one}
use borrow.Author.Tests.{lt-ltb, le-ltb, eq-eqb, ne_eqb, eqb-true, eqb-false}
use lib.Dec.{eqb, ltb}
use lib.ListN.{length, take, drop, set, get_or, length-set}
use lib.Seq.{drop-cons, take-suc, take-set-le, take-suc-set, length-take-le, get_or-take, get_or-set_other, get_or-set_same}
use Rattle.lists.specs.Choice.{choose}
use Rattle.lists.proofs.Cases.{tested, less, equal, on, chosen, other, and_left, and_right, bit-small, bit-back}
use Rattle.heartbeat.specs.declared.Heartbeat.{Heartbeat}
use Rattle.heartbeat.specs.declared.Rank.{Rank}
use Rattle.heartbeat.specs.Rank.{higher}
use Rattle.roles.specs.declared.Role.TheVariants.{Down}
use Rattle.server.specs.declared.Server.{Server}
use Rattle.server.specs.Server.{absent, rank_of, sent_by, sent_any}
use Rattle.group.specs.declared.State.{State}
use Rattle.frame.specs.Steps.{SenderList, sent_below, sender_of, Listed, Numbers, Lists, best_by, heard_of, best_in, next_by, senders_by, sent_of, inbox_by}
use Rattle.group.specs.Table.{most}
use Rattle.group.specs.Hearing.{place, whole, no_place, hears_from, over, is_place, comes, next_among, next_sender, senders_after, sent_by_all, inbox}
use Rattle.places.specs.Words.{rank_number, sending_number}
use Rattle.places.specs.declared.Best.{Best}
use Rattle.places.specs.Order.{over_by, comes_by, heard_by, rank_end, rank_under, better_of}
use Rattle.places.proofs.Order.{IsBest, best_turn}
use Rattle.places.proofs.Words.{parts}

-- ---- the numbers of the servers

-- what was sent is 0 just where nothing was sent
pub sent-number : (s : Server) → ◌≡◌ {A = ℕ} (choose (eqb (sending_number s) 0) 0 1) (choose (sent_any s) 1 0)
unfolding sent_any choose
sent-number s = by (eqb s.beats 0) s.reveal (eqb s.pass 0) refl refl refl
  where
    zeroed : (s.beats ≡ 0) → ◌≡◌ {A = ℕ} (choose s.reveal 1 0) 0 → s.pass ≡ 0 → eqb (sending_number s) 0 ≡ true
    zeroed a b c = eq-eqb (sending_number s) 0 (omega arith)

    by : (a b c : Bool) → eqb s.beats 0 ≡ a → s.reveal ≡ b → eqb s.pass 0 ≡ c →
        ◌≡◌ {A = ℕ} (choose (eqb (sending_number s) 0) 0 1) (choose (choose a (choose b true (not c)) true) 1 0)
    by true true c p q r =
        let one : ◌≡◌ {A = ℕ} (choose s.reveal 1 0) 1 = chosen 0 q in
        other _ (ne_eqb (sending_number s) 0 (λ z. omega arith))
    by true false true p q r =
        let none : ◌≡◌ {A = ℕ} (choose s.reveal 1 0) 0 = other 1 q in
        chosen _ (zeroed (eqb-true _ _ p) none (eqb-true _ _ r))
    by true false false p q r =
        let some = eqb-false s.pass 0 r in
        other _ (ne_eqb (sending_number s) 0 (λ z. some (omega arith)))
    by false b c p q r =
        let some = eqb-false s.beats 0 p in
        other _ (ne_eqb (sending_number s) 0 (λ z. some (omega arith)))

-- a server made of the numbers sent the same
pub sender-same : (s : Server) → s.identity < 65536 → s.pass < 65536 → sent_by (sender_of (rank_number s) (sending_number s)) ≡ sent_by s
unfolding sent_by
sender-same s h g =
    let bit = bit-small s.reveal in
    let i : rank_number s % 65536 ≡ s.identity = omega arith in
    let p : rank_number s / 65536 ≡ s.priority = omega arith in
    let n = parts s.beats (choose s.reveal 1 0) s.pass bit g in
    let b : sending_number s / 131072 ≡ s.beats = n.0.0 in
    let q : sending_number s % 65536 ≡ s.pass = n.0.1 in
    let m : sending_number s / 65536 % 2 ≡ choose s.reveal 1 0 = n.1 in
    let v : eqb (sending_number s / 65536 % 2) 1 ≡ s.reveal = ap (λ (n : ℕ). eqb n 1) m ∙ bit-back s.reveal in
    sends i p b v q
  where
    -- what is sent hangs on five fields
    sends :
        {i p b q : ℕ} {v : Bool} → i ≡ s.identity → p ≡ s.priority → b ≡ s.beats → v ≡ s.reveal → q ≡ s.pass →
        sent_by (record { identity = i; priority = p; role = Down; silence = 0; beat = 0; prospect = 0; beats = b; reveal = v; pass = q }) ≡ sent_by s
    sends {i} {p} {b} {q} {v} e₁ e₂ e₃ e₄ e₅ = rw (e₁, e₂, e₃, e₄, e₅)

-- a greater number is a higher rank
pub higher-number : (a b : Rank) → a.identity < 65536 → b.identity < 65536 → ltb (b.priority * 65536 + b.identity) (a.priority * 65536 + a.identity) ≡ higher a b
unfolding higher
higher-number a b h g =
    ⊎_elim
    (λ e.
    sym (chosen _ (eq-eqb a.priority b.priority e)
    ∙ ⊎_elim
    (λ l. lt-ltb _ _ l ∙ sym (lt-ltb (b.priority * 65536 + b.identity) (a.priority * 65536 + a.identity) (omega arith)))
    (λ l. le-ltb _ _ l ∙ sym (le-ltb (b.priority * 65536 + b.identity) (a.priority * 65536 + a.identity) (omega arith)))
    (less b.identity a.identity)))
    (λ e.
    sym (other _ (ne_eqb a.priority b.priority e)
    ∙ ⊎_elim
    (λ l. lt-ltb _ _ l ∙ sym (lt-ltb (b.priority * 65536 + b.identity) (a.priority * 65536 + a.identity) (omega arith)))
    (λ l.
    le-ltb _ _ l
    ∙ sym (le-ltb (b.priority * 65536 + b.identity) (a.priority * 65536 + a.identity) (let d : a.priority < b.priority = apart e l in omega arith)))
    (less b.priority a.priority)))
    (equal a.priority b.priority)
  where
    apart : (a.priority ≡ b.priority → ⊥) → a.priority ≤ b.priority → a.priority < b.priority
    apart e l = ⊎_elim (λ m. m) (λ m. absurd (e (omega arith))) (less a.priority b.priority)

-- ---- the list of those who sent

-- ---- the look-up over that list

-- the first of the places is that may be heard after the place last, or the best so far
abbrev pub best_of : State → ℕ → ℕ → ℕ → List ℕ → ℕ
best_of c j last best [] = best
best_of c j last best (i ∷ is) = best_of c j last (choose (comes c j last best i) i best) is

module _ (c : State) (j last : ℕ) where
  best_append : (best : ℕ) (xs : List ℕ) (i : ℕ) → best_of c j last best (xs ++ (i ∷ [])) ≡ choose (comes c j last (best_of c j last best xs) i) i (best_of c j last best xs)
  best_append best [] i = refl
  best_append best (x ∷ xs) i = best_append (choose (comes c j last best x) x best) xs i

  -- who did not send does not come
  pub silent : (best i : ℕ) → sent_any (place c i) ≡ false → comes c j last best i ≡ false
  unfolding comes hears_from
  silent best i e = and_left _ (and_right (not (eqb i j)) (and_left (whole c i j) e))

  -- one place more
  place-more : (n : ℕ) → next_among c j last n ≡ best_of c j last no_place (sent_below c.servers n) → (sent_any (place c n) ≡ true) ⊎ (sent_any (place c n) ≡ false) →
      choose (comes c j last (next_among c j last n) n) n (next_among c j last n) ≡ best_of c j last no_place (sent_below c.servers n ++ choose (sent_any (place c n)) (n ∷ []) [])
  place-more n e (inl t) =
      ap (λ (b : ℕ). choose (comes c j last b n) n b) e
      ∙ sym (best_append no_place (sent_below c.servers n) n)
      ∙ ap (λ (x : List ℕ). best_of c j last no_place (sent_below c.servers n ++ x)) (sym (chosen [] t))
  place-more n e (inr t) =
      other _ (silent (next_among c j last n) n t) ∙ e
      ∙ ap (best_of c j last no_place) (sym (append-nil (sent_below c.servers n)))
      ∙ ap (λ (x : List ℕ). best_of c j last no_place (sent_below c.servers n ++ x)) (sym (other (n ∷ []) t))

  pub among-sent : (n : ℕ) → next_among c j last n ≡ best_of c j last no_place (sent_below c.servers n)
  unfolding next_among sent_below
  among-sent zero = refl
  among-sent (suc n) = place-more n (among-sent n) (tested (sent_any (place c n)))

-- ---- the look-up over the numbers

-- to look at the places from k on ends where the look-up ends
pub record Looking (ranks : List ℕ) (last : ℕ) (l : List ℕ) (n k best : ℕ) : Type 0 where
  pub within : k ≤ n
  pub ends : best_in ranks last best (drop k (take n l)) ≡ best_in ranks last 16 (take n l)

pub long : {l : List ℕ} {n : ℕ} → Listed l n → length (take n l) ≡ n
long {l} {n} v = length-take-le n l (omega (arith, v.few, v.room))

module _ {ranks : List ℕ} {last : ℕ} {l : List ℕ} {n : ℕ} where
  pub look_begin : Looking ranks last l n 0 16
  look_begin = record { within = omega arith; ends = refl }

  pub look_turn :
      {k best next : ℕ} → Listed l n → Looking ranks last l n k best → k < n →
      next ≡ choose (comes_by ranks true last best (get_or l k 0)) (get_or l k 0) best → Looking ranks last l n (k + 1) next
  look_turn {k} {best} {next} v u h e =
      let at : get_or (take n l) k 0 ≡ get_or l k 0 = get_or-take n l k 0 h in
      let opened = drop-cons (take n l) k 0 (omega (arith, long v)) in
      record {
        within = omega arith;
        ends =
            rw add-one
            (ap (λ (b : ℕ). best_in ranks last b (drop (suc k) (take n l))) (e ∙ ap (λ (i : ℕ). choose (comes_by ranks true last best i) i best) (sym at))
            ∙ ap (best_in ranks last best) (sym opened)
            ∙ u.ends);
      }

  -- one place more is looked at
  pub best_look :
      {k rank i : ℕ} {best next : Best} → Listed l n → Looking ranks last l n k best.place → IsBest ranks best → k < n → i ≡ get_or l k 0 → rank ≡ get_or ranks i 0 →
      (next ≡ better_of (rank_under ranks last) best rank i) × (rank < rank_end) → Looking ranks last l n (k + 1) next.place × IsBest ranks next
  best_look {k} {rank} {i} {best} v u q h j r e =
      let t = best_turn ranks last i (subst (λ (x : ℕ). x < rank_end) r e.1) best q (subst (λ (x : ℕ). x < 16) (sym j) (v.places k h)) in
      let is = e.0 ∙ ap (λ (x : ℕ). better_of (rank_under ranks last) best x i) r in (
        look_turn v u h (ap (λ (x : Best). x.place) is ∙ t.0 ∙ ap (λ (x : ℕ). choose (comes_by ranks true last best.place x) x best.place) j),
        subst (IsBest ranks) (sym is) t.1,
      )

-- the best of those that are heard is the best of all
pub best_heard : (ranks : List ℕ) (w : List Bool) (j last best : ℕ) (is : List ℕ) → best_in ranks last best (heard_of w j is) ≡ best_by ranks w j last best is
unfolding heard_of
best_heard ranks w j last best [] = refl
best_heard ranks w j last best (i ∷ is) =
    on (tested (heard_by w j i))
    (λ t.
    ap (λ (x : List ℕ). best_in ranks last best (x ++ heard_of w j is)) (chosen [] t)
    ∙ best_heard ranks w j last (choose (comes_by ranks true last best i) i best) is
    ∙ ap (λ (x : Bool). best_by ranks w j last (choose (comes_by ranks x last best i) i best) is) (sym t))
    (λ t.
    ap (λ (x : List ℕ). best_in ranks last best (x ++ heard_of w j is)) (other (i ∷ []) t)
    ∙ best_heard ranks w j last best is
    ∙ ap (λ (x : ℕ). best_by ranks w j last x is) (sym (other i (and_left _ t))))

-- ---- the list of those that are heard

heard_snoc : (w : List Bool) (j : ℕ) (is : List ℕ) (i : ℕ) → heard_of w j (is ++ (i ∷ [])) ≡ heard_of w j is ++ choose (heard_by w j i) (i ∷ []) []
unfolding heard_of
heard_snoc w j [] i = append-nil _
heard_snoc w j (x ∷ is) i =
    ap (λ (l : List ℕ). choose (heard_by w j x) (x ∷ []) [] ++ l) (heard_snoc w j is i) ∙ sym (append_assoc (choose (heard_by w j x) (x ∷ []) []) (heard_of w j is) _)

-- of the first k places of l, those that place j hears are the first m of near
pub record Nearing (w : List Bool) (j : ℕ) (l near : List ℕ) (m k : ℕ) : Type 0 where
  pub room : length near ≡ 16
  pub within : k ≤ 16
  pub few : m ≤ k
  pub these : take m near ≡ heard_of w j (take k l)
  pub known : (x : ℕ) → x < m → get_or near x 0 < 16

near_more :
    (w : List Bool) (j : ℕ) (l near : List ℕ) (m k b : ℕ) → length near ≡ 16 → m < 16 → k < length l → take m near ≡ heard_of w j (take k l) → b ≡ choose (heard_by w j (get_or l k 0)) 1 0 →
    take (m + b) (set near m (get_or l k 0)) ≡ heard_of w j (take (k + 1) l)
near_more w j l near m k b room g h these e =
    let i = get_or l k 0 in
    let next : heard_of w j (take (suc k) l) ≡ heard_of w j (take k l) ++ choose (heard_by w j i) (i ∷ []) [] = ap (heard_of w j) (take-suc l k 0 h) ∙ heard_snoc w j (take k l) i in
    on (tested (heard_by w j i))
    (λ t.
    let one : b ≡ 1 = e ∙ chosen 0 t in
    rw (one, add-one, add-one)
    (take-suc-set near m i (omega arith) ∙ ap (λ (x : List ℕ). x ++ (i ∷ [])) these ∙ sym (next ∙ ap (λ (x : List ℕ). heard_of w j (take k l) ++ x) (chosen [] t))))
    (λ t.
    let none : b ≡ 0 = e ∙ other 1 t in
    let stays : m + 0 ≡ m = omega arith in
    rw (none, stays, add-one)
    (take-set-le m near m i (omega arith) ∙ these ∙ sym (next ∙ ap (λ (x : List ℕ). heard_of w j (take k l) ++ x) (other (i ∷ []) t) ∙ append-nil _)))

module _ {w : List Bool} {j : ℕ} {l : List ℕ} where
  pub near_begin : {near : List ℕ} → length near ≡ 16 → Nearing w j l near 0 0
  unfolding heard_of
  near_begin e = record { room = e; within = omega arith; few = omega arith; these = refl; known = λ x h. absurd (omega arith) }

  pub near_turn :
      {near : List ℕ} {n m k b : ℕ} → Listed l n → Nearing w j l near m k → k < n → b ≡ choose (heard_by w j (get_or l k 0)) 1 0 →
      Nearing w j l (set near m (get_or l k 0)) (m + b) (k + 1)
  near_turn {near} {n} {m} {k} {b} v u h e =
      let bit = bit-small (heard_by w j (get_or l k 0)) in
      let i = get_or l k 0 in
      record {
        room = length-set near m i ∙ u.room;
        within = omega (arith, v.few);
        few = omega (arith, u.few, e);
        these = near_more w j l near m k b u.room (omega (arith, u.few, v.few)) (omega (arith, v.few, v.room)) u.these e;
        known =
            λ x g.
            ⊎_elim
            (λ z. let q : get_or (set near m i) x 0 ≡ get_or near x 0 = get_or-set_other near m x i 0 (λ y. omega arith) in omega (arith, u.known x z))
            (λ z.
            let y : x ≡ m = omega (arith, e) in
            rw y (let q : get_or (set near m i) m 0 ≡ i = get_or-set_same near m i 0 (omega (arith, u.few, u.room, v.few)) in omega (arith, v.places k h)))
            (less x m);
      }

-- ---- all that is heard, sender by sender

abbrev pub inbox_after : SenderList → List Bool → ℕ → ℕ → ℕ → List Heartbeat
inbox_after r w j n last = sent_of r (senders_by r w j n last)

module _ (r : SenderList) (w : List Bool) (j : ℕ) where
  pub heard-more :
      (k last i : ℕ) {s : Server} → k < 16 → i ≡ next_by r w j last → i < 16 → s ≡ sender_of (get_or r.ranks i 0) (get_or r.sendings i 0) →
      inbox_after r w j (16 - k) last ≡ sent_by s ++ inbox_after r w j (16 - (k + 1)) i
  unfolding senders_by sent_of
  heard-more k last i {s} h e l q =
      let n : 16 - k ≡ suc (16 - (k + 1)) = omega arith in
      ap (λ (m : ℕ). inbox_after r w j m last) n
      ∙ subst (λ (y : ℕ). sent_of r (elim (ltb y 16) [ true ↦ y ∷ senders_by r w j (16 - (k + 1)) y | false ↦ [] ]) ≡ sent_by (sender_of (get_or r.ranks i 0) (get_or r.sendings i 0)) ++ inbox_after r w j (16 - (k + 1)) i) e (some (16 - (k + 1)))
      ∙ ap (λ (x : Server). sent_by x ++ inbox_after r w j (16 - (k + 1)) i) (sym q)
    where
      some : (n : ℕ) → sent_of r (elim (ltb i 16) [ true ↦ i ∷ senders_by r w j n i | false ↦ [] ]) ≡ sent_by (sender_of (get_or r.ranks i 0) (get_or r.sendings i 0)) ++ inbox_after r w j n i
      some n = rw (lt-ltb i 16 l)

  pub heard-none : (n last i : ℕ) → i ≡ next_by r w j last → 16 ≤ i → inbox_after r w j n last ≡ []
  unfolding senders_by sent_of
  heard-none zero last i e l = refl
  heard-none (suc n) last i e l = subst (λ (y : ℕ). sent_of r (elim (ltb y 16) [ true ↦ y ∷ senders_by r w j n y | false ↦ [] ]) ≡ []) e none
    where
      none : sent_of r (elim (ltb i 16) [ true ↦ i ∷ senders_by r w j n i | false ↦ [] ]) ≡ []
      none = rw (le-ltb i 16 l)

  pub heard-out : (k last : ℕ) → 16 ≤ k → inbox_after r w j (16 - k) last ≡ []
  unfolding senders_by sent_of
  heard-out k last h = let q : 16 - k ≡ 0 = omega arith in ap (λ (n : ℕ). inbox_after r w j n last) q

-- ---- what is heard by the numbers is the inbox

-- who is listed sent
all-sent : (l : List Server) (n i : ℕ) → n ≤ 16 → Memᴰ i (sent_below l n) → (i < 16) × (sent_any (get_or l i absent) ≡ true)
unfolding sent_below
all-sent l zero i h m = absurd (Memᴰ.not-nil m)
all-sent l (suc n) i h m =
    on (Memᴰ.append_cases (sent_below l n) m)
    (λ q. all-sent l n i (omega arith) q)
    (λ q.
    on (tested (sent_any (get_or l n absent)))
    (λ t. on (Memᴰ.cases_cons (subst (Memᴰ i) (chosen {a = n ∷ []} [] t) q)) (λ e. rw e (h, t)) (λ z. absurd (Memᴰ.not-nil z)))
    (λ t. absurd (Memᴰ.not-nil (subst (Memᴰ i) (other {b = []} (n ∷ []) t) q))))

-- the lists opened: one comes next, or none
pub some_after : (c : State) (j n last : ℕ) → next_sender c j last < 16 → senders_after c j (suc n) last ≡ next_sender c j last ∷ senders_after c j n (next_sender c j last)
unfolding senders_after
some_after c j n last h = rw (lt-ltb (next_sender c j last) 16 h, senders_after)

pub none_after : (c : State) (j n last : ℕ) → 16 ≤ next_sender c j last → senders_after c j (suc n) last ≡ []
unfolding senders_after
none_after c j n last h = rw (le-ltb (next_sender c j last) 16 h, senders_after)

pub some-by : (r : SenderList) (w : List Bool) (j n last i : ℕ) → i ≡ next_by r w j last → i < 16 → senders_by r w j (suc n) last ≡ i ∷ senders_by r w j n i
unfolding senders_by
some-by r w j n last i e l = subst (λ (y : ℕ). ◌≡◌ {A = List ℕ} (elim (ltb y 16) [ true ↦ y ∷ senders_by r w j n y | false ↦ [] ]) (i ∷ senders_by r w j n i)) e here
  where
    here : ◌≡◌ {A = List ℕ} (elim (ltb i 16) [ true ↦ i ∷ senders_by r w j n i | false ↦ [] ]) (i ∷ senders_by r w j n i)
    here = rw (lt-ltb i 16 l)

pub none-by : (r : SenderList) (w : List Bool) (j n last i : ℕ) → i ≡ next_by r w j last → 16 ≤ i → senders_by r w j (suc n) last ≡ []
unfolding senders_by
none-by r w j n last i e l = subst (λ (y : ℕ). ◌≡◌ {A = List ℕ} (elim (ltb y 16) [ true ↦ y ∷ senders_by r w j n y | false ↦ [] ]) []) e here
  where
    here : ◌≡◌ {A = List ℕ} (elim (ltb i 16) [ true ↦ i ∷ senders_by r w j n i | false ↦ [] ]) []
    here = rw (le-ltb i 16 l)

module _ (c : State) (r : SenderList) (v : Lists c.servers r) (j : ℕ) where
  over-same : (a b : ℕ) → a < 16 → b < 16 → over_by r.ranks a b ≡ over c a b
  over-same a b h g =
      ap₂ (λ (x y : ℕ). ltb x y) (v.ranks b g) (v.ranks a h) ∙ higher-number (rank_of (place c a)) (rank_of (place c b)) (v.identities a h) (v.identities b g)

  -- a place that sent comes next by the numbers just where it comes next
  comes-same :
      (last best i : ℕ) → i < 16 → sent_any (place c i) ≡ true → comes_by r.ranks (heard_by c.whole j i) last best i ≡ comes c j last best i
  unfolding comes hears_from
  comes-same last best i h sent =
      ap₂ (λ (x y : Bool). x && y)
      (ap (λ (x : Bool). not (eqb i j) && x) (sym (ap (λ (x : Bool). x && whole c i j) sent)))
      (ap₂ (λ (x y : Bool). x && y) (below last) (above best))
    where
      below : (a : ℕ) → choose (is_place a) (over_by r.ranks a i) true ≡ choose (is_place a) (over c a i) true
      below a =
          ⊎_elim
          (λ l. chosen _ (lt-ltb a 16 l) ∙ over-same a i l h ∙ sym (chosen _ (lt-ltb a 16 l)))
          (λ l. other _ (le-ltb a 16 l) ∙ sym (other _ (le-ltb a 16 l)))
          (less a 16)

      above : (a : ℕ) → choose (is_place a) (over_by r.ranks i a) true ≡ choose (is_place a) (over c i a) true
      above a =
          ⊎_elim
          (λ l. chosen _ (lt-ltb a 16 l) ∙ over-same i a h l ∙ sym (chosen _ (lt-ltb a 16 l)))
          (λ l. other _ (le-ltb a 16 l) ∙ sym (other _ (le-ltb a 16 l)))
          (less a 16)

  -- of the places is, each sent
  best_same :
      (last best : ℕ) (is : List ℕ) → ((i : ℕ) → Memᴰ i is → (i < 16) × (sent_any (place c i) ≡ true)) → best_by r.ranks c.whole j last best is ≡ best_of c j last best is
  best_same last best [] f = refl
  best_same last best (i ∷ is) f =
      let h = f i (Memᴰ.head refl) in
      ap (λ (b : Bool). best_by r.ranks c.whole j last (choose b i best) is) (comes-same last best i h.0 h.1)
      ∙ best_same last (choose (comes c j last best i) i best) is (λ k m. f k (Memᴰ.tail m))

  next-same : (last : ℕ) → next_by r c.whole j last ≡ next_sender c j last
  unfolding next_sender
  next-same last =
      ap (best_by r.ranks c.whole j last 16) v.these
      ∙ best_same last 16 (sent_below c.servers most) (λ i m. all-sent c.servers most i (omega arith) m)
      ∙ sym (among-sent c j last most)

  senders-same : (n last : ℕ) → senders_by r c.whole j n last ≡ senders_after c j n last
  unfolding senders_by senders_after
  senders-same zero last = refl
  senders-same (suc n) last =
      let next = next_sender c j last in
      let e : next ≡ next_by r c.whole j last = sym (next-same last) in
      on (less next 16)
      (λ l. some-by r c.whole j n last next e l ∙ ap (λ (x : List ℕ). next ∷ x) (senders-same n next) ∙ sym (some_after c j n last l))
      (λ l. none-by r c.whole j n last next e l ∙ sym (none_after c j n last l))

  sent-same : (is : List ℕ) → ((i : ℕ) → Memᴰ i is → i < 16) → sent_of r is ≡ sent_by_all c is
  unfolding sent_of sent_by_all
  sent-same [] f = refl
  sent-same (i ∷ is) f =
      let h = f i (Memᴰ.head refl) in
      ap₂ (λ (x y : List Heartbeat). x ++ y)
      (ap₂ (λ (x y : ℕ). sent_by (sender_of x y)) (v.ranks i h) (v.sendings i h) ∙ sender-same (place c i) (v.identities i h) (v.passes i h))
      (sent-same is (λ k m. f k (Memᴰ.tail m)))

  all-places : (n last i : ℕ) → Memᴰ i (senders_after c j n last) → i < 16
  unfolding senders_after
  all-places zero last i m = absurd (Memᴰ.not-nil m)
  all-places (suc n) last i m =
      on (less (next_sender c j last) 16)
      (λ l. on (Memᴰ.cases_cons (subst (Memᴰ i) (some_after c j n last l) m)) (λ e. rw e l) (λ q. all-places n (next_sender c j last) i q))
      (λ l. absurd (Memᴰ.not-nil (subst (Memᴰ i) (none_after c j n last l) m)))

  pub inbox-same : inbox_by r c.whole j ≡ inbox c j
  unfolding inbox
  inbox-same = ap (sent_of r) (senders-same most most) ∙ sent-same (senders_after c j most most) (λ i m. all-places most most i m)

-- ---- where one place sent

and_whole : (a : Bool) {b : Bool} → b ≡ true → (a && b) ≡ a
and_whole true e = e
and_whole false e = refl

first_of : (l : List ℕ) → length l ≡ 16 → take 1 l ≡ get_or l 0 0 ∷ []
first_of [] e = absurd (omega arith)
first_of (x ∷ l) e = refl

module _ (r : SenderList) (w : List Bool) (j : ℕ) (v : Numbers r) (one : r.count ≡ 1) where
  abbrev only : ℕ
  only = get_or r.places 0 0

  only-place : only < 16
  only-place = v.listed.places 0 (omega arith)

  next_of : (last : ℕ) → next_by r w j last ≡ choose (comes_by r.ranks (heard_by w j only) last 16 only) only 16
  next_of last = ap (best_by r.ranks w j last 16) (ap (λ (n : ℕ). take n r.places) one ∙ first_of r.places v.listed.room)

  comes-first : comes_by r.ranks (heard_by w j only) 16 16 only ≡ heard_by w j only
  unfolding choose
  comes-first = and_whole (heard_by w j only) refl

  not-over : over_by r.ranks only only ≡ false
  not-over = le-ltb (get_or r.ranks only 0) (get_or r.ranks only 0) (omega arith)

  no_more : next_by r w j only ≡ 16
  no_more =
      next_of only
      ∙ other _ (and_right (heard_by w j only) (and_left _ (chosen _ (lt-ltb only 16 only-place) ∙ not-over)))

  pub only-heard : heard_by w j only ≡ true → inbox_by r w j ≡ sent_by (sender_of (get_or r.ranks only 0) (get_or r.sendings only 0))
  only-heard e =
      let next : only ≡ next_by r w j 16 = sym (next_of 16 ∙ chosen _ (comes-first ∙ e)) in
      heard-more r w j 0 16 only (omega arith) next only-place refl
      ∙ ap (λ (x : List Heartbeat). sent_by (sender_of (get_or r.ranks only 0) (get_or r.sendings only 0)) ++ x) (heard-none r w j (16 - (0 + 1)) only 16 (sym no_more) (omega arith))
      ∙ append-nil _

-- ---- where a place hears nobody

best_unheard : (ranks : List ℕ) (w : List Bool) (j last best : ℕ) (l : List ℕ) → ((k : ℕ) → k < length l → heard_by w j (get_or l k 0) ≡ false) → best_by ranks w j last best l ≡ best
best_unheard ranks w j last best [] f = refl
best_unheard ranks w j last best (i ∷ l) f =
    ap (λ (b : ℕ). best_by ranks w j last b l) (other _ (and_left _ (f 0 (omega arith)))) ∙ best_unheard ranks w j last best l (λ k h. f (suc k) (omega arith))

pub unheard : (r : SenderList) (w : List Bool) (j : ℕ) → Listed r.places r.count → ((k : ℕ) → k < r.count → heard_by w j (get_or r.places k 0) ≡ false) → inbox_by r w j ≡ []
unheard r w j v f =
    let long : length (take r.count r.places) ≡ r.count = length-take-le r.count r.places (omega (arith, v.room, v.few)) in
    heard-none r w j 16 16 16
    (sym (best_unheard r.ranks w j 16 16 (take r.count r.places) (λ k h. ap (heard_by w j) (get_or-take r.count r.places k 0 (omega arith)) ∙ f k (omega arith))))
    (omega arith)
