-- A group of plain fronts that is wired by the protocol is the group that it stands for, and so the
-- channel. Assumes nothing.
use mathlib.Core.Bool.{Bool, true, false, not, ◌&&◌}
use mathlib.Core.Path.{◌≡◌, refl, sym, ap, ap₂, subst, ◌∙◌}
use mathlib.Core.Logic.{inl, inr}
use mathlib.Core.List.Memᴰ
use mathlib.Core.List.{List, [], ◌∷◌, ◌++◌, map, Memᴰ}
use Prim.Native.Nat.{ℕ, zero, suc, ◌+◌, ◌*◌, ◌<◌, ◌≤◌}
use native.Mathlib.Omega.{arith}
use borrow.Author.Tests.{eq-eqb, ne_eqb, eqb-true, eqb-false, ltb-true}
use lib.Dec.{eqb}
use lib.ListN.{length, get_or, set, replicate, get_or-map}
use lib.Seq.{set-get_or}
use Rattle.lists.specs.Choice.{choose}
use Rattle.lists.specs.Lists.{map_from, index_where}
use Rattle.lists.proofs.Cases.{tested, equal, chosen, other, and_true, fst_true, snd_true, or_false, on, clash, length_mapped}
use Rattle.timecode.specs.Read.{in_day}
use Rattle.heartbeat.specs.declared.Heartbeat.{Heartbeat}
use Rattle.roles.specs.Roles.{is_active}
use Rattle.roles.specs.declared.Verb.{Verb}
use Rattle.roles.specs.declared.Verb.TheVariants.{Start, Ready, Unready, Pass, Crash, Restart, Cut, Mend}
use Rattle.periods.specs.Period.{take_period}
use Rattle.server.specs.declared.Server.{Server}
use Rattle.front.specs.declared.Front.{Front}
use Rattle.front.specs.Front as front
use Rattle.front.specs.Front.{goes_on}
use Rattle.group.specs.declared.Table.{Table}
use Rattle.group.specs.declared.State.{State}
use Rattle.group.specs.Table.{most, is_empty, is_table, fresh_refusal, fresh}
use Rattle.group.specs.Hearing.{place, link_of}
use Rattle.group.specs.Verbs.{names_nobody, links_after}
use Rattle.group.specs.Calls.{call_channel, channel_after}
use Rattle.reached.proofs.Sound.{Sound}
use Rattle.reached.proofs.Made.{sound-fresh}
use Rattle.reached.proofs.Reached.{sound-call, sound-after}
use Rattle.settling.specs.Demand.{settling_time}
use Rattle.wiring.specs.Settles.{role_at, GroupLed, NoneBeating, GroupSettles, GroupsSettle}
use Rattle.plain.specs.declared.PlainFront.{PlainFront}
use Rattle.plain.specs.declared.PlainHeartbeat.{PlainHeartbeat}
use Rattle.plain.specs.Numbers.{is_period, period_of}
use Rattle.plain.specs.Plain.{is_front, front_of, plain_front, heartbeat_of}
use Rattle.plain.proofs.Laws.{laws}
use Rattle.playout.specs.declared.FrontMade.{FrontMade}
use Rattle.playout.specs.Front.{front_made, Begins}
use Rattle.wiring.specs.Members.{Member, nobody, identity_of, acts, acts_lines}
use Rattle.wiring.specs.Heard as heard
use Rattle.wiring.specs.Heard.{Group, member_at}
use Rattle.wiring.specs.Group as wiring
use Rattle.wiring.specs.Group.{new_member, new_group, turn, framed, lines_each, place_in, place_of, is_in, knows, own_number, state_number, entry_number, entered, entry_lines, move_number, moves_to, move_lines, moved, group_after, group_numbers, group_lines, MustHear, WiredIn, Wired}
use Rattle.wiring.specs.Same.{member_of, group_of, call_of, calls_of, OneSheet}
use Rattle.wiring.proofs.Inboxes.{member-at, taken}
use Rattle.wiring.proofs.Moves.{moved-is, new-group}
use Rattle.plainwiring.specs.Calls.{PlainMember, no_member, ActCalls}
use Rattle.plainwiring.specs.Group as plain
use Rattle.plainwiring.specs.Group.{PlainGroup, member_from, group_from, is_vacant, new_plain_member, new_plain_group, TurnCalls, vacant, seated, clock_number, PlainMove, frame, entry, move_from, of_links, place_from, PlainMoved, turns, names, misses, links, PlainPlays, Decodes, PlainGroupsPlay, PlainGroupsSettle}
use Rattle.plainwiring.proofs.Calls.{MayHear, begin-number, framed_as, stays_as, acted_as_lem}

-- ---- members

-- what stands in any place decodes, or no server stands there
abbrev pub AllDecode : List PlainMember → Type 0
AllDecode ms = (i : ℕ) → Decodes (get_or ms i no_member)

nobody-decodes : Decodes no_member
unfolding Decodes
nobody-decodes e = absurd (clash {t = true} refl e)

-- the empty place stands for nobody
stands : (ms : List PlainMember) (i : ℕ) → get_or (map member_from ms) i nobody ≡ member_from (get_or ms i no_member)
unfolding period_of choose Rattle.places.specs.Words.role_of
stands ms i = get_or-map member_from ms i no_member

decode_put : (ms : List PlainMember) (p : ℕ) (m : PlainMember) → AllDecode ms → Decodes m → AllDecode (set ms p m)
decode_put [] p m all d i = all i
decode_put (x ∷ ms) zero m all d zero = d
decode_put (x ∷ ms) zero m all d (suc i) = all (suc i)
decode_put (x ∷ ms) (suc p) m all d zero = all zero
decode_put (x ∷ ms) (suc p) m all d (suc i) = decode_put ms p m (λ j. all (suc j)) d i

map-put : (ms : List PlainMember) (p : ℕ) (m : PlainMember) → map member_from (set ms p m) ≡ set (map member_from ms) p (member_from m)
map-put [] p m = refl
map-put (x ∷ ms) zero m = refl
map-put (x ∷ ms) (suc p) m = ap (λ (r : List Member). member_from x ∷ r) (map-put ms p m)

-- ---- a frame of all places

abbrev heard_in : (ℕ → List PlainHeartbeat) → ℕ → List Heartbeat
heard_in hear j = map heartbeat_of (hear j)

-- what is needed of place j for its frame
abbrev MayTurn : (ℕ → List PlainHeartbeat) → ℕ → PlainMember → Type 0
MayTurn hear j m = is_vacant m ≡ false → (is_front m.front ≡ true) × ((goes_on (front_of m.front) ≡ true) × ((h : PlainHeartbeat) → Memᴰ h (hear j) → MayHear (front_of m.front) h))

pub record TurnedAs (hear : ℕ → List PlainHeartbeat) (k : ℕ) (ms ms' : List PlainMember) (w : List ℕ) : Type 0 where
  pub members : map member_from ms' ≡ map_from k (turn (heard_in hear)) (map member_from ms)
  pub lines : w ≡ lines_each (heard_in hear) k (map member_from ms)
  pub decodes : AllDecode ms'

decode_more : (m : PlainMember) (ms : List PlainMember) → Decodes m → AllDecode ms → AllDecode (m ∷ ms)
decode_more m ms d all zero = d
decode_more m ms d all (suc i) = all i

turned_as : (hear : ℕ → List PlainHeartbeat) (k : ℕ) (ms ms' : List PlainMember) (w : List ℕ) → ((i : ℕ) → i < length ms → MayTurn hear (k + i) (get_or ms i no_member)) → TurnCalls hear k ms ms' w → TurnedAs hear k ms ms' w
unfolding lines_each Decodes
turned_as hear k ms ms' w ready plain.none = record { members = refl; lines = refl; decodes = λ i. nobody-decodes }
turned_as hear k ms ms' w ready (vacant {m = m} {ms = l} {ms' = l'} e rest) =
    let r = turned_as hear (suc k) l l' w (λ i h. let q : k + suc i ≡ suc k + i = omega arith in subst (λ (j : ℕ). MayTurn hear j (get_or l i no_member)) q (ready (suc i) (omega arith))) rest in
    record {
      members = ap₂ (λ (x : Member) (y : List Member). x ∷ y) (sym (chosen _ e)) r.members;
      lines = r.lines ∙ ap (λ (x : List ℕ). x ++ lines_each (heard_in hear) (suc k) (map member_from l)) (sym (chosen _ e));
      decodes = decode_more m l' (λ f. absurd (clash e f)) r.decodes;
    }
turned_as hear k ms ms' w ready (seated {m = m} {m' = m'} {ms = l} {ms' = l'} {u = u} {w = w'} e calls rest) =
    let r = turned_as hear (suc k) l l' w' (λ i h. let q : k + suc i ≡ suc k + i = omega arith in subst (λ (j : ℕ). MayTurn hear j (get_or l i no_member)) q (ready (suc i) (omega arith))) rest in
    let z : k + 0 ≡ k = omega arith in
    let here = subst (λ (j : ℕ). MayTurn hear j m) z (ready 0 (omega arith)) e in
    let f = framed_as m m' (hear k) u here.0 here.1.0 here.1.1 calls in
    record {
      members = ap₂ (λ (x : Member) (y : List Member). x ∷ y) (f.member ∙ sym (other _ e)) r.members;
      lines = ap₂ (λ (x y : List ℕ). x ++ y) (f.lines ∙ sym (other [] e)) r.lines;
      decodes = decode_more m' l' (λ _. f.decodes) r.decodes;
    }

-- after the day's last frame
turns_stay : (hear : ℕ → List PlainHeartbeat) (k : ℕ) (ms ms' : List PlainMember) (w : List ℕ) → ((i : ℕ) → i < length ms → is_vacant (get_or ms i no_member) ≡ false → (is_front (get_or ms i no_member).front ≡ true) × (goes_on (front_of (get_or ms i no_member).front) ≡ false)) → TurnCalls hear k ms ms' w → (ms' ≡ ms) × (w ≡ [])
turns_stay hear k ms ms' w over plain.none = (refl, refl)
turns_stay hear k ms ms' w over (vacant {m = m} {ms = l} {ms' = l'} e rest) =
    let r = turns_stay hear (suc k) l l' w (λ i h. over (suc i) (omega arith)) rest in (ap (λ (x : List PlainMember). m ∷ x) r.0, r.1)
turns_stay hear k ms ms' w over (seated {m = m} {m' = m'} {ms = l} {ms' = l'} {u = u} {w = w'} e calls rest) =
    let r = turns_stay hear (suc k) l l' w' (λ i h. over (suc i) (omega arith)) rest in
    let o = over 0 (omega arith) e in
    let s = stays_as m m' (hear k) u o.0 o.1 calls in
    (ap₂ (λ (x : PlainMember) (y : List PlainMember). x ∷ y) s.0 r.0, ap₂ (λ (x y : List ℕ). x ++ y) s.1 r.1)

-- ---- one move

pub record Stepped (g : PlainGroup) (k : PlainMove) (n : ℕ) (d : PlainGroup) (u : List ℕ) : Type 0 where
  pub group : group_from d ≡ moved (group_from g) (move_from k)
  pub number : n ≡ move_number (group_from g) (move_from k)
  pub lines : u ≡ choose (eqb (move_number (group_from g) (move_from k)) 0) (move_lines (group_from g) (move_from k)) []
  pub decodes : AllDecode d.members

step-taken : (g : PlainGroup) (k : PlainMove) (n : ℕ) (d : PlainGroup) (u : List ℕ) → n ≡ move_number (group_from g) (move_from k) → n ≡ 0 → group_from d ≡ moves_to (group_from g) (move_from k) → u ≡ move_lines (group_from g) (move_from k) → AllDecode d.members → Stepped g k n d u
unfolding moved
step-taken g k n d u e z same lines all =
    let t = eq-eqb (move_number (group_from g) (move_from k)) 0 (sym e ∙ z) in
    record { group = same ∙ sym (chosen _ t); number = e; lines = lines ∙ sym (chosen [] t); decodes = all }

step-refused : (g : PlainGroup) (k : PlainMove) (n : ℕ) (d : PlainGroup) (u : List ℕ) → n ≡ move_number (group_from g) (move_from k) → (n ≡ 0 → ⊥) → group_from d ≡ group_from g → u ≡ [] → AllDecode d.members → Stepped g k n d u
unfolding moved
step-refused g k n d u e z same lines all =
    let t = ne_eqb (move_number (group_from g) (move_from k)) 0 (λ q. z (e ∙ q)) in
    record { group = same ∙ sym (other _ t); number = e; lines = lines ∙ sym (other _ t); decodes = all }

-- verbs of a server, by the member that acts
own-number : (g : Group) (v : Verb) (a b : ℕ) → of_links v ≡ false → state_number g v a b ≡ own_number g v a b
unfolding state_number
own-number g Start a b e = refl
own-number g Ready a b e = refl
own-number g Unready a b e = refl
own-number g Pass a b e = refl
own-number g Crash a b e = refl
own-number g Restart a b e = refl
own-number g Cut a b e = absurd (clash {t = true} refl e)
own-number g Mend a b e = absurd (clash {t = true} refl e)

own-entered : (g : Group) (v : Verb) (a b : ℕ) → of_links v ≡ false → record { frame = g.frame; members = set g.members (place_of g a) (acts v b (member_at g (place_of g a))); whole = g.whole } ≡ entered g v a b
own-entered g Start a b e = refl
own-entered g Ready a b e = refl
own-entered g Unready a b e = refl
own-entered g Pass a b e = refl
own-entered g Crash a b e = refl
own-entered g Restart a b e = refl
own-entered g Cut a b e = absurd (clash {t = true} refl e)
own-entered g Mend a b e = absurd (clash {t = true} refl e)

own-lines : (g : Group) (v : Verb) (a b : ℕ) → of_links v ≡ false → acts_lines v b (member_at g (place_of g a)).front ≡ entry_lines g v a b
own-lines g Start a b e = refl
own-lines g Ready a b e = refl
own-lines g Unready a b e = refl
own-lines g Pass a b e = refl
own-lines g Crash a b e = refl
own-lines g Restart a b e = refl
own-lines g Cut a b e = absurd (clash {t = true} refl e)
own-lines g Mend a b e = absurd (clash {t = true} refl e)

links-entered : (g : Group) (v : Verb) (a b : ℕ) → of_links v ≡ true → record { frame = g.frame; members = g.members; whole = links_after v (link_of (place_of g a) (place_of g b)) g.whole } ≡ entered g v a b
links-entered g Start a b e = absurd (clash e refl)
links-entered g Ready a b e = absurd (clash e refl)
links-entered g Unready a b e = absurd (clash e refl)
links-entered g Pass a b e = absurd (clash e refl)
links-entered g Crash a b e = absurd (clash e refl)
links-entered g Restart a b e = absurd (clash e refl)
links-entered g Cut a b e = refl
links-entered g Mend a b e = refl

-- an identity that is found stands at its place
found-there : (ms : List Member) (a : ℕ) → place_in ms a < length ms → identity_of (get_or ms (place_in ms a) nobody) ≡ a
unfolding place_in
found-there [] a h = absurd (omega arith)
found-there (m ∷ ms) a h =
    let p : Member → Bool = λ x. not (eqb a 0) && eqb (identity_of x) a in
    on (tested (p m))
    (λ e.
    let z = chosen {t = p m} {a = 0} (suc (index_where p ms)) e in
    ap (λ (k : ℕ). identity_of (get_or (m ∷ ms) k nobody)) z ∙ eqb-true (identity_of m) a (snd_true (not (eqb a 0)) _ e))
    (λ e.
    let z = other {t = p m} {b = suc (index_where p ms)} 0 e in
    ap (λ (k : ℕ). identity_of (get_or (m ∷ ms) k nobody)) z ∙ found-there ms a (omega (arith, z, h)))

mem_map : (hs : List PlainHeartbeat) {h : PlainHeartbeat} → Memᴰ h hs → Memᴰ (heartbeat_of h) (map heartbeat_of hs)
mem_map [] m = absurd (mathlib.Core.List.Memᴰ.not-nil m)
mem_map (k ∷ hs) m = on (Memᴰ.cases_cons m) (λ q. Memᴰ.head (ap heartbeat_of q)) (λ r. Memᴰ.tail (mem_map hs r))

module _ (c : State) (sound : Sound c) (g : PlainGroup) (same : group_from g ≡ group_of c) (all : AllDecode g.members) where
  map-long : (l : List Server) → length (map (member_of c) l) ≡ length l
  map-long [] = refl
  map-long (s ∷ l) = ap suc (map-long l)

  all-long : length (group_from g).members ≡ 16
  all-long = ap (λ (x : Group). length x.members) same ∙ map-long c.servers ∙ sound.long

  long : length g.members ≡ 16
  long = length_mapped member_from g.members 16 all-long

  abbrev at : ℕ → PlainMember
  at i = get_or g.members i no_member

  -- a front is in the frame of the clock
  in_step : (i : ℕ) → is_vacant (at i) ≡ false → (front_of (at i).front).frame ≡ g.frame
  in_step i e =
      let here = sym (stands g.members i) ∙ ap (λ (x : Group). member_at x i) same ∙ member-at c i in
      let full : is_empty (place c i) ≡ false = taken c i (ap (λ (x : Group). heard.is_vacant (member_at x i)) (sym same) ∙ ap heard.is_vacant (stands g.members i) ∙ e) in
      ap (λ (m : Member). m.front.frame) (here ∙ other nobody full) ∙ ap (λ (x : Group). x.frame) (sym same)

  -- so that its begin gets what the clock says
  pub begin_clock : (i k : ℕ) (q : PlainFront) → is_vacant (at i) ≡ false → Begins (at i).front k q → k ≡ clock_number g
  unfolding Decodes
  begin_clock i k q e b = b.number ∙ begin-number (at i).front (all i e) ∙ ap (λ (t : ℕ). choose (in_day (t + 1)) 0 16) (in_step i e)

  -- a frame that the day has
  frame-taken : (hear : ℕ → List PlainHeartbeat) (ms : List PlainMember) (w : List ℕ) → WiredIn (group_from g) (move_from (frame hear)) → TurnCalls hear 0 g.members ms w → in_day (g.frame + 1) ≡ true → Stepped g (frame hear) (clock_number g) (record { frame = choose (eqb (clock_number g) 0) (g.frame + 1) g.frame; members = ms; whole = g.whole }) w
  unfolding move_number moves_to move_lines framed Decodes
  frame-taken hear ms w wired calls day =
      let now : clock_number g ≡ 0 = chosen 16 day in
      let r =
      turned_as hear 0 g.members ms w
      (λ i h.
      let z : i ≡ 0 + i = omega arith in
      subst (λ (j : ℕ). MayTurn hear j (at i)) z
      (λ e. (all i e, (ap (λ (t : ℕ). in_day (t + 1)) (in_step i e) ∙ day, hearable i e (omega (arith, h, long))))))
      calls in
      step-taken g (frame hear) (clock_number g) _ w refl now
      (ap₂ (λ (t : ℕ) (l : List Member). record { frame = t; members = l; whole = g.whole }) (chosen g.frame (eq-eqb (clock_number g) 0 now)) r.members)
      r.lines r.decodes
    where
      hearable : (i : ℕ) → is_vacant (at i) ≡ false → i < 16 → (h : PlainHeartbeat) → Memᴰ h (hear i) → MayHear (front_of (at i).front) h
      hearable i e l h m =
          on (tested (is_active (front_of (at i).front).server.role))
          (λ a.
          let must : MustHear (group_from g) i = (record { place = l; server = ap heard.is_vacant (stands g.members i) ∙ e }, ap (λ (x : Member). is_active x.front.server.role) (stands g.members i) ∙ a) in
          let k = (wired day i must).comes.known (heartbeat_of h) (mem_map (hear i) m) in
          inl (ap not (ap (λ (t : ℕ). eqb t 0) (sym k.identity) ∙ k.seated.server)))
          (λ a. inr a)

  -- and one that it has not
  frame_refused : (hear : ℕ → List PlainHeartbeat) (ms : List PlainMember) (w : List ℕ) → TurnCalls hear 0 g.members ms w → in_day (g.frame + 1) ≡ false → Stepped g (frame hear) (clock_number g) (record { frame = choose (eqb (clock_number g) 0) (g.frame + 1) g.frame; members = ms; whole = g.whole }) w
  unfolding move_number Decodes
  frame_refused hear ms w calls over =
      let late : clock_number g ≡ 16 = other 0 over in
      let r = turns_stay hear 0 g.members ms w (λ i h e. (all i e, ap (λ (t : ℕ). in_day (t + 1)) (in_step i e) ∙ over)) calls in
      step-refused g (frame hear) (clock_number g) _ w refl (λ z. omega (arith, sym late ∙ z))
      (ap₂ (λ (t : ℕ) (l : List PlainMember). record { frame = t; members = map member_from l; whole = g.whole }) (other (g.frame + 1) (ne_eqb (clock_number g) 0 (λ z. omega (arith, sym late ∙ z)))) r.0)
      r.1 (subst AllDecode (sym r.0) all)

  -- an entry whose identities are known
  known-number : (v : Verb) (a b : ℕ) → names_nobody v a b ≡ false → knows (group_from g) v a b ≡ true → move_number (group_from g) (wiring.entry v a b) ≡ state_number (group_from g) v a b
  unfolding move_number entry_number
  known-number v a b e f = other 2 e ∙ chosen 8 f

  -- the acting server stands in its place
  acting : (v : Verb) (a b : ℕ) → names_nobody v a b ≡ false → knows (group_from g) v a b ≡ true → is_vacant (at (place_from g a)) ≡ false
  unfolding names_nobody knows
  acting v a b e f =
      let l = ltb-true (place_from g a) 16 (fst_true (is_in (group_from g) a) _ f) in
      let q = found-there (map member_from g.members) a (omega (arith, l, all-long)) in
      let z = eqb-false a 0 (or_false (eqb a 0) _ e).0 in
      ne_eqb (at (place_from g a)).front.server.identity 0 (λ n. z (sym q ∙ ap identity_of (stands g.members (place_from g a)) ∙ n))

  entry-acts : (v : Verb) (a b n : ℕ) (m : PlainMember) (w : List ℕ) → of_links v ≡ false → names_nobody v a b ≡ false → knows (group_from g) v a b ≡ true → ActCalls (at (place_from g a)) v b n m w → Stepped g (entry v a b) n (record { frame = g.frame; members = set g.members (place_from g a) m; whole = g.whole }) w
  unfolding moves_to move_lines Decodes
  entry-acts v a b n m w own e f calls =
      let p = place_from g a in
      let r = acted_as_lem (at p) m v b n w (all p (acting v a b e f)) calls in
      let there = stands g.members p in
      let num : n ≡ move_number (group_from g) (wiring.entry v a b) =
      r.number ∙ sym (known-number v a b e f ∙ own-number (group_from g) v a b own ∙ ap (λ (x : Member). (Rattle.server.specs.Verbs.verb_answer v b x.front.server).number) there) in
      on (equal n 0)
      (λ z.
      step-taken g (entry v a b) n _ w num z
      (ap (λ (l : List Member). record { frame = g.frame; members = l; whole = g.whole })
      (map-put g.members p m ∙ ap (set (map member_from g.members) p) ((r.taken z).0 ∙ ap (acts v b) (sym there)))
      ∙ own-entered (group_from g) v a b own)
      ((r.taken z).1 ∙ ap (λ (x : Member). acts_lines v b x.front) (sym there) ∙ own-lines (group_from g) v a b own)
      (decode_put g.members p m all (λ _. r.decodes)))
      (λ z.
      let unchanged : set g.members p m ≡ g.members = ap (set g.members p) (r.refused z).0 ∙ set-get_or g.members p no_member in
      step-refused g (entry v a b) n _ w num z
      (ap (λ (l : List PlainMember). record { frame = g.frame; members = map member_from l; whole = g.whole }) unchanged)
      (r.refused z).1 (subst AllDecode (sym unchanged) all))

  entry-links : (v : Verb) (a b n : ℕ) → of_links v ≡ true → names_nobody v a b ≡ false → knows (group_from g) v a b ≡ true → n ≡ state_number (group_from g) v a b → Stepped g (entry v a b) n (record { frame = g.frame; members = g.members; whole = choose (eqb n 0) (links_after v (link_of (place_from g a) (place_from g b)) g.whole) g.whole }) (choose (eqb n 0) (entry_lines (group_from g) v a b) [])
  unfolding moves_to move_lines
  entry-links v a b n of e f num =
      let is = num ∙ sym (known-number v a b e f) in
      on (equal n 0)
      (λ z.
      let t = eq-eqb n 0 z in
      step-taken g (entry v a b) n _ _ is z
      (ap (λ (x : List Bool). record { frame = g.frame; members = map member_from g.members; whole = x }) (chosen g.whole t) ∙ links-entered (group_from g) v a b of)
      (chosen [] t) all)
      (λ z.
      let t = ne_eqb n 0 z in
      step-refused g (entry v a b) n _ _ is z
      (ap (λ (x : List Bool). record { frame = g.frame; members = map member_from g.members; whole = x }) (other _ t))
      (other _ t) all)

  pub stepped : (k : PlainMove) (n : ℕ) (d : PlainGroup) (u : List ℕ) → WiredIn (group_from g) (move_from k) → PlainMoved g k n d u → Stepped g k n d u
  unfolding move_number entry_number
  stepped k n d u wired (turns {hear = hear} {ms = ms} {w = w} calls) =
      on (tested (in_day (g.frame + 1))) (frame-taken hear ms w wired calls) (frame_refused hear ms w calls)
  stepped k n d u wired (names {v = v} {a = a} {b = b} e) =
      step-refused g (entry v a b) 2 g [] (sym (chosen _ e)) (λ z. omega (arith, z)) refl refl all
  stepped k n d u wired (misses {v = v} {a = a} {b = b} e f) =
      step-refused g (entry v a b) 8 g [] (sym (other 2 e ∙ other _ f)) (λ z. omega (arith, z)) refl refl all
  stepped k n d u wired (plain.acts {v = v} {a = a} {b = b} {n = m} {m = x} {w = w} own e f calls) = entry-acts v a b m x w own e f calls
  stepped k n d u wired (links {v = v} {a = a} {b = b} {n = m} of e f num) = entry-links v a b m of e f num

-- ---- lists of moves

pub record PlayedAs (g : PlainGroup) (ks : List PlainMove) (ns : List ℕ) (d : PlainGroup) (w : List ℕ) : Type 0 where
  pub wired : Wired (group_from g) (map move_from ks)
  pub group : group_from d ≡ group_after (group_from g) (map move_from ks)
  pub decodes : AllDecode d.members
  pub numbers : ns ≡ group_numbers (group_from g) (map move_from ks)
  pub lines : w ≡ group_lines (group_from g) (map move_from ks)
  pub begins : (i k : ℕ) (q : PlainFront) → is_vacant (get_or d.members i no_member) ≡ false → Begins (get_or d.members i no_member).front k q → k ≡ clock_number d

played_as : (c : State) (g : PlainGroup) (ks : List PlainMove) (ns : List ℕ) (d : PlainGroup) (w : List ℕ) → Sound c → group_from g ≡ group_of c → AllDecode g.members → PlainPlays g ks ns d w → PlayedAs g ks ns d w
unfolding group_after group_numbers group_lines
played_as c g ks ns d w sound same all plain.none = record { wired = wiring.none; group = refl; decodes = all; numbers = refl; lines = refl; begins = begin_clock c sound g same all }
played_as c g ks ns d w sound same all (plain.next {d = d'} {k = k} {n = n} {ks = ks'} {ns = ns'} {u = u} {w = w'} wired step rest) =
    let s = stepped c sound g same all k n d' u wired step in
    let k' = move_from k in
    let c' = call_channel c (call_of c k') in
    let then : group_from d' ≡ group_of c' = s.group ∙ ap (λ (x : Group). moved x k') same ∙ moved-is c k' sound (subst (λ (x : Group). WiredIn x k') same wired) in
    let r = played_as c' d' ks' ns' d w' (sound-call c (call_of c k') sound) then s.decodes rest in
    record {
      wired = wiring.next wired (subst (λ (x : Group). Wired x (map move_from ks')) s.group r.wired);
      group = r.group ∙ ap (λ (x : Group). group_after x (map move_from ks')) s.group;
      decodes = r.decodes;
      numbers = ap₂ (λ (x : ℕ) (y : List ℕ). x ∷ y) s.number (r.numbers ∙ ap (λ (x : Group). group_numbers x (map move_from ks')) s.group);
      lines = ap₂ (λ (x y : List ℕ). x ++ y) s.lines (r.lines ∙ ap (λ (x : Group). group_lines x (map move_from ks')) s.group);
      begins = r.begins;
    }

-- ---- the group at frame 0

pub period-taken : (t : Table) (n : ℕ) → fresh_refusal t n ≡ 0 → is_period n ≡ true
unfolding fresh_refusal take_period
period-taken t n e =
    on (tested (is_period n))
    (λ q. q)
    (λ q.
    let no : (is_table t.servers && eqb (take_period n).number 0) ≡ false =
    ap (λ (x : ℕ). is_table t.servers && eqb x 0) (ap (λ (x : Rattle.refusal.specs.Answer.Answer). x.number) (other _ q)) ∙ and_no (is_table t.servers) in
    absurd (omega (arith, sym (other {b = 2} _ no) ∙ e)))
  where
    and_no : (a : Bool) → (a && false) ≡ false
    and_no true = refl
    and_no false = refl

made-front : (i q n : ℕ) → eqb i 0 ≡ false → is_period n ≡ true → (front_made i q n).front ≡ plain_front (front.fresh i q n)
unfolding front_made
made-front i q n e p = ap (λ (x : FrontMade). x.front) (chosen _ (and_true (ap not e) p))

module _ (n : ℕ) (p : is_period n ≡ true) where
  new-seated : (s : Server) → is_empty s ≡ false → (is_front (new_plain_member n s).front ≡ true) × (member_from (new_plain_member n s) ≡ new_member n s)
  unfolding new_member
  new-seated s e =
      let f = front.fresh s.identity s.priority n in
      let b = laws.back.front f p in
      let m = ap (λ (x : PlainMember). x.front) (other no_member e) ∙ made-front s.identity s.priority n e p in (
        ap is_front m ∙ b.decodes,
        ap member_from (other no_member e)
            ∙ ap (λ (x : Front). record { front = x; sent = [] }) (ap front_of (made-front s.identity s.priority n e p) ∙ b.same)
            ∙ sym (other nobody e),
      )

  new_is : (s : Server) → member_from (new_plain_member n s) ≡ new_member n s
  unfolding new_member period_of choose Rattle.places.specs.Words.role_of
  new_is s = on (tested (is_empty s)) (λ e. ap member_from (chosen _ e) ∙ sym (chosen _ e)) (λ e. (new-seated s e).1)

  new-decodes : (s : Server) → Decodes (new_plain_member n s)
  unfolding Decodes
  new-decodes s e = on (tested (is_empty s)) (λ q. absurd (clash (ap is_vacant (chosen _ q)) e)) (λ q. (new-seated s q).0)

  pub new-members : (l : List Server) → map member_from (map (new_plain_member n) l) ≡ map (new_member n) l
  new-members [] = refl
  new-members (s ∷ l) = ap₂ (λ (x : Member) (y : List Member). x ∷ y) (new_is s) (new-members l)

  pub new-all : (l : List Server) → AllDecode (map (new_plain_member n) l)
  new-all [] i = nobody-decodes
  new-all (s ∷ l) zero = new-decodes s
  new-all (s ∷ l) (suc i) = new-all l i

-- from what playout says of fronts
pub plain_groups_play : OneSheet → PlainGroupsPlay
plain_groups_play sheets t n ks ns d w ok plays =
    let p = period-taken t n ok in
    let new : group_from (new_plain_group t n) ≡ new_group t n = ap (λ (l : List Member). record { frame = 0; members = l; whole = replicate (most * most) true }) (new-members n p t.servers) in
    let r = played_as (fresh t n) (new_plain_group t n) ks ns d w (sound-fresh t n ok) (new ∙ new-group t n) (new-all n p t.servers) plays in
    let wired = subst (λ (x : Group). Wired x (map move_from ks)) new r.wired in
    record {
      wired = wired;
      group = r.group ∙ ap (λ (x : Group). group_after x (map move_from ks)) new;
      decodes = r.decodes;
      numbers = r.numbers ∙ ap (λ (x : Group). group_numbers x (map move_from ks)) new;
      lines = r.lines ∙ ap (λ (x : Group). group_lines x (map move_from ks)) new;
      agrees = sheets t n (map move_from ks) ok wired;
      begins = r.begins;
    }

-- demand 3, from what playout says of fronts
pub plain_groups_settle : OneSheet → GroupsSettle → PlainGroupsSettle
plain_groups_settle sheets settles t n ms ns d w ok plays uncut i l a =
    let r = plain_groups_play sheets t n ms ns d w ok plays in
    let c = fresh t n in
    let calls = calls_of c (map move_from ms) in
    let sound = sound-after c calls (sound-fresh t n ok) in
    let is : group_from d ≡ group_of (channel_after c calls) = r.group ∙ r.agrees.group in
    let s =
    subst (GroupSettles (settling_time n)) (sym r.group)
    (settles t n (map move_from ms) ok r.wired uncut i l (subst (λ (g : Group). is_active (role_at g i) ≡ true) r.group a)) in
    record {
      server = s.server;
      seated = s.seated;
      was = s.was;
      led = λ ks js e v more refused late.
          let q = played_as (channel_after c calls) d ks js e v sound is r.decodes more in
          subst (GroupLed (group_from d) s.server) (sym q.group)
          (s.led (map move_from ks) q.wired refused (subst (λ (g : Group). d.frame + settling_time n ≤ g.frame) q.group late));
      highest = λ ks js e v more refused one none.
          let q = played_as (channel_after c calls) d ks js e v sound is r.decodes more in
          s.highest (map move_from ks) q.wired refused (sym (ap (λ (g : Group). g.frame) q.group) ∙ one) (subst NoneBeating q.group none);
    }
