-- Groups of which the same is seen play the same, so new fronts for old ones make no difference.
-- Assumes nothing.
use mathlib.Core.Bool.{Bool, true, false, not, ◌&&◌}
use mathlib.Core.Path.{◌≡◌, refl, sym, ap, ap₂, subst, ◌∙◌}
use mathlib.Core.List.{List, [], ◌∷◌, ◌++◌, map}
use Prim.Native.Nat.{ℕ, zero, suc, ◌+◌}
use native.Mathlib.Omega.{arith}
use borrow.Author.Tests.{eq-eqb, ne_eqb}
use lib.Dec.{ltb, eqb}
use lib.ListN.{get_or, set}
use Rattle.lists.specs.Choice.{choose}
use Rattle.lists.specs.Lists.{map_from}
use Rattle.lists.proofs.Cases.{tested, equal, chosen, other, not_first, on}
use Rattle.timecode.specs.Read.{in_day}
use Rattle.heartbeat.specs.declared.Heartbeat.{Heartbeat}
use Rattle.heartbeat.specs.declared.Rank.{Rank}
use Rattle.roles.specs.declared.Event.{Event}
use Rattle.roles.specs.declared.Event.TheVariants as event
use Rattle.roles.specs.declared.Verb.{Verb}
use Rattle.roles.specs.declared.Verb.TheVariants.{Start, Ready, Unready, Pass, Crash, Restart, Cut, Mend}
use Rattle.roles.specs.declared.Word.TheVariants as word
use Rattle.roles.specs.declared.Said.TheVariants as says
use Rattle.roles.specs.Roles.{is_active, is_beating}
use Rattle.roles.specs.Verbs.{paired}
use Rattle.roles.specs.Words.{said}
use Rattle.server.specs.Server.{rank_of, after}
use Rattle.server.specs.Verbs.{verb_answer}
use Rattle.lines.specs.Lines.{lines_of}
use Rattle.front.specs.declared.Front.{Front}
use Rattle.front.specs.declared.TimedNow.{TimedNow}
use Rattle.front.specs.Front as fronts
use Rattle.front.specs.Front.{hearing, timing, with_server}
use Rattle.front.specs.Anew as steps
use Rattle.front.specs.Anew.{Answered, of_begin, of_hear, of_tick, of_act, stepped, answered, Alike}
use Rattle.front.proofs.Anew.{seen, seen_front, same_answer_lem, same_step, same-risen, restarts}
use Rattle.group.specs.Hearing.{link_of}
use Rattle.group.specs.Verbs.{names_nobody, links_after}
use Rattle.group.proofs.Laws.{rank-after}
use Rattle.settling.specs.Sending.{sends}
use Rattle.wiring.specs.Members.{Member, nobody, identity_of, behind, event_lines, begins, hears_each, hears_lines, ticks, ticks_lines, frame_of, frame_lines, acts, acts_lines}
use Rattle.wiring.specs.Heard.{Group, member_at, is_vacant, linked, Seated, from, gets, Heard}
use Rattle.wiring.specs.Group as wiring
use Rattle.wiring.specs.Group.{new_group, turn, framed, lines_each, place_in, place_of, knows, own_number, state_number, entry_number, members_then, entry_lines, Move, frame, entry, move_number, moves_to, move_lines, moved, group_after, group_numbers, group_lines, WiredIn, Wired}
use Rattle.wiring.specs.Anew as again
use Rattle.wiring.specs.Anew.{new_for, renewed, Doing, moves, comes_up, move_of, done, done_after, done_numbers, done_lines, DoneWired, NewFrontsGoOn}
use Rattle.wiring.proofs.Members.{sends-ranked, heard-first}

-- ---- one front

event_in : Answered → Event
event_in (of_begin n) = event.Nothing
event_in (of_hear a) = a.event
event_in (of_tick a) = event.Nothing
event_in (of_act n e r) = e

number_in : Answered → ℕ
number_in (of_begin n) = n
number_in (of_hear a) = 0
number_in (of_tick a) = 0
number_in (of_act n e r) = n

timers_in : TimedNow → Answered → TimedNow
timers_in d (of_begin n) = d
timers_in d (of_hear a) = d
timers_in d (of_tick a) = a
timers_in d (of_act n e r) = d

module _ (f g : Front) (e : seen_front f ≡ seen_front g) where
  same_rank : rank_of f.server ≡ rank_of g.server
  unfolding seen
  same_rank = ap (λ (x : Front). rank_of x.server) e

  same-frame : f.frame ≡ g.frame
  same-frame = ap (λ (x : Front). x.frame) e

  same-hearing : (h : Heartbeat) → (seen_front (hearing f h).front ≡ seen_front (hearing g h).front) × ((hearing f h).answer.event ≡ (hearing g h).answer.event)
  unfolding stepped answered event_in
  same-hearing h = (same_step f g (steps.hear h) e, ap event_in (same_answer_lem f g (steps.hear h) e))

  same-timing : (seen_front (timing f).front ≡ seen_front (timing g).front) × ((timing f).answer ≡ (timing g).answer)
  unfolding stepped answered timers_in
  same-timing = (same_step f g steps.tick e, ap (timers_in (timing f).answer) (same_answer_lem f g steps.tick e))

  same-happens : (v : Verb) (b : ℕ) → fronts.happens v b f ≡ fronts.happens v b g
  unfolding answered event_in
  same-happens v b = ap event_in (same_answer_lem f g (steps.act v b) e)

  same_number : (v : Verb) (b : ℕ) → (verb_answer v b f.server).number ≡ (verb_answer v b g.server).number
  unfolding answered number_in
  same_number v b = ap number_in (same_answer_lem f g (steps.act v b) e)

  same-acted : (v : Verb) (b : ℕ) → seen_front (with_server (after f.frame f.server (fronts.happens v b f)) f) ≡ seen_front (with_server (after g.frame g.server (fronts.happens v b g)) g)
  unfolding stepped
  same-acted v b = same_step f g (steps.act v b) e

  same_lines : (x : Event) → event_lines f x ≡ event_lines g x
  same_lines x = ap₂ (λ (t : ℕ) (r : Rank). lines_of t r.identity (said x)) same-frame same_rank

-- ---- one member

pub record Twin (m n : Member) : Type 0 where
  pub front : seen_front m.front ≡ seen_front n.front
  pub sent : m.sent ≡ n.sent

twin_self : (m : Member) → Twin m m
twin_self m = record { front = refl; sent = refl }

twin_identity : {m n : Member} → Twin m n → identity_of m ≡ identity_of n
twin_identity {m} {n} w = ap (λ (r : Rank). r.identity) (same_rank m.front n.front w.front)

twin_behind : {m n : Member} (f g : Front) (a b : Event) → Twin m n → seen_front f ≡ seen_front g → a ≡ b → Twin (behind m f a) (behind n g b)
twin_behind f g a b w e q =
    record {
      front = e;
      sent = ap₂ (λ (x y : List Heartbeat). x ++ y) w.sent (ap (sends f.server) q ∙ sends-ranked f.server g.server b (same_rank f g e));
    }

twin_hears : (m n : Member) (hs : List Heartbeat) → Twin m n → Twin (hears_each m hs) (hears_each n hs) × (hears_lines m.front hs ≡ hears_lines n.front hs)
unfolding hears_each hears_lines
twin_hears m n [] w = (w, refl)
twin_hears m n (h ∷ hs) w =
    let f = m.front in
    let g = n.front in
    let r = same-hearing f g w.front h in
    let one = twin_behind (hearing f h).front (hearing g h).front (hearing f h).answer.event (hearing g h).answer.event w r.0 r.1 in
    let more = twin_hears (behind m (hearing f h).front (hearing f h).answer.event) (behind n (hearing g h).front (hearing g h).answer.event) hs one in
    (more.0, ap₂ (λ (x y : List ℕ). x ++ y) (ap (event_lines (hearing f h).front) r.1 ∙ same_lines (hearing f h).front (hearing g h).front r.0 (hearing g h).answer.event) more.1)

twin_ticks : (m n : Member) → Twin m n → Twin (ticks m) (ticks n) × (ticks_lines m.front ≡ ticks_lines n.front)
unfolding ticks ticks_lines
twin_ticks m n w =
    let f = timing m.front in
    let g = timing n.front in
    let r = same-timing m.front n.front w.front in
    let lines : (x y : Event) → x ≡ y → event_lines f.front x ≡ event_lines g.front y = λ x y q. ap (event_lines f.front) q ∙ same_lines f.front g.front r.0 y in
    let q1 = ap (λ (a : TimedNow). a.silent) r.1 in
    let q2 = ap (λ (a : TimedNow). a.beating) r.1 in
    let q3 = ap (λ (a : TimedNow). a.rising) r.1 in (
      twin_behind f.front g.front _ _ (twin_behind f.front g.front _ _ (twin_behind f.front g.front _ _ w r.0 q1) r.0 q2) r.0 q3,
      ap₂ (λ (x y : List ℕ). x ++ y) (lines _ _ q1) (ap₂ (λ (x y : List ℕ). x ++ y) (lines _ _ q2) (lines _ _ q3)),
    )

twin_begins : (m n : Member) → Twin m n → Twin (begins m) (begins n)
twin_begins m n w = record { front = same-risen m.front n.front w.front; sent = refl }

twin_frame : (m n : Member) (hs : List Heartbeat) → Twin m n → Twin (frame_of m hs) (frame_of n hs) × (frame_lines m hs ≡ frame_lines n hs)
unfolding frame_lines
twin_frame m n hs w =
    let h = twin_hears (begins m) (begins n) hs (twin_begins m n w) in
    let t = twin_ticks (hears_each (begins m) hs) (hears_each (begins n) hs) h.0 in
    let a = sym (heard-first m hs) in
    let b = sym (heard-first n hs) in
    (subst (λ (x : Member). Twin x (frame_of n hs)) a (subst (Twin (ticks (hears_each (begins m) hs))) b t.0), ap₂ (λ (x y : List ℕ). x ++ y) h.1 t.1)

twin_acts : (v : Verb) (b : ℕ) (m n : Member) → Twin m n → Twin (acts v b m) (acts v b n) × (acts_lines v b m.front ≡ acts_lines v b n.front)
unfolding acts acts_lines
twin_acts v b m n w =
    let e = same-happens m.front n.front w.front v b in (
      twin_behind _ _ _ _ w (same-acted m.front n.front w.front v b) e,
      ap (event_lines m.front) e ∙ same_lines m.front n.front w.front (fronts.happens v b n.front),
    )

-- ---- all members

pub data Twins : List Member → List Member → Type 0 where
  none : Twins [] []
  more : {m n : Member} {ms ns : List Member} → Twin m n → Twins ms ns → Twins (m ∷ ms) (n ∷ ns)

twins_self : (ms : List Member) → Twins ms ms
twins_self [] = none
twins_self (m ∷ ms) = more (twin_self m) (twins_self ms)

twin_at : {ms ns : List Member} → Twins ms ns → (i : ℕ) → Twin (get_or ms i nobody) (get_or ns i nobody)
twin_at none i = twin_self nobody
twin_at (more w r) zero = w
twin_at (more w r) (suc i) = twin_at r i

twins-put : {ms ns : List Member} {m n : Member} → Twins ms ns → (i : ℕ) → Twin m n → Twins (set ms i m) (set ns i n)
twins-put none i w = none
twins-put (more x r) zero w = more w r
twins-put (more x r) (suc i) w = more x (twins-put r i w)

twins-place : {ms ns : List Member} → Twins ms ns → (a : ℕ) → place_in ms a ≡ place_in ns a
unfolding place_in
twins-place none a = refl
twins-place (more w r) a =
    ap₂ (λ (t : Bool) (k : ℕ). choose t 0 (suc k)) (ap (λ (i : ℕ). not (eqb a 0) && eqb i a) (twin_identity w)) (twins-place r a)

twins-turn : (hear : ℕ → List Heartbeat) (k : ℕ) {ms ns : List Member} → Twins ms ns → Twins (map_from k (turn hear) ms) (map_from k (turn hear) ns) × (lines_each hear k ms ≡ lines_each hear k ns)
unfolding lines_each
twins-turn hear k none = (none, refl)
twins-turn hear k (more {m} {n} {ms} {ns} w r) =
    let rest = twins-turn hear (suc k) r in
    let v : is_vacant m ≡ is_vacant n = ap (λ (i : ℕ). eqb i 0) (twin_identity w) in
    let f = twin_frame m n (hear k) w in (
      more (on (tested (is_vacant m))
          (λ t. subst (λ (x : Member). Twin x (turn hear k n)) (sym (chosen _ t)) (subst (Twin m) (sym (chosen _ (sym v ∙ t))) w))
          (λ t. subst (λ (x : Member). Twin x (turn hear k n)) (sym (other m t)) (subst (Twin (frame_of m (hear k))) (sym (other n (sym v ∙ t))) f.0)))
          rest.0,
      ap₂ (λ (x y : List ℕ). x ++ y) (ap₂ (λ (t : Bool) (x : List ℕ). choose t [] x) v f.1) rest.1,
    )

-- ---- groups

pub record TwinGroups (g h : Group) : Type 0 where
  pub frame : g.frame ≡ h.frame
  pub members : Twins g.members h.members
  pub whole : g.whole ≡ h.whole

module _ (g h : Group) (w : TwinGroups g h) where
  at : (i : ℕ) → Twin (member_at g i) (member_at h i)
  at i = twin_at w.members i

  place_same : (a : ℕ) → place_of g a ≡ place_of h a
  place_same a = twins-place w.members a

  knows_same : (v : Verb) (a b : ℕ) → knows g v a b ≡ knows h v a b
  unfolding knows
  knows_same v a b = ap₂ (λ (i j : ℕ). ltb i 16 && choose (paired v) (ltb j 16 && not (eqb a b)) true) (place_same a) (place_same b)

  own_same : (v : Verb) (a b : ℕ) → own_number g v a b ≡ own_number h v a b
  own_same v a b =
      same_number (member_at g (place_of g a)).front (member_at h (place_of g a)).front (at (place_of g a)).front v b
      ∙ ap (λ (i : ℕ). (verb_answer v b (member_at h i).front.server).number) (place_same a)

  link-same : (a b x y : ℕ) → choose (linked g (place_of g a) (place_of g b)) x y ≡ choose (linked h (place_of h a) (place_of h b)) x y
  link-same a b x y =
      ap (λ (l : List Bool). choose (get_or l (link_of (place_of g a) (place_of g b)) false) x y) w.whole
      ∙ ap₂ (λ (i j : ℕ). choose (linked h i j) x y) (place_same a) (place_same b)

  state-same : (v : Verb) (a b : ℕ) → state_number g v a b ≡ state_number h v a b
  unfolding state_number
  state-same Start a b = own_same Start a b
  state-same Ready a b = own_same Ready a b
  state-same Unready a b = own_same Unready a b
  state-same Pass a b = own_same Pass a b
  state-same Crash a b = own_same Crash a b
  state-same Restart a b = own_same Restart a b
  state-same Cut a b = link-same a b 0 15
  state-same Mend a b = link-same a b 15 0

  pub number_same : (k : Move) → move_number g k ≡ move_number h k
  unfolding move_number entry_number
  number_same (frame hear) = ap (λ (t : ℕ). choose (in_day (t + 1)) 0 16) w.frame
  number_same (entry v a b) = ap₂ (λ (t : Bool) (n : ℕ). choose (names_nobody v a b) 2 (choose t n 8)) (knows_same v a b) (state-same v a b)

  own-acts : (v : Verb) (a b : ℕ) → Twins (set g.members (place_of g a) (acts v b (member_at g (place_of g a)))) (set h.members (place_of h a) (acts v b (member_at h (place_of h a))))
  own-acts v a b =
      subst (λ (i : ℕ). Twins (set g.members (place_of g a) (acts v b (member_at g (place_of g a)))) (set h.members i (acts v b (member_at h i)))) (place_same a)
      (twins-put w.members (place_of g a) (twin_acts v b (member_at g (place_of g a)) (member_at h (place_of g a)) (at (place_of g a))).0)

  own-lines : (v : Verb) (a b : ℕ) → acts_lines v b (member_at g (place_of g a)).front ≡ acts_lines v b (member_at h (place_of h a)).front
  own-lines v a b =
      (twin_acts v b (member_at g (place_of g a)) (member_at h (place_of g a)) (at (place_of g a))).1
      ∙ ap (λ (i : ℕ). acts_lines v b (member_at h i).front) (place_same a)

  members-same : (v : Verb) (a b : ℕ) → Twins (members_then v (place_of g a) b g.members) (members_then v (place_of h a) b h.members)
  members-same Start a b = own-acts Start a b
  members-same Ready a b = own-acts Ready a b
  members-same Unready a b = own-acts Unready a b
  members-same Pass a b = own-acts Pass a b
  members-same Crash a b = own-acts Crash a b
  members-same Restart a b = own-acts Restart a b
  members-same Cut a b = w.members
  members-same Mend a b = w.members

  links-same : (v : Verb) (a b : ℕ) → links_after v (link_of (place_of g a) (place_of g b)) g.whole ≡ links_after v (link_of (place_of h a) (place_of h b)) h.whole
  links-same v a b =
      ap (links_after v (link_of (place_of g a) (place_of g b))) w.whole
      ∙ ap₂ (λ (i j : ℕ). links_after v (link_of i j) h.whole) (place_same a) (place_same b)

  entry_lines_same : (v : Verb) (a b : ℕ) → entry_lines g v a b ≡ entry_lines h v a b
  entry_lines_same Start a b = own-lines Start a b
  entry_lines_same Ready a b = own-lines Ready a b
  entry_lines_same Unready a b = own-lines Unready a b
  entry_lines_same Pass a b = own-lines Pass a b
  entry_lines_same Crash a b = own-lines Crash a b
  entry_lines_same Restart a b = own-lines Restart a b
  entry_lines_same Cut a b = ap (λ (t : ℕ). lines_of t a (says.One word.Cut)) w.frame
  entry_lines_same Mend a b = ap (λ (t : ℕ). lines_of t a (says.One word.Mended)) w.frame

  moves-same : (k : Move) → TwinGroups (moves_to g k) (moves_to h k) × (move_lines g k ≡ move_lines h k)
  unfolding moves_to move_lines framed
  moves-same (frame hear) =
      let r = twins-turn hear 0 w.members in
      (record { frame = ap (λ (t : ℕ). t + 1) w.frame; members = r.0; whole = w.whole }, r.1)
  moves-same (entry v a b) =
      (record { frame = w.frame; members = members-same v a b; whole = links-same v a b }, entry_lines_same v a b)

  pub moved_same : (k : Move) → TwinGroups (moved g k) (moved h k)
  unfolding moved
  moved_same k =
      let n = ap (λ (x : ℕ). eqb x 0) (number_same k) in
      on (tested (eqb (move_number g k) 0))
      (λ t. subst (λ (x : Group). TwinGroups x (moved h k)) (sym (chosen g t)) (subst (TwinGroups (moves_to g k)) (sym (chosen h (sym n ∙ t))) (moves-same k).0))
      (λ t. subst (λ (x : Group). TwinGroups x (moved h k)) (sym (other _ t)) (subst (TwinGroups g) (sym (other _ (sym n ∙ t))) w))

  pub lines_same : (k : Move) → choose (eqb (move_number g k) 0) (move_lines g k) [] ≡ choose (eqb (move_number h k) 0) (move_lines h k) []
  lines_same k = ap₂ (λ (n : ℕ) (l : List ℕ). choose (eqb n 0) l []) (number_same k) (moves-same k).1

  -- the same is heard
  seated-same : (i : ℕ) → Seated h i → Seated g i
  seated-same i s = record { place = s.place; server = ap (λ (n : ℕ). eqb n 0) (twin_identity (at i)) ∙ s.server }

  gets-same : (j i : ℕ) → gets g j i ≡ gets h j i
  gets-same j i = ap₂ (λ (l : List Bool) (s : List Heartbeat). choose (not (eqb i j) && get_or l (link_of i j) false) s []) w.whole (at i).sent

  active-same : (i : ℕ) → is_active (member_at g i).front.server.role ≡ is_active (member_at h i).front.server.role
  unfolding seen
  active-same i = ap (λ (f : Front). is_active f.server.role) (at i).front

seated-back : (g h : Group) → TwinGroups g h → (i : ℕ) → Seated g i → Seated h i
seated-back g h w i s = record { place = s.place; server = ap (λ (n : ℕ). eqb n 0) (sym (twin_identity (at g h w i))) ∙ s.server }

heard-same : (g h : Group) → TwinGroups g h → (j : ℕ) (hs : List Heartbeat) → Heard g j hs → Heard h j hs
heard-same g h w j hs r =
    record {
      comes =
          record {
            each = λ i s. ap (λ (x : ℕ). from x hs) (sym (twin_identity (at g h w i))) ∙ r.comes.each i (seated-same g h w i s) ∙ gets-same g h w j i;
            known = λ x m.
                let k = r.comes.known x m in
                record { place = k.place; seated = seated-back g h w k.place k.seated; identity = sym (twin_identity (at g h w k.place)) ∙ k.identity };
          };
      order = r.order;
    }

wired-same : (g h : Group) → TwinGroups g h → (k : Move) → WiredIn g k → WiredIn h k
wired-same g h w (frame hear) r =
    λ day j m.
    heard-same g h w j (hear j)
    (r (ap (λ (t : ℕ). in_day (t + 1)) w.frame ∙ day) j (seated-same g h w j m.0, active-same g h w j ∙ m.1))
wired-same g h w (entry v a b) r = tt

-- ---- a new front for an old one

twins_trans : {ls ms ns : List Member} → Twins ls ms → Twins ms ns → Twins ls ns
twins_trans none none = none
twins_trans (more v r) (more w s) = more (record { front = v.front ∙ w.front; sent = v.sent ∙ w.sent }) (twins_trans r s)

acts-identity : (v : Verb) (b : ℕ) (m : Member) → identity_of (acts v b m) ≡ identity_of m
unfolding acts
acts-identity v b m = ap (λ (r : Rank). r.identity) (rank-after m.front.frame m.front.server (fronts.happens v b m.front))

place-put : (ms : List Member) (p : ℕ) (m : Member) (a : ℕ) → identity_of m ≡ identity_of (get_or ms p nobody) → place_in (set ms p m) a ≡ place_in ms a
unfolding place_in
place-put [] p m a e = refl
place-put (x ∷ ms) zero m a e = ap (λ (i : ℕ). choose (not (eqb a 0) && eqb i a) 0 (suc (place_in ms a))) e
place-put (x ∷ ms) (suc p) m a e = ap (λ (k : ℕ). choose (not (eqb a 0) && eqb (identity_of x) a) 0 (suc k)) (place-put ms p m a e)

put-new : (ms : List Member) (p : ℕ) (m : Member) → Twin (new_for m) m → Twins (set (set ms p m) p (new_for (get_or (set ms p m) p nobody))) (set ms p m)
put-new [] p m w = none
put-new (x ∷ ms) zero m w = more w (twins_self ms)
put-new (x ∷ ms) (suc p) m w = more (twin_self x) (put-new ms p m w)

-- of a server that was just restarted the same is seen as of a new front
idle_is_new : (f : Front) → (verb_answer Restart 0 f.server).number ≡ 0 → (sent : List Heartbeat) → let m = acts Restart 0 (record { front = f; sent = sent }) in Twin (new_for m) m
unfolding acts after seen is_beating
idle_is_new f e sent =
    let is = restarts 0 f.server e in
    subst (λ (x : Event). let m = behind (record { front = f; sent = sent }) (with_server (after f.frame f.server x) f) x in Twin (new_for m) m) (sym is)
    (record { front = refl; sent = refl })

-- the number of an accepted restart is the server's own
own-accepted : (g : Group) (a : ℕ) → move_number g (entry Restart a 0) ≡ 0 → own_number g Restart a 0 ≡ 0
unfolding move_number entry_number state_number
own-accepted g a e =
    let first = not_first (λ (k : ℕ). k ≡ 0) (names_nobody Restart a 0) e (λ z. omega (arith, z)) in
    on (tested (knows g Restart a 0))
    (λ t. sym (chosen 8 t) ∙ first.1)
    (λ t. absurd (let z : ◌≡◌ {A = ℕ} 8 0 = sym (other _ t) ∙ first.1 in omega (arith, z)))

renewed_twin : (g : Group) (a : ℕ) → move_number g (entry Restart a 0) ≡ 0 → TwinGroups (renewed (moved g (entry Restart a 0)) a) (moved g (entry Restart a 0))
unfolding moved moves_to
renewed_twin g a e =
    let p = place_of g a in
    let m = acts Restart 0 (member_at g p) in
    let ms = set g.members p m in
    let after : Group = record { frame = g.frame; members = ms; whole = g.whole } in
    let is : moved g (entry Restart a 0) ≡ after = chosen g (eq-eqb (move_number g (entry Restart a 0)) 0 e) in
    let same : place_in ms a ≡ p = place-put g.members p m a (acts-identity Restart 0 (member_at g p)) in
    subst (λ (x : Group). TwinGroups (renewed x a) x) (sym is)
    (record {
      frame = refl;
      members =
          subst (λ (i : ℕ). Twins (set ms i (new_for (get_or ms i nobody))) ms) (sym same)
          (put-new g.members p m (idle_is_new (member_at g p).front (own-accepted g a e) (member_at g p).sent));
      whole = refl;
    })

groups_trans : (f g h : Group) → TwinGroups f g → TwinGroups g h → TwinGroups f h
groups_trans f g h v w = record { frame = v.frame ∙ w.frame; members = twins_trans v.members w.members; whole = v.whole ∙ w.whole }

done-same : (g h : Group) → TwinGroups g h → (x : Doing) → TwinGroups (done g x) (moved h (move_of x))
done-same g h w (moves k) = moved_same g h w k
done-same g h w (comes_up a) =
    let k = entry Restart a 0 in
    on (equal (move_number g k) 0)
    (λ e.
    subst (λ (x : Group). TwinGroups x (moved h k)) (sym (chosen (moved g k) (eq-eqb (move_number g k) 0 e)))
    (groups_trans (renewed (moved g k) a) (moved g k) (moved h k) (renewed_twin g a e) (moved_same g h w k)))
    (λ e. subst (λ (x : Group). TwinGroups x (moved h k)) (sym (other (renewed (moved g k) a) (ne_eqb (move_number g k) 0 e))) (moved_same g h w k))

-- ---- lists of doings

pub record GoOn (g h : Group) (xs : List Doing) : Type 0 where
  pub wired : Wired h (map move_of xs)
  pub numbers : done_numbers g xs ≡ group_numbers h (map move_of xs)
  pub lines : done_lines g xs ≡ group_lines h (map move_of xs)
  pub twins : TwinGroups (done_after g xs) (group_after h (map move_of xs))

goes_on_lem : (g h : Group) (xs : List Doing) → TwinGroups g h → DoneWired g xs → GoOn g h xs
unfolding done_after done_numbers done_lines group_after group_numbers group_lines
goes_on_lem g h [] w d = record { wired = wiring.none; numbers = refl; lines = refl; twins = w }
goes_on_lem g h (x ∷ xs) w (again.next r d) =
    let k = move_of x in
    let rest = goes_on_lem (done g x) (moved h k) xs (done-same g h w x) d in
    record {
      wired = wiring.next (wired-same g h w k r) rest.wired;
      numbers = ap₂ (λ (n : ℕ) (l : List ℕ). n ∷ l) (number_same g h w k) rest.numbers;
      lines = ap₂ (λ (a b : List ℕ). a ++ b) (lines_same g h w k) rest.lines;
      twins = rest.twins;
    }

alike-fronts : (f g : Front) → seen_front f ≡ seen_front g → Alike f g
unfolding seen
alike-fronts f g e =
    record {
      frame = ap (λ (x : Front). x.frame) e;
      period = ap (λ (x : Front). x.period) e;
      identity = ap (λ (x : Front). x.server.identity) e;
      priority = ap (λ (x : Front). x.server.priority) e;
      role = ap (λ (x : Front). x.server.role) e;
    }

pub new_fronts_go_on : NewFrontsGoOn
new_fronts_go_on t n xs ok d =
    let g = new_group t n in
    let r = goes_on_lem g g xs (record { frame = refl; members = twins_self g.members; whole = refl }) d in
    record {
      wired = r.wired;
      numbers = r.numbers;
      lines = r.lines;
      fronts = λ i. alike-fronts _ _ (at (done_after g xs) (group_after g (map move_of xs)) r.twins i).front;
      sent = λ i. (at (done_after g xs) (group_after g (map move_of xs)) r.twins i).sent;
      frame = r.twins.frame;
      whole = r.twins.whole;
    }
