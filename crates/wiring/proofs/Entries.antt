-- An entry of the group is that of the channel. Assumes nothing.
use mathlib.Core.Bool.{Bool, true, false, not, ◌&&◌, ◌||◌}
use mathlib.Core.Path.{◌≡◌, refl, sym, ap, ap₂, ◌∙◌}
use mathlib.Core.List.{List, [], ◌∷◌, ◌++◌, map}
use Prim.Native.Nat.{ℕ, zero, suc}
use borrow.Author.Tests.{eq-eqb, ne_eqb, eqb-true}
use lib.Dec.{eqb, ltb}
use lib.ListN.{get_or, set}
use Rattle.lists.specs.Choice.{choose}
use Rattle.lists.specs.Lists.{index_where}
use Rattle.lists.proofs.Cases.{tested, equal, chosen, other, same_choice, snd_true, on, clash}
use Rattle.refusal.specs.Answer.{Answer, refused}
use Rattle.heartbeat.specs.declared.Rank.{Rank}
use Rattle.roles.specs.declared.Event.{Event}
use Rattle.roles.specs.declared.Event.TheVariants.{Nothing}
use Rattle.roles.specs.declared.Verb.{Verb}
use Rattle.roles.specs.declared.Verb.TheVariants.{Start, Ready, Unready, Pass, Crash, Restart, Cut, Mend}
use Rattle.server.specs.declared.Server.{Server}
use Rattle.server.specs.Server.{absent, after}
use Rattle.roles.specs.Verbs.{paired, verb_event, verb_happens}
use Rattle.server.specs.Verbs.{verb_answer}
use Rattle.roles.specs.Words.{said}
use Rattle.lines.specs.Lines.{lines_of}
use Rattle.front.specs.Front as front
use Rattle.group.specs.declared.State.{State}
use Rattle.group.specs.Table as table
use Rattle.group.specs.Table.{is_empty, named}
use Rattle.group.specs.Hearing.{place, whole, link_of}
use Rattle.group.specs.Verbs as verbs
use Rattle.group.specs.Verbs.{names_nobody, known, state_refusal, verb_refusal, happens, links_after, did, verb_outcome}
use Rattle.group.proofs.Laws.{rank-after}
use Rattle.reached.proofs.Reached.{absent-still}
use Rattle.reached.proofs.Sound.{Sound}
use Rattle.settling.proofs.Sending.{in_order}
use Rattle.wiring.specs.Members.{Member, nobody, acts, acts_lines}
use Rattle.wiring.specs.Heard.{member_at}
use Rattle.wiring.specs.Group.{place_in, place_of, knows, state_number, entry_number, members_then, entered, entry_lines}
use Rattle.wiring.specs.Same.{member_of, group_of}
use Rattle.wiring.proofs.Inboxes.{member-at, identity-of}
use Rattle.wiring.proofs.Members.{holds-behind}

-- ---- places

place_in_lem : (c : State) (l : List Server) (a : ℕ) → place_in (map (member_of c) l) a ≡ table.place_in l a
unfolding place_in table.place_in
place_in_lem c [] a = refl
place_in_lem c (s ∷ l) a =
    ap₂ (λ (t : Bool) (n : ℕ). choose t 0 (suc n)) (ap (λ (n : ℕ). not (eqb a 0) && eqb n a) (identity-of c s)) (place_in_lem c l a)

pub place-of : (c : State) (a : ℕ) → place_of (group_of c) a ≡ verbs.place_of c a
place-of c a = place_in_lem c c.servers a

-- who stands in the place of an identity has it
named-there : (l : List Server) (a : ℕ) → is_empty (get_or l (table.place_in l a) absent) ≡ false → (get_or l (table.place_in l a) absent).identity ≡ a
unfolding table.place_in
named-there [] a e = absurd (clash refl e)
named-there (s ∷ l) a e =
    on (tested (named a s))
    (λ t.
    let z : ◌≡◌ {A = ℕ} (choose (named a s) 0 (suc (index_where (named a) l))) 0 = chosen (suc (index_where (named a) l)) t in
    ap (λ (n : ℕ). (get_or (s ∷ l) n absent).identity) z ∙ eqb-true s.identity a (snd_true (not (eqb a 0)) (eqb s.identity a) t))
    (λ t.
    let z : choose (named a s) 0 (suc (index_where (named a) l)) ≡ suc (index_where (named a) l) = other 0 t in
    ap (λ (n : ℕ). (get_or (s ∷ l) n absent).identity) z ∙ named-there l a (ap (λ (n : ℕ). is_empty (get_or (s ∷ l) n absent)) (sym z) ∙ e))

-- ---- numbers

absent-answer : (v : Verb) (b : ℕ) (s : Server) → s.identity ≡ 0 → verb_answer v b s ≡ refused 2
unfolding verb_answer
absent-answer v b s z = chosen _ (ap (λ (t : Bool). t || (paired v && eqb b 0)) (eq-eqb s.identity 0 z))

own-answer : (c : State) (v : Verb) (b : ℕ) (s : Server) → verb_answer v b (member_of c s).front.server ≡ verb_answer v b s
own-answer c v b s =
    on (equal s.identity 0)
    (λ z. absent-answer v b (member_of c s).front.server (identity-of c s ∙ z) ∙ sym (absent-answer v b s z))
    (λ z. ap (λ (m : Member). verb_answer v b m.front.server) (other nobody (ne_eqb s.identity 0 z)))

module _ (c : State) (a b : ℕ) where
  abbrev p : ℕ
  p = verbs.place_of c a

  own-number : (v : Verb) → (verb_answer v b (member_at (group_of c) (place_of (group_of c) a)).front.server).number ≡ (verb_answer v b (place c p)).number
  own-number v =
      ap (λ (n : ℕ). (verb_answer v b (member_at (group_of c) n).front.server).number) (place-of c a)
      ∙ ap (λ (m : Member). (verb_answer v b m.front.server).number) (member-at c p)
      ∙ ap (λ (x : Answer). x.number) (own-answer c v b (place c p))

  link-number : (x y : ℕ) → choose (get_or c.whole (link_of (place_of (group_of c) a) (place_of (group_of c) b)) false) x y ≡ choose (verbs.link_whole c a b) x y
  link-number x y = ap₂ (λ (i j : ℕ). choose (whole c i j) x y) (place-of c a) (place-of c b)

  state-number : (v : Verb) → state_number (group_of c) v a b ≡ state_refusal c v a b
  unfolding state_number state_refusal
  state-number Start = own-number Start
  state-number Ready = own-number Ready
  state-number Unready = own-number Unready
  state-number Pass = own-number Pass
  state-number Crash = own-number Crash
  state-number Restart = own-number Restart
  state-number Cut = link-number 0 15
  state-number Mend = link-number 15 0

  pub knows-is : (v : Verb) → knows (group_of c) v a b ≡ known c v a b
  unfolding knows known
  knows-is v = ap₂ (λ (i j : ℕ). ltb i 16 && choose (paired v) (ltb j 16 && not (eqb a b)) true) (place-of c a) (place-of c b)

  pub entry-number : (v : Verb) → entry_number (group_of c) v a b ≡ verb_refusal c v a b
  unfolding entry_number verb_refusal
  entry-number v = ap₂ (λ (t : Bool) (n : ℕ). choose (names_nobody v a b) 2 (choose t n 8)) (knows-is v) (state-number v)

-- ---- what an entry does

map-set : (c : State) (l : List Server) (i : ℕ) (s : Server) → map (member_of c) (set l i s) ≡ set (map (member_of c) l) i (member_of c s)
map-set c [] i s = refl
map-set c (x ∷ l) zero s = refl
map-set c (x ∷ l) (suc i) s = ap (λ (r : List Member). member_of c x ∷ r) (map-set c l i s)

set_same : (l : List Server) (i : ℕ) → set l i (get_or l i absent) ≡ l
set_same [] i = refl
set_same (x ∷ l) zero = refl
set_same (x ∷ l) (suc i) = ap (λ (r : List Server). x ∷ r) (set_same l i)

link-nothing : (v : Verb) (b : ℕ) (x : Answer) → ((k : ℕ) → verb_event v b k ≡ Nothing) → verb_happens v b x ≡ Nothing
unfolding verb_happens
link-nothing v b x f = ap (λ (e : Event). choose (eqb x.number 0) e Nothing) (f _) ∙ same_choice (eqb x.number 0) Nothing

module _ (c : State) (sound : Sound c) (v : Verb) (a b : ℕ) where
  abbrev at : ℕ
  at = verbs.place_of c a

  abbrev was : Server
  was = place c at

  abbrev then : Server
  then = after c.frame was (happens c v a b)

  seated-acts : is_empty was ≡ false → acts v b (member_of c was) ≡ member_of c then
  unfolding acts
  seated-acts e =
      ap (acts v b) (other nobody e)
      ∙ holds-behind c.frame c.period was then (happens c v a b) was refl ((in_order c sound).verbs v a b) (rank-after c.frame was (happens c v a b))
      ∙ sym (other nobody (ap (λ (r : Rank). eqb r.identity 0) (rank-after c.frame was (happens c v a b)) ∙ e))

  empty-acts : is_empty was ≡ true → acts v b (member_of c was) ≡ member_of c then
  unfolding acts after
  empty-acts e =
      let z = eqb-true was.identity 0 e in
      ap (acts v b) (chosen _ e)
      ∙ ap (λ (x : Event). record { front = front.with_server (after 0 absent x) nobody.front; sent = [] ++ Rattle.settling.specs.Sending.sends (after 0 absent x) x }) (absent-still v b absent refl)
      ∙ sym (chosen _ (ap (λ (r : Rank). eqb r.identity 0) (rank-after c.frame was (happens c v a b)) ∙ e))

  acts-is : acts v b (member_of c was) ≡ member_of c then
  acts-is = on (tested (is_empty was)) empty-acts seated-acts

  -- the acting member's place
  member-acts : set (map (member_of c) c.servers) (place_of (group_of c) a) (acts v b (member_at (group_of c) (place_of (group_of c) a))) ≡ map (member_of c) (set c.servers at then)
  member-acts =
      ap (λ (n : ℕ). set (map (member_of c) c.servers) n (acts v b (member_at (group_of c) n))) (place-of c a)
      ∙ ap (λ (m : Member). set (map (member_of c) c.servers) at (acts v b m)) (member-at c at)
      ∙ ap (set (map (member_of c) c.servers) at) acts-is
      ∙ sym (map-set c c.servers at then)

  -- the lines of the acting member
  own-lines : acts_lines v b (member_at (group_of c) (place_of (group_of c) a)).front ≡ lines_of c.frame a (said (happens c v a b))
  unfolding acts_lines lines_of
  own-lines =
      ap (λ (n : ℕ). acts_lines v b (member_at (group_of c) n).front) (place-of c a)
      ∙ ap (λ (m : Member). acts_lines v b m.front) (member-at c at)
      ∙ on (tested (is_empty was))
      (λ e.
      ap (λ (m : Member). acts_lines v b m.front) (chosen _ e)
      ∙ ap (λ (x : Event). lines_of 0 0 (said x)) (absent-still v b absent refl)
      ∙ sym (ap (λ (x : Event). lines_of c.frame a (said x)) (absent-still v b was (eqb-true was.identity 0 e))))
      (λ e.
      ap (λ (m : Member). acts_lines v b m.front) (other nobody e)
      ∙ ap (λ (n : ℕ). lines_of c.frame n (said (happens c v a b))) (named-there c.servers a e))

-- cut and mend do nothing to a server
link_stays : (c : State) (v : Verb) (a b : ℕ) → happens c v a b ≡ Nothing → map (member_of c) c.servers ≡ map (member_of c) (set c.servers (verbs.place_of c a) (after c.frame (place c (verbs.place_of c a)) (happens c v a b)))
unfolding after
link_stays c v a b e =
    ap (map (member_of c))
    (sym (ap (λ (x : Event). set c.servers (verbs.place_of c a) (after c.frame (place c (verbs.place_of c a)) x)) e ∙ set_same c.servers (verbs.place_of c a)))

module _ (c : State) (sound : Sound c) (a b : ℕ) where
  members-then : (v : Verb) → members_then v (place_of (group_of c) a) b (group_of c).members ≡ map (member_of c) (set c.servers (verbs.place_of c a) (after c.frame (place c (verbs.place_of c a)) (happens c v a b)))
  members-then Start = member-acts c sound Start a b
  members-then Ready = member-acts c sound Ready a b
  members-then Unready = member-acts c sound Unready a b
  members-then Pass = member-acts c sound Pass a b
  members-then Crash = member-acts c sound Crash a b
  members-then Restart = member-acts c sound Restart a b
  members-then Cut = link_stays c Cut a b (link-nothing Cut b _ (λ k. refl))
  members-then Mend = link_stays c Mend a b (link-nothing Mend b _ (λ k. refl))

  pub entered-is : (v : Verb) → entered (group_of c) v a b ≡ group_of (did c v a b)
  unfolding did
  entered-is v =
      ap₂ (λ (l : List Member) (w : List Bool). record { frame = c.frame; members = l; whole = w }) (members-then v)
      (ap₂ (λ (i j : ℕ). links_after v (link_of i j) c.whole) (place-of c a) (place-of c b))

  pub entry-lines : (v : Verb) → entry_lines (group_of c) v a b ≡ (verb_outcome c v a b).lines
  entry-lines Start = own-lines c sound Start a b
  entry-lines Ready = own-lines c sound Ready a b
  entry-lines Unready = own-lines c sound Unready a b
  entry-lines Pass = own-lines c sound Pass a b
  entry-lines Crash = own-lines c sound Crash a b
  entry-lines Restart = own-lines c sound Restart a b
  entry-lines Cut = refl
  entry-lines Mend = refl
