-- Demand 3 of a group of fronts, from that of the channel. Assumes nothing.
use mathlib.Core.Bool.{Bool, true, false, not}
use mathlib.Core.Path.{◌≡◌, refl, sym, ap, ap₂, subst, ◌∙◌}
use mathlib.Core.Logic.{inl, inr}
use mathlib.Core.List.{List, [], ◌∷◌}
use Prim.Native.Nat.{ℕ, ◌+◌, ◌<◌, ◌≤◌}
use borrow.Author.Tests.{eqb-true}
use native.Mathlib.Omega.{arith}
use lib.Dec.{eqb}
use lib.ListN.{length, get_or-eq_default}
use Rattle.lists.specs.Choice.{choose}
use Rattle.lists.proofs.Cases.{tested, less, chosen, other, and_true, fst_true, snd_true, on, clash, refuted}
use Rattle.heartbeat.specs.declared.Rank.{Rank}
use Rattle.heartbeat.specs.Rank.{higher}
use Rattle.roles.specs.declared.Role.{Role}
use Rattle.roles.specs.declared.Role.TheVariants.{Backup, Primary}
use Rattle.roles.specs.Roles.{is_active, is_beating}
use Rattle.server.specs.Server.{absent, rank_of}
use Rattle.group.specs.declared.State.{State}
use Rattle.group.specs.Table.{is_empty, fresh}
use Rattle.group.specs.Hearing.{place}
use Rattle.group.specs.Frame.{advanced}
use Rattle.group.specs.Calls.{call_number, call_channel, channel_after}
use Rattle.group.specs.Links.{cut_by_call, cut_after}
use Rattle.traces.proofs.Ways.{beating-active}
use Rattle.reached.proofs.Sound.{Sound, sound-advanced}
use Rattle.reached.proofs.Made.{sound-fresh}
use Rattle.reached.proofs.Reached.{sound-call, sound-after}
use Rattle.settling.specs.Demand.{refused_if_verb, verbs_refused, settling_time, NoneProspectOrPrimary, HighestOfThem, Led, Settles}
use Rattle.settling.proofs.Demand.{settles}
use Rattle.settling.proofs.Chains.{one-frame}
use Rattle.wiring.specs.Members.{Member, nobody}
use Rattle.wiring.specs.Heard.{Group, member_at}
use Rattle.wiring.specs.Group.{Move, frame, entry, moved, group_after, Wired, none, next}
use Rattle.wiring.specs.Same.{group_of, call_of, calls_of}
use Rattle.wiring.specs.Settles.{role_at, cut_by_move, cut_after_moves, refused_if_entry, entries_refused, GroupLed, NoneBeating, HighestInGroup, GroupSettles, GroupsSettle}
use Rattle.wiring.proofs.Inboxes.{member-at, not-vacant}
use Rattle.wiring.proofs.Moves.{move-number, moved-is, agrees, new-group}

-- ---- the roles and ranks of members

-- a member that is active stands in its place, and has the role of its server in the channel
active-seated : (c : State) (i : ℕ) → is_active (role_at (group_of c) i) ≡ true → is_empty (place c i) ≡ false
unfolding is_active
active-seated c i a = refuted (is_empty (place c i)) (λ e. clash a (ap (λ (m : Member). is_active m.front.server.role) (member-at c i ∙ chosen _ e)))

active-role : (c : State) (i : ℕ) → is_active (role_at (group_of c) i) ≡ true → role_at (group_of c) i ≡ (place c i).role
active-role c i a = ap (λ (m : Member). m.front.server.role) (member-at c i ∙ other nobody (active-seated c i a))

active-there : (c : State) (i : ℕ) → is_active (role_at (group_of c) i) ≡ true → is_active (place c i).role ≡ true
active-there c i a = ap is_active (sym (active-role c i a)) ∙ a

-- and the other way round
seated : (c : State) → Sound c → (i : ℕ) → i < 16 → is_active (place c i).role ≡ true → is_empty (place c i) ≡ false
seated c sound i l a = refuted (is_empty (place c i)) (λ e. sound.seated i l a (eqb-true (place c i).identity 0 e))

seated-role : (c : State) → Sound c → (i : ℕ) → i < 16 → is_active (place c i).role ≡ true → role_at (group_of c) i ≡ (place c i).role
seated-role c sound i l a = ap (λ (m : Member). m.front.server.role) (member-at c i ∙ other nobody (seated c sound i l a))

rank-at : (c : State) (i : ℕ) → is_empty (place c i) ≡ false → rank_of (member_at (group_of c) i).front.server ≡ rank_of (place c i)
rank-at c i e = ap (λ (m : Member). rank_of m.front.server) (member-at c i ∙ other nobody e)

-- ---- what is said of moves is said of their calls

refused-verbs : (c : State) (ks : List Move) → Sound c → Wired (group_of c) ks → entries_refused (group_of c) ks ≡ true → verbs_refused c (calls_of c ks) ≡ true
unfolding entries_refused verbs_refused calls_of
refused-verbs c [] sound w e = refl
refused-verbs c (k ∷ ks) sound (next w ws) e =
    let step = moved-is c k sound w in
    and_true (one k (fst_true (refused_if_entry (group_of c) k) (entries_refused (moved (group_of c) k) ks) e))
    (refused-verbs (call_channel c (call_of c k)) ks (sound-call c (call_of c k) sound) (subst (λ (g : Group). Wired g ks) step ws)
    (ap (λ (g : Group). entries_refused g ks) (sym step) ∙ snd_true (refused_if_entry (group_of c) k) (entries_refused (moved (group_of c) k) ks) e))
  where
    one : (k : Move) → refused_if_entry (group_of c) k ≡ true → refused_if_verb c (call_of c k) ≡ true
    one (frame hear) f = other _ refl
    one (entry v a b) f = chosen true refl ∙ ap (λ (n : ℕ). not (eqb n 0)) (sym (move-number c (entry v a b))) ∙ f

cuts : (a b : ℕ) (c : State) (ks : List Move) (was : Bool) → Sound c → Wired (group_of c) ks → cut_after_moves a b (group_of c) ks was ≡ cut_after a b c (calls_of c ks) was
unfolding cut_after_moves cut_after calls_of cut_by_move cut_by_call
cuts a b c [] was sound w = refl
cuts a b c (k ∷ ks) was sound (next w ws) =
    let step = moved-is c k sound w in
    let then = choose (eqb (call_number c (call_of c k)) 0) (cut_by_call a b (call_of c k) was) was in
    ap₂ (λ (g : Group) (t : Bool). cut_after_moves a b g ks t) step (ap₂ (λ (n : ℕ) (t : Bool). choose (eqb n 0) t was) (move-number c k) (one k))
    ∙ cuts a b (call_channel c (call_of c k)) ks then (sound-call c (call_of c k) sound) (subst (λ (g : Group). Wired g ks) step ws)
  where
    one : (k : Move) → cut_by_move a b k was ≡ cut_by_call a b (call_of c k) was
    one (frame hear) = refl
    one (entry v x y) = refl

-- ---- settled

active-by : (r s : Role) → is_active s ≡ true → r ≡ s → is_active r ≡ true
active-by r s a e = ap is_active e ∙ a

is-active : (is_active Primary ≡ true) × (is_active Backup ≡ true)
unfolding is_active
is-active = (refl, refl)

-- places keep the ranks of their servers
ranks-at : (c d : State) (i : ℕ) → rank_of (place d i) ≡ rank_of (place c i) → rank_of (member_at (group_of d) i).front.server ≡ rank_of (member_at (group_of c) i).front.server
ranks-at c d i e =
    let same : is_empty (place d i) ≡ is_empty (place c i) = ap (λ (r : Rank). eqb r.identity 0) e in
    on (tested (is_empty (place c i)))
    (λ q.
    ap (λ (m : Member). rank_of m.front.server) (member-at d i ∙ chosen _ (same ∙ q))
    ∙ sym (ap (λ (m : Member). rank_of m.front.server) (member-at c i ∙ chosen _ q)))
    (λ q. rank-at d i (same ∙ q) ∙ e ∙ sym (rank-at c i q))

-- beyond the places there is nobody
ranks-beyond : (c d : State) (i : ℕ) → length c.servers ≤ i → length d.servers ≤ i → rank_of (member_at (group_of d) i).front.server ≡ rank_of (member_at (group_of c) i).front.server
ranks-beyond c d i h l = ranks-at c d i (ap rank_of (get_or-eq_default d.servers absent l ∙ sym (get_or-eq_default c.servers absent h)))

led-group : (c d : State) (h : ℕ) → h < 16 → Sound c → Sound d → Led c h d → GroupLed (group_of c) h (group_of d)
led-group c d h l sc sound led =
    record {
      primary = seated-role d sound h l (active-by _ Primary is-active.0 led.primary) ∙ led.primary;
      alone = λ i q e. led.alone i q (sym (active-role d i (active-by _ Primary is-active.0 e)) ∙ e);
      backups = λ i q n a.
          let b = led.backups i q n (active-there c i a) in seated-role d sound i q (active-by _ Backup is-active.1 b) ∙ b;
      ranks = λ i. on (less i 16) (λ q. ranks-at c d i (led.ranks i q)) (λ q. ranks-beyond c d i (omega (arith, q, sc.long)) (omega (arith, q, sound.long)));
    }

none-beating : (c : State) → Sound c → NoneBeating (group_of c) → NoneProspectOrPrimary c
none-beating c sound f i l =
    refuted (is_beating (place c i).role)
    (λ e. clash (ap is_beating (seated-role c sound i l (beating-active (place c i).role e)) ∙ e) (f i l))

highest-group : (c : State) (h : ℕ) → is_empty (place c h) ≡ false → HighestOfThem c h → HighestInGroup (group_of c) h
highest-group c h e highest i l a =
    on (highest i l (active-there c i a))
    (λ q. inl q)
    (λ q. inr (ap₂ higher (rank-at c h e) (rank-at c i (active-seated c i a)) ∙ q))

settles-of : (n : ℕ) (c : State) → Sound c → Settles n c → GroupSettles n (group_of c)
settles-of n c sound s =
    let h = s.server in
    let here = seated c sound h s.known s.was in
    record {
      server = h;
      seated = record { place = s.known; server = not-vacant c h here };
      was = active-by _ _ s.was (seated-role c sound h s.known s.was);
      led = λ ms w e late.
          let r = agrees c ms sound w in
          let d = channel_after c (calls_of c ms) in
          subst (GroupLed (group_of c) h) (sym r.group)
          (led-group c d h s.known sound (sound-after c (calls_of c ms) sound)
          (s.led (calls_of c ms) (refused-verbs c ms sound w e) (subst (λ (g : Group). c.frame + n ≤ g.frame) r.group late)));
      highest = λ ms w e one none.
          let r = agrees c ms sound w in
          let d = channel_after c (calls_of c ms) in
          let is : d ≡ advanced c = one-frame c (calls_of c ms) (refused-verbs c ms sound w e) (sym (ap (λ (g : Group). g.frame) r.group) ∙ one) in
          highest-group c h here
          (s.highest (none-beating (advanced c) (sound-advanced c sound) (subst NoneBeating (r.group ∙ ap group_of is) none)));
    }

pub groups_settle : GroupsSettle
groups_settle t n ks ok w uncut i l a =
    let c = fresh t n in
    let begun = sound-fresh t n ok in
    let new = new-group t n in
    let wired = subst (λ (g : Group). Wired g ks) new w in
    let r = ap (λ (g : Group). group_after g ks) new ∙ (agrees c ks begun wired).group in
    let d = channel_after c (calls_of c ks) in
    let none-cut : (x y : ℕ) → cut_after x y c (calls_of c ks) false ≡ false = λ x y. sym (cuts x y c ks false begun wired) ∙ ap (λ (g : Group). cut_after_moves x y g ks false) (sym new) ∙ uncut x y in
    subst (GroupSettles (settling_time n)) (sym r)
    (settles-of (settling_time n) d (sound-after c (calls_of c ks) begun)
    (settles n t (calls_of c ks) ok none-cut i l (active-there d i (subst (λ (g : Group). is_active (role_at g i) ≡ true) r a))))
