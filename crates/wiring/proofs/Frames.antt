-- A frame of the group is a frame of the channel. Assumes nothing.
use mathlib.Core.Bool.{true, false}
use mathlib.Core.Path.{◌≡◌, refl, sym, ap, ap₂, subst, ◌∙◌}
use mathlib.Core.List.{List, [], ◌∷◌, ◌++◌, map}
use Prim.Native.Nat.{ℕ, suc, ◌+◌, ◌<◌}
use native.Mathlib.Omega.{arith}
use borrow.Author.Tests.{eqb-true}
use lib.Dec.{eqb}
use lib.ListN.{length, get_or}
use Rattle.lists.specs.Choice.{choose}
use Rattle.lists.specs.Lists.{map_from}
use Rattle.lists.proofs.Cases.{tested, chosen, other, on}
use Rattle.heartbeat.specs.declared.Heartbeat.{Heartbeat}
use Rattle.server.specs.declared.Server.{Server}
use Rattle.server.specs.Server.{absent}
use Rattle.group.specs.declared.State.{State}
use Rattle.group.specs.Table.{is_empty}
use Rattle.group.specs.Hearing.{place, inbox}
use Rattle.group.specs.Frame as frames
use Rattle.group.specs.Frame.{turned, turn_lines, turns_lines, advanced}
use Rattle.roles.specs.Roles.{is_active}
use Rattle.reached.proofs.Sound.{Sound}
use Rattle.wiring.specs.Members.{Member, nobody, frame_of, frame_lines}
use Rattle.wiring.specs.Heard.{is_vacant, Heard}
use Rattle.wiring.specs.Group.{turn, framed, lines_each, MustHear}
use Rattle.wiring.specs.Same.{member_of, group_of}
use Rattle.wiring.proofs.Inboxes.{member-at, identity-of, not-vacant, heard-inbox}
use Rattle.wiring.proofs.Members.{frame_is, lines_are, quiet-lines, identity-turned, frame-rests}

module _ (c : State) (sound : Sound c) (hear : ℕ → List Heartbeat) (wired : (j : ℕ) → MustHear (group_of c) j → Heard (group_of c) j (hear j)) where
  abbrev now : ℕ
  now = c.frame + 1

  abbrev Turns : ℕ → Server → Type 0
  Turns i s = (turn hear i (member_of c s) ≡ member_of (advanced c) (turned c now i s)) × (choose (is_vacant (member_of c s)) [] (frame_lines (member_of c s) (hear i)) ≡ turn_lines c now i s)

  -- whatever a server that rests hears, and what one must that does not: the frame is that of its
  -- inbox
  as_inbox : (i : ℕ) → i < 16 → is_empty (place c i) ≡ false → let m = member_of c (place c i) in (frame_of m (hear i) ≡ frame_of m (inbox c i)) × (frame_lines m (hear i) ≡ frame_lines m (inbox c i))
  as_inbox i l e =
      let s = place c i in
      let role = ap (λ (m : Member). is_active m.front.server.role) (other nobody e) in
      on (tested (is_active s.role))
      (λ a.
      let heard = wired i (record { place = l; server = not-vacant c i e }, ap (λ (m : Member). is_active m.front.server.role) (member-at c i) ∙ role ∙ a) in
      let same : hear i ≡ inbox c i = heard-inbox c sound i (hear i) heard in
      (ap (frame_of (member_of c s)) same, ap (frame_lines (member_of c s)) same))
      (λ a. frame-rests (member_of c s) (hear i) (inbox c i) (role ∙ a))

  -- a place with a server
  seated-turns : (i : ℕ) → i < 16 → is_empty (place c i) ≡ false → Turns i (place c i)
  seated-turns i l e =
      let s = place c i in
      let here : is_vacant (member_of c s) ≡ false = ap (λ (n : ℕ). eqb n 0) (identity-of c s) ∙ e in
      let same = as_inbox i l e in (
        other (member_of c s) here ∙ same.0 ∙ frame_is c sound i l e,
        other [] here ∙ same.1 ∙ lines_are c sound i l e,
      )

  -- and one without
  empty-turns : (i : ℕ) → i < 16 → is_empty (place c i) ≡ true → Turns i (place c i)
  empty-turns i l e =
      let s = place c i in
      let nobody-there : is_vacant (member_of c s) ≡ true = ap (λ (n : ℕ). eqb n 0) (identity-of c s) ∙ e in
      let rests : is_active s.role ≡ false =
      on (tested (is_active s.role)) (λ a. absurd (sound.seated i l a (eqb-true s.identity 0 e))) (λ a. a) in (
        chosen (frame_of (member_of c s) (hear i)) nobody-there
            ∙ chosen _ e
            ∙ sym (chosen _ (ap (λ (n : ℕ). eqb n 0) (identity-turned c now i s) ∙ e)),
        chosen (frame_lines (member_of c s) (hear i)) nobody-there ∙ sym (quiet-lines c now i s rests),
      )

  turns : (i : ℕ) → i < 16 → Turns i (place c i)
  turns i l = on (tested (is_empty (place c i))) (empty-turns i l) (seated-turns i l)

  -- all places, the first being k
  each-turns :
      (k : ℕ) (l : List Server) → ((i : ℕ) → i < length l → Turns (k + i) (get_or l i absent)) →
      (map_from k (turn hear) (map (member_of c) l) ≡ map (member_of (advanced c)) (map_from k (turned c now) l)) × (lines_each hear k (map (member_of c) l) ≡ turns_lines c now k l)
  unfolding lines_each turns_lines
  each-turns k [] f = (refl, refl)
  each-turns k (s ∷ l) f =
      let z : k + 0 ≡ k = omega arith in
      let here = subst (λ (n : ℕ). Turns n s) z (f 0 (omega arith)) in
      let more =
      each-turns (suc k) l (λ i h. let q : k + suc i ≡ suc k + i = omega arith in subst (λ (n : ℕ). Turns n (get_or l i absent)) q (f (suc i) (omega arith))) in (
        ap₂ (λ (x : Member) (y : List Member). x ∷ y) here.0 more.0,
        ap₂ (λ (x y : List ℕ). x ++ y) here.1 more.1,
      )

  all-turn : (map_from 0 (turn hear) (map (member_of c) c.servers) ≡ map (member_of (advanced c)) (map_from 0 (turned c now) c.servers)) × (lines_each hear 0 (map (member_of c) c.servers) ≡ turns_lines c now 0 c.servers)
  all-turn =
      each-turns 0 c.servers
      (λ i h. let q : i ≡ 0 + i = omega arith in let e = sound.long in subst (λ (n : ℕ). Turns n (place c i)) q (turns i (omega (arith, e, h))))

  pub framed_is : framed hear (group_of c) ≡ group_of (advanced c)
  unfolding framed advanced
  framed_is = ap (λ (l : List Member). record { frame = now; members = l; whole = c.whole }) all-turn.0

  pub frame-lines : lines_each hear 0 (group_of c).members ≡ frames.frame_lines c
  unfolding frames.frame_lines
  frame-lines = all-turn.1
