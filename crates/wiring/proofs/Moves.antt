-- A group of fronts that is wired by the protocol is the channel. Assumes nothing.
use mathlib.Core.Bool.{true}
use mathlib.Core.Path.{◌≡◌, refl, sym, ap, ap₂, subst, ◌∙◌}
use mathlib.Core.List.{List, [], ◌∷◌, ◌++◌, map}
use Prim.Native.Nat.{ℕ, ◌+◌, ◌*◌}
use native.Mathlib.Omega.{arith}
use borrow.Author.Tests.{eq-eqb, ne_eqb, le-leb}
use lib.Dec.{eqb}
use lib.ListN.{length, replicate}
use Rattle.lists.specs.Choice.{choose}
use Rattle.lists.proofs.Cases.{tested, equal, chosen, other, on}
use Rattle.timecode.specs.Read.{in_day}
use Rattle.server.specs.declared.Server.{Server}
use Rattle.server.specs.Server.{absent, sent_by}
use Rattle.group.specs.declared.Table.{Table}
use Rattle.group.specs.declared.State.{State}
use Rattle.group.specs.Table.{most, is_empty, anew, fresh_refusal, fresh}
use Rattle.group.specs.Outcome.{Outcome, number_in, channel_in}
use Rattle.group.specs.Calls.{outcome_of, call_number, call_channel, channel_after, numbers_of}
use Rattle.group.specs.Laws.{call_lines, lines_after}
use Rattle.reached.proofs.Sound.{Sound}
use Rattle.reached.proofs.Made.{sound-fresh}
use Rattle.reached.proofs.Reached.{sound-call}
use Rattle.wiring.specs.Members.{Member, nobody}
use Rattle.wiring.specs.Heard.{Group}
use Rattle.wiring.specs.Group.{new_member, new_group, Move, frame, entry, move_number, moves_to, move_lines, moved, group_after, group_numbers, group_lines, WiredIn, Wired, next}
use Rattle.wiring.specs.Same.{member_of, group_of, call_of, calls_of, Agrees, OneSheet}
use Rattle.wiring.proofs.Frames.{framed_is, frame-lines}
use Rattle.wiring.proofs.Entries.{entry-number, entered-is, entry-lines}

-- a slice that is just long enough never gets 9
pub exact : (o : Outcome) → number_in o (length o.lines) ≡ o.number
unfolding number_in
exact o =
    on (equal o.number 0)
    (λ e. chosen o.number (eq-eqb o.number 0 e) ∙ chosen 9 (le-leb (length o.lines) (length o.lines) (omega arith)) ∙ sym e)
    (λ e. other _ (ne_eqb o.number 0 e))

call-number : (c : State) (k : Move) → call_number c (call_of c k) ≡ (outcome_of c (call_of c k)).number
unfolding call_number
call-number c (frame hear) = exact (outcome_of c (call_of c (frame hear)))
call-number c (entry v a b) = exact (outcome_of c (call_of c (entry v a b)))

pub move-number : (c : State) (k : Move) → move_number (group_of c) k ≡ call_number c (call_of c k)
unfolding move_number
move-number c (frame hear) = sym (call-number c (frame hear))
move-number c (entry v a b) = entry-number c a b v ∙ sym (call-number c (entry v a b))

-- a move that is taken
moves-to : (c : State) (k : Move) → Sound c → WiredIn (group_of c) k → move_number (group_of c) k ≡ 0 → (moves_to (group_of c) k ≡ group_of (outcome_of c (call_of c k)).channel) × (move_lines (group_of c) k ≡ call_lines c (call_of c k))
unfolding moves_to move_lines move_number
moves-to c (frame hear) sound w e =
    let day : in_day (c.frame + 1) ≡ true =
    on (tested (in_day (c.frame + 1))) (λ t. t) (λ t. absurd (let q : ◌≡◌ {A = ℕ} 16 0 = sym (other 0 t) ∙ e in omega (arith, q))) in
    (framed_is c sound hear (w day), frame-lines c sound hear (w day))
moves-to c (entry v a b) sound w e = (entered-is c sound a b v, entry-lines c sound a b v)

module _ (c : State) (k : Move) (sound : Sound c) (w : WiredIn (group_of c) k) where
  pub moved-is : moved (group_of c) k ≡ group_of (call_channel c (call_of c k))
  unfolding moved call_channel channel_in call_number
  moved-is =
      let n = move-number c k in
      on (equal (move_number (group_of c) k) 0)
      (λ e.
      chosen (group_of c) (eq-eqb (move_number (group_of c) k) 0 e)
      ∙ (moves-to c k sound w e).0
      ∙ ap group_of (sym (chosen c (eq-eqb (call_number c (call_of c k)) 0 (sym n ∙ e)))))
      (λ e.
      other (moves_to (group_of c) k) (ne_eqb (move_number (group_of c) k) 0 e)
      ∙ ap group_of (sym (other (outcome_of c (call_of c k)).channel (ne_eqb (call_number c (call_of c k)) 0 (λ z. e (n ∙ z))))))

  moved_lines : choose (eqb (move_number (group_of c) k) 0) (move_lines (group_of c) k) [] ≡ choose (eqb (call_number c (call_of c k)) 0) (call_lines c (call_of c k)) []
  moved_lines =
      let n = move-number c k in
      on (equal (move_number (group_of c) k) 0)
      (λ e.
      chosen [] (eq-eqb (move_number (group_of c) k) 0 e)
      ∙ (moves-to c k sound w e).1
      ∙ sym (chosen [] (eq-eqb (call_number c (call_of c k)) 0 (sym n ∙ e))))
      (λ e.
      other (move_lines (group_of c) k) (ne_eqb (move_number (group_of c) k) 0 e)
      ∙ sym (other (call_lines c (call_of c k)) (ne_eqb (call_number c (call_of c k)) 0 (λ z. e (n ∙ z)))))

pub agrees : (c : State) (ks : List Move) → Sound c → Wired (group_of c) ks → Agrees c (group_of c) ks
unfolding group_after group_numbers group_lines channel_after numbers_of lines_after calls_of
agrees c [] sound w = record { group = refl; numbers = refl; lines = refl }
agrees c (k ∷ ks) sound (next w ws) =
    let d = call_channel c (call_of c k) in
    let step = moved-is c k sound w in
    let more = agrees d ks (sound-call c (call_of c k) sound) (subst (λ (g : Group). Wired g ks) step ws) in
    record {
      group = ap (λ (g : Group). group_after g ks) step ∙ more.group;
      numbers =
          ap₂ (λ (n : ℕ) (l : List ℕ). n ∷ l) (move-number c k) (ap (λ (g : Group). group_numbers g ks) step ∙ more.numbers);
      lines =
          ap₂ (λ (x y : List ℕ). x ++ y) (moved_lines c k sound w) (ap (λ (g : Group). group_lines g ks) step ∙ more.lines);
    }

-- ---- the group of new fronts

new-member : (t : Table) (n : ℕ) (s : Server) → new_member n s ≡ member_of (fresh t n) (anew s)
unfolding new_member anew sent_by choose
new-member t n s =
    on (tested (is_empty s))
    (λ e. chosen _ e ∙ sym (ap (member_of (fresh t n)) (chosen _ e)))
    (λ e. other nobody e ∙ sym (ap (member_of (fresh t n)) (other absent e) ∙ other nobody e))

new-members : (t : Table) (n : ℕ) (l : List Server) → map (new_member n) l ≡ map (member_of (fresh t n)) (map anew l)
new-members t n [] = refl
new-members t n (s ∷ l) = ap₂ (λ (m : Member) (ms : List Member). m ∷ ms) (new-member t n s) (new-members t n l)

pub new-group : (t : Table) (n : ℕ) → new_group t n ≡ group_of (fresh t n)
new-group t n = ap (λ (ms : List Member). record { frame = 0; members = ms; whole = replicate (most * most) true }) (new-members t n t.servers)

pub new-agrees : (t : Table) (n : ℕ) (ks : List Move) → fresh_refusal t n ≡ 0 → Wired (new_group t n) ks → Agrees (fresh t n) (new_group t n) ks
new-agrees t n ks ok w =
    let e = new-group t n in
    subst (λ (g : Group). Agrees (fresh t n) g ks) (sym e) (agrees (fresh t n) ks (sound-fresh t n ok) (subst (λ (g : Group). Wired g ks) e w))

pub one-sheet : OneSheet
one-sheet = new-agrees
