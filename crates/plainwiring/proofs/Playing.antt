-- Every move of a group of plain fronts has an outcome, since every call answers. Assumes nothing.
use mathlib.Core.Bool.{true, false, ◌&&◌}
use mathlib.Core.Path.{◌≡◌, refl, sym, ap, ap₂, subst, fun_ext, ◌∙◌}
use mathlib.Core.Logic.{◌⊎◌, inl, inr}
use mathlib.Core.List.{List, [], ◌∷◌, map}
use Prim.Native.Nat.{ℕ, zero, suc, ◌*◌}
use lib.Dec.{eqb}
use lib.ListN.{get_or, replicate}
use Rattle.lists.specs.Choice.{choose}
use Rattle.lists.proofs.Cases.{tested, on}
use Rattle.roles.specs.declared.Verb.{Verb}
use Rattle.roles.specs.Roles.{role_number}
use Rattle.roles.specs.Verbs.{verb_number}
use Rattle.front.specs.Front.{risen, hearing, timing, happens}
use Rattle.group.specs.declared.State.{State}
use Rattle.group.specs.Table.{most, fresh}
use Rattle.group.specs.Verbs.{names_nobody}
use Rattle.group.specs.Calls.{call_channel}
use Rattle.reached.proofs.Sound.{Sound}
use Rattle.reached.proofs.Made.{sound-fresh}
use Rattle.reached.proofs.Reached.{sound-call}
use Rattle.plain.specs.declared.PlainFront.{PlainFront}
use Rattle.plain.specs.declared.PlainHeartbeat.{PlainHeartbeat}
use Rattle.plain.specs.Numbers.{verb_of, event_number}
use Rattle.plain.specs.Plain.{is_front, front_of, plain_front, is_heartbeat, heartbeat_of, plain_heartbeat}
use Rattle.playout.specs.Front.{begin_number, heard_numbers, not_heard, timed_numbers, not_timed, after_verb, act_number}
use Rattle.wiring.specs.Members.{Member}
use Rattle.wiring.specs.Heard.{Group}
use Rattle.wiring.specs.Group as wiring
use Rattle.wiring.specs.Group.{new_group, knows, Move, moved, WiredIn, Wired}
use Rattle.wiring.specs.Same.{group_of, call_of}
use Rattle.wiring.proofs.Moves.{moved-is, new-group}
use Rattle.plainwiring.specs.Calls as calls
use Rattle.plainwiring.specs.Calls.{PlainMember, no_member, HearsAll, FrameCalls, frame_goes, frame_over, ActCalls}
use Rattle.plainwiring.specs.Group as plain
use Rattle.plainwiring.specs.Group.{PlainGroup, group_from, is_vacant, new_plain_group, TurnCalls, vacant, seated, PlainMove, frame, entry, move_from, of_links, place_from, turns, names, misses, acts, links, PlainPlays, CanMove, MovesAlwaysGo, PlainGroupsCanPlay}
use Rattle.plainwiring.proofs.Calls.{there_and_back}
use Rattle.plainwiring.proofs.Group.{AllDecode, stepped, period-taken, new-members, new-all}

-- ---- a frame of one member

pub record CanHearAll (p : PlainFront) (hs : List PlainHeartbeat) : Type 0 where
  pub front : PlainFront
  pub sent : List PlainHeartbeat
  pub lines : List ℕ
  pub calls : HearsAll p hs front sent lines

hear-all : (p : PlainFront) (hs : List PlainHeartbeat) → CanHearAll p hs
hear-all p [] = record { front = p; sent = []; lines = []; calls = calls.done }
hear-all p (h ∷ hs) =
    let ok = is_front p && is_heartbeat h in
    let q = choose ok (plain_front (hearing (front_of p) (heartbeat_of h)).front) p in
    let r = choose ok (heard_numbers (hearing (front_of p) (heartbeat_of h)).answer) not_heard in
    let rest = hear-all q hs in
    record { front = rest.front; sent = _; lines = _; calls = calls.hear {r = r} (record { answer = refl; front = refl }) rest.calls }

pub record CanFrame (m : PlainMember) (hs : List PlainHeartbeat) : Type 0 where
  pub member : PlainMember
  pub lines : List ℕ
  pub calls : FrameCalls m hs member lines

zero_or_more : (n : ℕ) → (n ≡ 0) ⊎ ((k : ℕ) × (n ≡ suc k))
zero_or_more zero = inl refl
zero_or_more (suc n) = inr (n, refl)

can_frame : (m : PlainMember) (hs : List PlainHeartbeat) → CanFrame m hs
can_frame m hs =
    let p = m.front in
    let q = choose (eqb (begin_number p) 0) (plain_front (risen (front_of p))) p in
    on (zero_or_more (begin_number p))
    (λ z.
    let h = hear-all q hs in
    let r = choose (is_front h.front) (timed_numbers (timing (front_of h.front)).answer) not_timed in
    record { member = _; lines = _; calls = frame_goes {r = r} (record { number = sym z; front = refl }) h.calls (record { answer = refl; front = refl }) })
    (λ z. record { member = _; lines = _; calls = frame_over {n = z.0} {q = q} (record { number = sym z.1; front = refl }) })

pub record CanTurn (hear : ℕ → List PlainHeartbeat) (k : ℕ) (ms : List PlainMember) : Type 0 where
  pub members : List PlainMember
  pub lines : List ℕ
  pub calls : TurnCalls hear k ms members lines

can_turn : (hear : ℕ → List PlainHeartbeat) (k : ℕ) (ms : List PlainMember) → CanTurn hear k ms
can_turn hear k [] = record { members = []; lines = []; calls = plain.none }
can_turn hear k (m ∷ ms) =
    let rest = can_turn hear (suc k) ms in
    let f = can_frame m (hear k) in
    on (tested (is_vacant m))
    (λ e. record { members = _; lines = _; calls = vacant e rest.calls })
    (λ e. record { members = _; lines = _; calls = seated e f.calls rest.calls })

-- ---- an entry of one member

pub record CanAct (m : PlainMember) (v : Verb) (b : ℕ) : Type 0 where
  pub number : ℕ
  pub member : PlainMember
  pub lines : List ℕ
  pub calls : ActCalls m v b number member lines

can_act : (m : PlainMember) (v : Verb) (b : ℕ) → CanAct m v b
can_act m v b =
    let p = m.front in
    let n = act_number p (verb_number v) b in
    let f = after_verb (verb_of (verb_number v)) b (front_of p) in
    record {
      number = n;
      member = _;
      lines = _;
      calls =
          record {
            answer = record { number = n; event = choose (eqb n 0) (event_number (happens (verb_of (verb_number v)) b (front_of p))) 0; role = choose (eqb n 0) (role_number f.server.role) 0 };
            after = choose (eqb n 0) (plain_front f) p;
            call = record { number = refl; event = refl; role = refl; front = refl };
            number = refl;
            member = refl;
            lines = refl;
          };
    }

-- ---- a move

known-moves : (g : PlainGroup) (v : Verb) (a b : ℕ) → names_nobody v a b ≡ false → knows (group_from g) v a b ≡ true → CanMove g (entry v a b)
known-moves g v a b e f =
    on (tested (of_links v))
    (λ o. record { number = _; after = _; lines = _; moves = links o e f refl })
    (λ o. record { number = _; after = _; lines = _; moves = acts o e f (can_act (get_or g.members (place_from g a) no_member) v b).calls })

pub moves_always_go : MovesAlwaysGo
moves_always_go g (frame hear) = record { number = _; after = _; lines = _; moves = turns (can_turn hear 0 g.members).calls }
moves_always_go g (entry v a b) =
    on (tested (names_nobody v a b))
    (λ e. record { number = _; after = _; lines = _; moves = names e })
    (λ e.
    on (tested (knows (group_from g) v a b))
    (known-moves g v a b e)
    (λ f. record { number = _; after = _; lines = _; moves = misses e f }))

-- ---- lists of moves

-- a move with its heartbeats as plain integers
abbrev plain_move : Move → PlainMove
plain_move (wiring.frame given) = frame (λ j. map plain_heartbeat (given j))
plain_move (wiring.entry v a b) = entry v a b

same_move : (k : Move) → move_from (plain_move k) ≡ k
same_move (wiring.frame given) = ap wiring.frame (fun_ext (λ j. there_and_back (given j)))
same_move (wiring.entry v a b) = refl

pub record CanPlay (g : PlainGroup) (ks : List Move) : Type 0 where
  pub moves : List PlainMove
  pub same : map move_from moves ≡ ks
  pub numbers : List ℕ
  pub after : PlainGroup
  pub lines : List ℕ
  pub plays : PlainPlays g moves numbers after lines

can_play : (c : State) (g : PlainGroup) (ks : List Move) → Sound c → group_from g ≡ group_of c → AllDecode g.members → Wired (group_from g) ks → CanPlay g ks
can_play c g [] sound same all w = record { moves = []; same = refl; numbers = []; after = g; lines = []; plays = plain.none }
can_play c g (k ∷ ks) sound same all (wiring.next w ws) =
    let q = plain_move k in
    let e = same_move k in
    let wired : WiredIn (group_from g) (move_from q) = subst (λ (x : Move). WiredIn (group_from g) x) (sym e) w in
    let m = moves_always_go g q in
    let s = stepped c sound g same all q m.number m.after m.lines wired m.moves in
    let call = call_of c (move_from q) in
    let then : group_from m.after ≡ group_of (call_channel c call) =
    s.group ∙ ap (λ (x : Group). moved x (move_from q)) same ∙ moved-is c (move_from q) sound (subst (λ (x : Group). WiredIn x (move_from q)) same wired) in
    let r =
    can_play (call_channel c call) m.after ks (sound-call c call sound) then s.decodes
    (subst (λ (x : Group). Wired x ks) (ap (moved (group_from g)) (sym e) ∙ sym s.group) ws) in
    record {
      moves = q ∷ r.moves;
      same = ap₂ (λ (x : Move) (l : List Move). x ∷ l) e r.same;
      numbers = _;
      after = _;
      lines = _;
      plays = plain.next wired m.moves r.plays;
    }

pub plain_groups_can_play : PlainGroupsCanPlay
plain_groups_can_play t n ks ok w =
    let p = period-taken t n ok in
    let new : group_from (new_plain_group t n) ≡ new_group t n = ap (λ (l : List Member). record { frame = 0; members = l; whole = replicate (most * most) true }) (new-members n p t.servers) in
    let r = can_play (fresh t n) (new_plain_group t n) ks (sound-fresh t n ok) (new ∙ new-group t n) (new-all n p t.servers) (subst (λ (x : Group). Wired x ks) (sym new) w) in
    record { moves = r.moves; same = r.same; numbers = r.numbers; after = r.after; lines = r.lines; plays = r.plays }
