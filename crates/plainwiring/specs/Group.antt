-- A whole group of plain fronts, by the contracts of `playout_front_*`.
use Rattle.std.specs.Prelude.{Bool, true, false, List, [], ◌∷◌, ◌++◌, map, ◌≡◌, ℕ, suc, ◌+◌, ◌*◌, ◌<◌, ◌≤◌, eqb, get_or, set, replicate}
use Rattle.lists.specs.Choice.{choose}
use Rattle.timecode.specs.Read.{in_day}
use Rattle.roles.specs.declared.Verb.{Verb}
use Rattle.roles.specs.declared.Verb.TheVariants.{Start, Ready, Unready, Pass, Crash, Restart, Cut, Mend}
use Rattle.roles.specs.Roles.{is_active}
use Rattle.server.specs.declared.Server.{Server}
use Rattle.group.specs.declared.Table.{Table}
use Rattle.group.specs.Table.{most, is_empty, fresh_refusal, fresh}
use Rattle.group.specs.Hearing.{link_of}
use Rattle.group.specs.Verbs.{names_nobody, links_after}
use Rattle.settling.specs.Demand.{settling_time}
use Rattle.plain.specs.declared.PlainFront.{PlainFront}
use Rattle.plain.specs.declared.PlainHeartbeat.{PlainHeartbeat}
use Rattle.plain.specs.Plain.{is_front, front_of, heartbeat_of}
use Rattle.playout.specs.Front.{front_made, Begins}
use Rattle.wiring.specs.Members.{Member}
use Rattle.wiring.specs.Heard.{Group, Seated}
use Rattle.wiring.specs.Group as wiring
use Rattle.wiring.specs.Group.{new_group, Move, place_of, knows, state_number, entry_lines, group_after, group_numbers, group_lines, WiredIn, Wired}
use Rattle.wiring.specs.Same.{Agrees}
use Rattle.wiring.specs.Settles.{role_at, NoneCut, entries_refused, GroupLed, NoneBeating, HighestInGroup}
use Rattle.plainwiring.specs.Calls.{PlainMember, no_member, FrameCalls, ActCalls}

-- as `Group` of the crate wiring, with plain fronts
pub record PlainGroup : Type 0 where
  pub frame : ℕ
  pub members : List PlainMember
  pub whole : List Bool

-- what it stands for
abbrev pub member_from : PlainMember → Member
member_from m = record { front = front_of m.front; sent = map heartbeat_of m.sent }

abbrev pub group_from : PlainGroup → Group
group_from g = record { frame = g.frame; members = map member_from g.members; whole = g.whole }

abbrev pub is_vacant : PlainMember → Bool
is_vacant m = eqb m.front.server.identity 0

-- ---- the group at frame 0: `playout_front_new` for each server of the table

abbrev pub new_plain_member : ℕ → Server → PlainMember
new_plain_member n s = choose (is_empty s) no_member (record { front = (front_made s.identity s.priority n).front; sent = [] })

abbrev pub new_plain_group : Table → ℕ → PlainGroup
new_plain_group t n = record { frame = 0; members = map (new_plain_member n) t.servers; whole = replicate (most * most) true }

-- ---- a frame

-- the members from place k on, each with the calls of a frame in which it hears `hear k`, and their
-- lines. An empty place does nothing
pub data TurnCalls (hear : ℕ → List PlainHeartbeat) : ℕ → List PlainMember → List PlainMember → List ℕ → Type 0 where
  none : {k : ℕ} → TurnCalls hear k [] [] []
  vacant :
      {k : ℕ} {m : PlainMember} {ms ms' : List PlainMember} {w : List ℕ} → is_vacant m ≡ true →
      TurnCalls hear (suc k) ms ms' w → TurnCalls hear k (m ∷ ms) (m ∷ ms') w
  seated :
      {k : ℕ} {m m' : PlainMember} {ms ms' : List PlainMember} {u w : List ℕ} → is_vacant m ≡ false → FrameCalls m (hear k) m' u →
      TurnCalls hear (suc k) ms ms' w → TurnCalls hear k (m ∷ ms) (m' ∷ ms') (u ++ w)

-- whoever keeps the clock: "16. Advance at frame 2,159,999."
abbrev pub clock_number : PlainGroup → ℕ
clock_number g = choose (in_day (g.frame + 1)) 0 16

-- ---- a frame or an entry

pub data PlainMove : Type 0 where
  frame : (ℕ → List PlainHeartbeat) → PlainMove
  entry : Verb → ℕ → ℕ → PlainMove

abbrev pub move_from : PlainMove → Move
move_from (frame hear) = wiring.frame (λ j. map heartbeat_of (hear j))
move_from (entry v a b) = wiring.entry v a b

-- `cut` and `mend` are of whoever holds the links
abbrev pub of_links : Verb → Bool
of_links Start = false
of_links Ready = false
of_links Unready = false
of_links Pass = false
of_links Crash = false
of_links Restart = false
of_links Cut = true
of_links Mend = true

abbrev pub place_from : PlainGroup → ℕ → ℕ
place_from g a = place_of (group_from g) a

-- the group g with the move k gets the number n, becomes d and prints w
pub data PlainMoved : PlainGroup → PlainMove → ℕ → PlainGroup → List ℕ → Type 0 where
  turns :
      {g : PlainGroup} {hear : ℕ → List PlainHeartbeat} {ms : List PlainMember} {w : List ℕ} → TurnCalls hear 0 g.members ms w →
      PlainMoved g (frame hear) (clock_number g) (record { frame = choose (eqb (clock_number g) 0) (g.frame + 1) g.frame; members = ms; whole = g.whole }) w
  -- 2 and 8 are of whoever has the table
  names :
      {g : PlainGroup} {v : Verb} {a b : ℕ} → names_nobody v a b ≡ true → PlainMoved g (entry v a b) 2 g []
  misses :
      {g : PlainGroup} {v : Verb} {a b : ℕ} → names_nobody v a b ≡ false → knows (group_from g) v a b ≡ false → PlainMoved g (entry v a b) 8 g []
  acts :
      {g : PlainGroup} {v : Verb} {a b n : ℕ} {m : PlainMember} {w : List ℕ} → of_links v ≡ false → names_nobody v a b ≡ false → knows (group_from g) v a b ≡ true →
      ActCalls (get_or g.members (place_from g a) no_member) v b n m w →
      PlainMoved g (entry v a b) n (record { frame = g.frame; members = set g.members (place_from g a) m; whole = g.whole }) w
  links :
      {g : PlainGroup} {v : Verb} {a b n : ℕ} → of_links v ≡ true → names_nobody v a b ≡ false → knows (group_from g) v a b ≡ true → n ≡ state_number (group_from g) v a b →
      PlainMoved g (entry v a b) n
      (record { frame = g.frame; members = g.members; whole = choose (eqb n 0) (links_after v (link_of (place_from g a) (place_from g b)) g.whole) g.whole })
      (choose (eqb n 0) (entry_lines (group_from g) v a b) [])

-- ---- lists of both, wired by the protocol

-- from g on, the moves ks get the numbers ns, leave the group d and print w
pub data PlainPlays : PlainGroup → List PlainMove → List ℕ → PlainGroup → List ℕ → Type 0 where
  none : {g : PlainGroup} → PlainPlays g [] [] g []
  next :
      {g d e : PlainGroup} {k : PlainMove} {n : ℕ} {ks : List PlainMove} {ns u w : List ℕ} → WiredIn (group_from g) (move_from k) →
      PlainMoved g k n d u → PlainPlays d ks ns e w → PlainPlays g (k ∷ ks) (n ∷ ns) e (u ++ w)

-- what stands in a place decodes, or no server stands there
unfoldable pub Decodes : PlainMember → Type 0
Decodes m = is_vacant m ≡ false → is_front m.front ≡ true

-- the group that was played is the one of the crate wiring: so each front is the channel's server,
-- each number the channel's, and the lines its lines (`Agrees`), and `GroupsSettle` speaks of it
pub record IsPlayed (t : Table) (n : ℕ) (ks : List PlainMove) (ns : List ℕ) (d : PlainGroup) (w : List ℕ) : Type 0 where
  pub wired : Wired (new_group t n) (map move_from ks)
  pub group : group_from d ≡ group_after (new_group t n) (map move_from ks)
  pub decodes : (i : ℕ) → Decodes (get_or d.members i no_member)
  pub numbers : ns ≡ group_numbers (new_group t n) (map move_from ks)
  pub lines : w ≡ group_lines (new_group t n) (map move_from ks)
  pub agrees : Agrees (fresh t n) (new_group t n) (map move_from ks)
  -- what `playout_front_begin` would get next from any of them
  pub begins :
      (i k : ℕ) (q : PlainFront) → is_vacant (get_or d.members i no_member) ≡ false → Begins (get_or d.members i no_member).front k q →
      k ≡ clock_number d

-- for every table and period that are not refused, and every list of frames and entries
abbrev pub PlainGroupsPlay : Type 0
PlainGroupsPlay =
    (t : Table) (n : ℕ) (ks : List PlainMove) (ns : List ℕ) (d : PlainGroup) (w : List ℕ) → fresh_refusal t n ≡ 0 →
    PlainPlays (new_plain_group t n) ks ns d w → IsPlayed t n ks ns d w

-- ---- that it can be done

-- every move has an outcome
pub record CanMove (g : PlainGroup) (k : PlainMove) : Type 0 where
  pub number : ℕ
  pub after : PlainGroup
  pub lines : List ℕ
  pub moves : PlainMoved g k number after lines

abbrev pub MovesAlwaysGo : Type 0
MovesAlwaysGo = (g : PlainGroup) (k : PlainMove) → CanMove g k

-- so every list of frames and entries that is wired can be played by these calls. (That every list
-- can be wired is `ListsCanBeWired` of the crate wiring)
pub record CanBePlayed (t : Table) (n : ℕ) (ks : List Move) : Type 0 where
  pub moves : List PlainMove
  pub same : map move_from moves ≡ ks
  pub numbers : List ℕ
  pub after : PlainGroup
  pub lines : List ℕ
  pub plays : PlainPlays (new_plain_group t n) moves numbers after lines

abbrev pub PlainGroupsCanPlay : Type 0
PlainGroupsCanPlay = (t : Table) (n : ℕ) (ks : List Move) → fresh_refusal t n ≡ 0 → Wired (new_group t n) ks → CanBePlayed t n ks

-- ---- demand 3 of such a group

-- as `GroupSettles` of the crate wiring, what follows the list being played by these calls too
pub record PlainSettles (s : ℕ) (d : PlainGroup) : Type 0 where
  pub server : ℕ
  pub seated : Seated (group_from d) server
  pub was : is_active (role_at (group_from d) server) ≡ true
  pub led :
      (ms : List PlainMove) (ns : List ℕ) (e : PlainGroup) (w : List ℕ) → PlainPlays d ms ns e w → entries_refused (group_from d) (map move_from ms) ≡ true →
      d.frame + s ≤ e.frame → GroupLed (group_from d) server (group_from e)
  pub highest :
      (ms : List PlainMove) (ns : List ℕ) (e : PlainGroup) (w : List ℕ) → PlainPlays d ms ns e w → entries_refused (group_from d) (map move_from ms) ≡ true →
      e.frame ≡ d.frame + 1 → NoneBeating (group_from e) → HighestInGroup (group_from d) server

abbrev pub PlainGroupsSettle : Type 0
PlainGroupsSettle =
    (t : Table) (n : ℕ) (ms : List PlainMove) (ns : List ℕ) (d : PlainGroup) (w : List ℕ) → fresh_refusal t n ≡ 0 →
    PlainPlays (new_plain_group t n) ms ns d w → NoneCut (new_group t n) (map move_from ms) →
    (i : ℕ) → i < most → is_active (role_at (group_from d) i) ≡ true → PlainSettles (settling_time n) d
