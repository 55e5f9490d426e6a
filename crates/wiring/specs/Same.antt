-- A group of fronts wired by the protocol is the channel: one sheet, whoever builds the server.
use Rattle.std.specs.Prelude.{true, List, [], ◌∷◌, map, ◌≡◌, ℕ, ◌+◌, ◌-◌, ◌*◌, ◌<◌, ◌≤◌, length}
use Rattle.lists.specs.Choice.{choose}
use Rattle.heartbeat.specs.declared.Heartbeat.{Heartbeat}
use Rattle.roles.specs.Roles.{is_active}
use Rattle.server.specs.declared.Server.{Server}
use Rattle.server.specs.Server.{most_beats, sent_by}
use Rattle.group.specs.declared.Table.{Table}
use Rattle.group.specs.declared.State.{State}
use Rattle.group.specs.Table.{most, is_empty, fresh_refusal, fresh}
use Rattle.group.specs.Frame as frames
use Rattle.group.specs.Verbs.{verb_outcome}
use Rattle.group.specs.Calls.{Call, verb, advance, call_channel, channel_after, numbers_of}
use Rattle.group.specs.Laws.{lines_after}
use Rattle.wiring.specs.Members.{Member, nobody}
use Rattle.wiring.specs.Heard.{Group, member_at, from, Comes, Heard, sorted}
use Rattle.wiring.specs.Group.{new_group, Move, frame, entry, group_after, group_numbers, group_lines, WiredIn, Wired}

-- the group that the channel c stands for: each server in a front of its own, with what it sent
abbrev pub member_of : State → Server → Member
member_of c s = choose (is_empty s) nobody (record { front = record { server = s; frame = c.frame; period = c.period }; sent = sent_by s })

abbrev pub group_of : State → Group
group_of c = record { frame = c.frame; members = map (member_of c) c.servers; whole = c.whole }

-- the call of a channel that a move is, with a slice as long as its lines
abbrev pub call_of : State → Move → Call
call_of c (frame hear) = advance (frames.frame_lines c)
call_of c (entry v a b) = verb v a b (verb_outcome c v a b).lines

unfoldable pub calls_of : State → List Move → List Call
calls_of c [] = []
calls_of c (k ∷ ks) = call_of c k ∷ calls_of (call_channel c (call_of c k)) ks

-- after the moves ks each front of g holds its server of the channel c, each move got the number of
-- its call, and the lines are the channel's, byte for byte
pub record Agrees (c : State) (g : Group) (ks : List Move) : Type 0 where
  pub group : group_after g ks ≡ group_of (channel_after c (calls_of c ks))
  pub numbers : group_numbers g ks ≡ numbers_of c (calls_of c ks)
  pub lines : group_lines g ks ≡ lines_after c (calls_of c ks)

-- for every table and period that are not refused, and every list of frames and entries, refused
-- ones included
abbrev pub OneSheet : Type 0
OneSheet = (t : Table) (n : ℕ) (ks : List Move) → fresh_refusal t n ≡ 0 → Wired (new_group t n) ks → Agrees (fresh t n) (new_group t n) ks

-- ---- that wires can do it. After any list of moves that was wired so:

-- something can be heard as it must be
pub record CanHear (g : Group) (j : ℕ) : Type 0 where
  pub heartbeats : List Heartbeat
  pub heard : Heard g j heartbeats

abbrev pub ProtocolCanBeMet : Type 0
ProtocolCanBeMet = (t : Table) (n : ℕ) (ks : List Move) → fresh_refusal t n ≡ 0 → Wired (new_group t n) ks → (j : ℕ) → CanHear (group_after (new_group t n) ks) j

-- and what comes in any interleaving of senders, sorted, is heard as it must be
abbrev pub SortedIsHeard : Type 0
SortedIsHeard =
    (t : Table) (n : ℕ) (ks : List Move) → fresh_refusal t n ≡ 0 → Wired (new_group t n) ks →
    let g = group_after (new_group t n) ks in (j : ℕ) (hs : List Heartbeat) → Comes g j hs → Heard g j (sorted [] hs)

-- and no server sends more than this in a frame: plain beats, a reveal and a pass
abbrev pub most_sent : ℕ
most_sent = most_beats + 2

abbrev pub FewAreSent : Type 0
FewAreSent =
    (t : Table) (n : ℕ) (ms : List Move) → fresh_refusal t n ≡ 0 → Wired (new_group t n) ms →
    (i : ℕ) → length (member_at (group_after (new_group t n) ms) i).sent ≤ most_sent

-- so that no more comes to a place: what all others sent
abbrev pub most_heard : ℕ
most_heard = (most - 1) * most_sent

abbrev pub FewAreHeard : Type 0
FewAreHeard =
    (t : Table) (n : ℕ) (ls : List Move) → fresh_refusal t n ≡ 0 → Wired (new_group t n) ls →
    let g = group_after (new_group t n) ls in (j : ℕ) (hs : List Heartbeat) → j < most → Comes g j hs → length hs ≤ most_heard

-- ---- that the premises can be met

-- a move without what is heard in it
abbrev pub asked : Move → Move
asked (frame hear) = frame (λ j. [])
asked (entry v a b) = entry v a b

-- the moves ms, with something heard in each frame as it must be
pub record CanBeWired (g : Group) (ms : List Move) : Type 0 where
  pub moves : List Move
  pub same : map asked moves ≡ map asked ms
  pub wired : Wired g moves

-- after any list that was wired, every list of frames and entries, refused ones included, can be
abbrev pub ListsCanBeWired : Type 0
ListsCanBeWired = (t : Table) (n : ℕ) (ks ms : List Move) → fresh_refusal t n ≡ 0 → Wired (new_group t n) ks → CanBeWired (group_after (new_group t n) ks) ms

-- where hs may come, so may whatever has the same of each sender, however senders are mixed
abbrev pub AnyOrderComes : Type 0
AnyOrderComes = (g : Group) (j : ℕ) (hs ls : List Heartbeat) → ((x : ℕ) → from x ls ≡ from x hs) → Comes g j hs → Comes g j ls

-- and who is down, idle or in sync when a frame begins may hear anything in it
abbrev pub InactiveHearAnything : Type 0
InactiveHearAnything =
    (g : Group) (hear other : ℕ → List Heartbeat) → ((j : ℕ) → is_active (member_at g j).front.server.role ≡ true → hear j ≡ other j) →
    WiredIn g (frame hear) → WiredIn g (frame other)
