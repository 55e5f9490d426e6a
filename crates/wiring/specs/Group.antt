-- A group of fronts: a frame of all of them, an entry, and lists of both.
use Rattle.std.specs.Prelude.{Bool, true, not, ◌&&◌, List, [], ◌∷◌, ◌++◌, map, ◌≡◌, ℕ, suc, ◌+◌, ◌*◌, ltb, eqb, get_or, set, replicate}
use Rattle.lists.specs.Choice.{choose}
use Rattle.lists.specs.Lists.{map_from, index_where}
use Rattle.timecode.specs.Read.{in_day}
use Rattle.heartbeat.specs.declared.Heartbeat.{Heartbeat}
use Rattle.roles.specs.declared.Verb.{Verb}
use Rattle.roles.specs.declared.Verb.TheVariants.{Start, Ready, Unready, Pass, Crash, Restart, Cut, Mend}
use Rattle.roles.specs.declared.Word.TheVariants as word
use Rattle.roles.specs.declared.Said.TheVariants as says
use Rattle.roles.specs.Roles.{is_active}
use Rattle.roles.specs.Verbs.{paired}
use Rattle.server.specs.declared.Server.{Server}
use Rattle.server.specs.Verbs.{verb_answer}
use Rattle.lines.specs.Lines.{lines_of}
use Rattle.front.specs.Front as front
use Rattle.group.specs.declared.Table.{Table}
use Rattle.group.specs.Table.{most, is_empty}
use Rattle.group.specs.Hearing.{link_of}
use Rattle.group.specs.Verbs.{names_nobody, links_after}
use Rattle.wiring.specs.Members.{Member, nobody, identity_of, frame_of, frame_lines, acts, acts_lines}
use Rattle.wiring.specs.Heard.{Group, member_at, is_vacant, linked, Seated, Heard}

-- ---- the group at frame 0

-- `playout_front_new` with the identity and the priority of the table, and the period n
unfoldable pub new_member : ℕ → Server → Member
new_member n s = choose (is_empty s) nobody (record { front = front.fresh s.identity s.priority n; sent = [] })

-- one front for each server of the table, all links whole
abbrev pub new_group : Table → ℕ → Group
new_group t n = record { frame = 0; members = map (new_member n) t.servers; whole = replicate (most * most) true }

-- ---- a frame: place j hears `hear j`. An empty place does nothing

abbrev pub turn : (ℕ → List Heartbeat) → ℕ → Member → Member
turn hear j m = choose (is_vacant m) m (frame_of m (hear j))

unfoldable pub framed : (ℕ → List Heartbeat) → Group → Group
framed hear g = record { frame = g.frame + 1; members = map_from 0 (turn hear) g.members; whole = g.whole }

-- "frame by frame, what each server's hearing and timers gave, servers by rising identity": from
-- place k on
unfoldable pub lines_each : (ℕ → List Heartbeat) → ℕ → List Member → List ℕ
lines_each hear k [] = []
lines_each hear k (m ∷ ms) = choose (is_vacant m) [] (frame_lines m (hear k)) ++ lines_each hear (suc k) ms

-- ---- an entry

unfoldable pub place_in : List Member → ℕ → ℕ
place_in ms i = index_where (λ m. not (eqb i 0) && eqb (identity_of m) i) ms

abbrev pub place_of : Group → ℕ → ℕ
place_of g i = place_in g.members i

abbrev pub is_in : Group → ℕ → Bool
is_in g i = ltb (place_of g i) most

-- whoever has the table knows the identities of an entry; else 8
unfoldable pub knows : Group → Verb → ℕ → ℕ → Bool
knows g v a b = is_in g a && choose (paired v) (is_in g b && not (eqb a b)) true

-- `playout_front_act` of the acting server: 12, 13 or 14
abbrev pub own_number : Group → Verb → ℕ → ℕ → ℕ
own_number g v a b = (verb_answer v b (member_at g (place_of g a)).front.server).number

-- "The lines `cut` and `mended`, and 15 .., are of whoever holds the links"
unfoldable pub state_number : Group → Verb → ℕ → ℕ → ℕ
state_number g Start a b = own_number g Start a b
state_number g Ready a b = own_number g Ready a b
state_number g Unready a b = own_number g Unready a b
state_number g Pass a b = own_number g Pass a b
state_number g Crash a b = own_number g Crash a b
state_number g Restart a b = own_number g Restart a b
state_number g Cut a b = choose (linked g (place_of g a) (place_of g b)) 0 15
state_number g Mend a b = choose (linked g (place_of g a) (place_of g b)) 15 0

-- the number that an entry gets; 2 for an identity 0
unfoldable pub entry_number : Group → Verb → ℕ → ℕ → ℕ
entry_number g v a b = choose (names_nobody v a b) 2 (choose (knows g v a b) (state_number g v a b) 8)

-- the members after an entry that is taken, p being the place of the acting server. `cut` and
-- `mend` go to no server
abbrev pub members_then : Verb → ℕ → ℕ → List Member → List Member
members_then Start p b ms = set ms p (acts Start b (get_or ms p nobody))
members_then Ready p b ms = set ms p (acts Ready b (get_or ms p nobody))
members_then Unready p b ms = set ms p (acts Unready b (get_or ms p nobody))
members_then Pass p b ms = set ms p (acts Pass b (get_or ms p nobody))
members_then Crash p b ms = set ms p (acts Crash b (get_or ms p nobody))
members_then Restart p b ms = set ms p (acts Restart b (get_or ms p nobody))
members_then Cut p b ms = ms
members_then Mend p b ms = ms

abbrev pub entered : Group → Verb → ℕ → ℕ → Group
entered g v a b =
    record { frame = g.frame; members = members_then v (place_of g a) b g.members; whole = links_after v (link_of (place_of g a) (place_of g b)) g.whole }

-- the lines of an entry that is taken: the acting server prints them, or whoever holds the links
abbrev pub entry_lines : Group → Verb → ℕ → ℕ → List ℕ
entry_lines g Start a b = acts_lines Start b (member_at g (place_of g a)).front
entry_lines g Ready a b = acts_lines Ready b (member_at g (place_of g a)).front
entry_lines g Unready a b = acts_lines Unready b (member_at g (place_of g a)).front
entry_lines g Pass a b = acts_lines Pass b (member_at g (place_of g a)).front
entry_lines g Crash a b = acts_lines Crash b (member_at g (place_of g a)).front
entry_lines g Restart a b = acts_lines Restart b (member_at g (place_of g a)).front
entry_lines g Cut a b = lines_of g.frame a (says.One word.Cut)
entry_lines g Mend a b = lines_of g.frame a (says.One word.Mended)

-- ---- lists of frames and entries

-- a frame, with what each place hears in it, or an entry
pub data Move : Type 0 where
  frame : (ℕ → List Heartbeat) → Move
  entry : Verb → ℕ → ℕ → Move

-- "16. Advance at frame 2,159,999."
unfoldable pub move_number : Group → Move → ℕ
move_number g (frame hear) = choose (in_day (g.frame + 1)) 0 16
move_number g (entry v a b) = entry_number g v a b

-- the group after a move that is taken, and its lines
unfoldable pub moves_to : Group → Move → Group
moves_to g (frame hear) = framed hear g
moves_to g (entry v a b) = entered g v a b

unfoldable pub move_lines : Group → Move → List ℕ
move_lines g (frame hear) = lines_each hear 0 g.members
move_lines g (entry v a b) = entry_lines g v a b

-- a refused move changes nothing
unfoldable pub moved : Group → Move → Group
moved g k = choose (eqb (move_number g k) 0) (moves_to g k) g

unfoldable pub group_after : Group → List Move → Group
group_after g [] = g
group_after g (k ∷ ks) = group_after (moved g k) ks

unfoldable pub group_numbers : Group → List Move → List ℕ
group_numbers g [] = []
group_numbers g (k ∷ ks) = move_number g k ∷ group_numbers (moved g k) ks

-- the lines that all print, joined; a refused move has none here
unfoldable pub group_lines : Group → List Move → List ℕ
group_lines g [] = []
group_lines g (k ∷ ks) = choose (eqb (move_number g k) 0) (move_lines g k) [] ++ group_lines (moved g k) ks

-- ---- the wires do what they must: in each frame that is played, each server hears what it must.
-- One that is down, idle or in sync may hear anything, or nothing: "down, idle, sync: nothing"

abbrev pub MustHear : Group → ℕ → Type 0
MustHear g j = Seated g j × (is_active (member_at g j).front.server.role ≡ true)

abbrev pub WiredIn : Group → Move → Type 0
WiredIn g (frame hear) = in_day (g.frame + 1) ≡ true → (j : ℕ) → MustHear g j → Heard g j (hear j)
WiredIn g (entry v a b) = Unit {0}

pub data Wired : Group → List Move → Type 0 where
  none : {g : Group} → Wired g []
  next : {g : Group} {k : Move} {ks : List Move} → WiredIn g k → Wired (moved g k) ks → Wired g (k ∷ ks)
