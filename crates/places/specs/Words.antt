-- Servers as numbers, five a server. An array of numbers can be lent and changed in place, where an
-- array of servers would be copied.
use Rattle.std.specs.Prelude.{List, [], ◌∷◌, ◌++◌, ◌≡◌, ℕ, zero, suc, ◌+◌, ◌*◌, ◌/◌, ◌%◌, eqb, length, get_or, set}
use Rattle.lists.specs.Choice.{choose}
use Rattle.lists.specs.Splice.{splice}
use Rattle.roles.specs.declared.Role.{Role}
use Rattle.roles.specs.declared.Role.TheVariants.{Down, Idle, Sync, Backup, Prospect, Primary}
use Rattle.server.specs.declared.Server.{Server}
use Rattle.roles.specs.Roles.{role_number}
use Rattle.group.specs.Table.{most}
use Rattle.group.specs.Hearing.{is_place}

-- ---- the layout

-- numbers a server: its head, which is its role and its rank, its three timers, and what it sent
abbrev pub each : ℕ
each = 5

abbrev pub packed : ℕ
packed = each * most

-- in a rank, and in a head: identities are below the first; a priority counts by it, a role by the
-- second, which is 256 times the first
abbrev pub priority_unit : ℕ
priority_unit = 65536

abbrev pub role_unit : ℕ
role_unit = 16777216

-- in what was sent: identities are below the first; a reveal counts by it, plain beats by the
-- second, which is twice the first; all of it is below the third, 256 times the second
abbrev pub reveal_unit : ℕ
reveal_unit = 65536

abbrev pub beats_unit : ℕ
beats_unit = 131072

abbrev pub sending_end : ℕ
sending_end = 33554432

-- ---- servers

-- the role of a number
unfoldable pub role_of : ℕ → Role
role_of n =
    choose (eqb n 0) Down (choose (eqb n 1) Idle (choose (eqb n 2) Sync (choose (eqb n 3) Backup (choose (eqb n 4) Prospect Primary))))

-- a rank, and what was sent, each as one number
abbrev pub rank_number : Server → ℕ
rank_number s = s.priority * priority_unit + s.identity

abbrev pub sending_number : Server → ℕ
sending_number s = (s.beats * 2 + choose s.reveal 1 0) * reveal_unit + s.pass

-- the first of the five numbers; the others are the three timers, and what was sent
abbrev pub head_number : Server → ℕ
head_number s = role_number s.role * role_unit + rank_number s

-- the server of five numbers
unfoldable pub server_of : ℕ → ℕ → ℕ → ℕ → ℕ → Server
server_of head silence beat prospect sending =
    record {
      identity = head % priority_unit;
      priority = head / priority_unit % 256;
      role = role_of (head / role_unit);
      silence = silence;
      beat = beat;
      prospect = prospect;
      beats = sending / beats_unit % 256;
      reveal = eqb (sending / reveal_unit % 2) 1;
      pass = sending % reveal_unit;
    }

-- the server of place i
abbrev pub server_at : List ℕ → ℕ → Server
server_at w i = server_of (get_or w (each * i) 0) (get_or w (each * i + 1) 0) (get_or w (each * i + 2) 0) (get_or w (each * i + 3) 0) (get_or w (each * i + 4) 0)

-- n servers, the first of which is at place k
unfoldable pub servers_from : ℕ → ℕ → List ℕ → List Server
servers_from zero k w = []
servers_from (suc n) k w = server_at w k ∷ servers_from n (suc k) w

-- all of them
abbrev pub servers_of : List ℕ → List Server
servers_of w = servers_from most 0 w

-- ---- the numbers of servers

-- the five numbers of a server
abbrev pub server_numbers : Server → List ℕ
server_numbers s = head_number s ∷ s.silence ∷ s.beat ∷ s.prospect ∷ sending_number s ∷ []

-- those of servers one after the other
unfoldable pub words_of : List Server → List ℕ
words_of [] = []
words_of (s ∷ l) = server_numbers s ++ words_of l

-- the numbers w with those of the server s at place i
abbrev pub put_at : List ℕ → ℕ → Server → List ℕ
put_at w i s = splice w (each * i) (server_numbers s)

-- numbers that are those of their servers: of the numbers that stand for the same servers, one
-- list. `words_of` makes such, and whatever changes numbers keeps them so
abbrev pub Canonical : List ℕ → Type 0
Canonical w = w ≡ words_of (servers_of w)

-- as many numbers afterwards, and canonical ones where they were
pub record Keeps (w w' : List ℕ) : Type 0 where
  pub long : length w' ≡ length w
  pub form : Canonical w → Canonical w'

-- the numbers w become w', which stand for the servers l: canonical ones become the numbers of l
pub record Becomes (w : List ℕ) (l : List Server) (w' : List ℕ) : Type 0 where
  pub servers : servers_of w' ≡ l
  pub numbers : Canonical w → w' ≡ words_of l
  pub long : length w' ≡ length w

-- the servers l as numbers, which stand for them
pub record Packs (l : List Server) (w : List ℕ) : Type 0 where
  pub numbers : w ≡ words_of l
  pub servers : servers_of w ≡ l

-- the server of place i replaced; nothing beyond the last place
pub record Puts (w : List ℕ) (i : ℕ) (s : Server) (w' : List ℕ) : Type 0 where
  pub numbers : w' ≡ choose (is_place i) (put_at w i s) w
  pub words : Becomes w (set (servers_of w) i s) w'
