-- Demand 3 of a group of fronts wired by the protocol. Quotes are the demand's own words.
use Rattle.std.specs.Prelude.{Bool, true, false, not, ◌&&◌, ◌≡◌, ◌⊎◌, ◌≢◌, List, [], ◌∷◌, map, ℕ, ◌+◌, ◌<◌, ◌≤◌, eqb}
use Rattle.lists.specs.Choice.{choose}
use Rattle.heartbeat.specs.declared.Heartbeat.{Heartbeat}
use Rattle.heartbeat.specs.Rank.{higher}
use Rattle.roles.specs.declared.Verb.{Verb}
use Rattle.roles.specs.declared.Role.{Role}
use Rattle.roles.specs.declared.Role.TheVariants.{Backup, Primary}
use Rattle.roles.specs.Roles.{is_active, is_beating}
use Rattle.server.specs.Server.{rank_of}
use Rattle.group.specs.declared.Table.{Table}
use Rattle.group.specs.Table.{most, fresh_refusal}
use Rattle.group.specs.Links.{cut_by_verb}
use Rattle.settling.specs.Demand.{settling_time}
use Rattle.wiring.specs.Heard.{Group, member_at, Seated}
use Rattle.wiring.specs.Group.{new_group, Move, frame, entry, move_number, moved, group_after, Wired}

abbrev pub role_at : Group → ℕ → Role
role_at g i = (member_at g i).front.server.role

-- the server of place a is higher than that of place b
abbrev pub higher_at : Group → ℕ → ℕ → Bool
higher_at g a b = higher (rank_of (member_at g a).front.server) (rank_of (member_at g b).front.server)

-- ---- "no link is cut"

-- whether the link from the identity a to the identity b is cut after an accepted move
unfoldable pub cut_by_move : ℕ → ℕ → Move → Bool → Bool
cut_by_move a b (frame hear) was = was
cut_by_move a b (entry v x y) was = choose (eqb x a && eqb y b) (cut_by_verb v was) was

-- and after a list of moves, of which the refused ones do nothing
unfoldable pub cut_after_moves : ℕ → ℕ → Group → List Move → Bool → Bool
cut_after_moves a b g [] was = was
cut_after_moves a b g (k ∷ ks) was = cut_after_moves a b (moved g k) ks (choose (eqb (move_number g k) 0) (cut_by_move a b k was) was)

abbrev pub NoneCut : Group → List Move → Type 0
NoneCut g ks = (a b : ℕ) → cut_after_moves a b g ks false ≡ false

-- ---- "from then on only advances are accepted"

abbrev pub refused_if_entry : Group → Move → Bool
refused_if_entry g (frame hear) = true
refused_if_entry g (entry v a b) = not (eqb (move_number g (entry v a b)) 0)

unfoldable pub entries_refused : Group → List Move → Bool
entries_refused g [] = true
entries_refused g (k ∷ ks) = refused_if_entry g k && entries_refused (moved g k) ks

-- ---- settled

-- "exactly one server is primary, .. and each other server that was in one of those roles after the
-- list is in backup": g is the group after the list, d the one later, h the place of the one
-- server. Each place has the same server in both
pub record GroupLed (g : Group) (h : ℕ) (d : Group) : Type 0 where
  pub primary : role_at d h ≡ Primary
  pub alone : (i : ℕ) → i < most → role_at d i ≡ Primary → i ≡ h
  pub backups : (i : ℕ) → i < most → i ≢ h → is_active (role_at g i) ≡ true → role_at d i ≡ Backup
  pub ranks : (i : ℕ) → rank_of (member_at d i).front.server ≡ rank_of (member_at g i).front.server

-- "none was prospect or primary"
abbrev pub NoneBeating : Group → Type 0
NoneBeating g = (i : ℕ) → i < most → is_beating (role_at g i) ≡ false

-- "the highest of the servers that were in those roles after the list"
abbrev pub HighestInGroup : Group → ℕ → Type 0
HighestInGroup g h = (i : ℕ) → i < most → is_active (role_at g i) ≡ true → (i ≡ h) ⊎ (higher_at g h i ≡ true)

-- the group g is settled w frames later
pub record GroupSettles (w : ℕ) (g : Group) : Type 0 where
  pub server : ℕ
  pub seated : Seated g server
  pub was : is_active (role_at g server) ≡ true
  -- "if the day is that long, and in each later frame of it", "always the same one"
  pub led : (ms : List Move) → Wired g ms → entries_refused g ms ≡ true → g.frame + w ≤ (group_after g ms).frame → GroupLed g server (group_after g ms)
  -- "If at the end of the next frame after the one the list ends in none was prospect or primary,
  -- the one chosen is the highest"
  pub highest :
      (ms : List Move) → Wired g ms → entries_refused g ms ≡ true → (group_after g ms).frame ≡ g.frame + 1 → NoneBeating (group_after g ms) →
      HighestInGroup g server

-- "at least one server is in backup, prospect or primary": the one of place i
abbrev pub GroupsSettle : Type 0
GroupsSettle =
    (t : Table) (n : ℕ) (ks : List Move) → fresh_refusal t n ≡ 0 → Wired (new_group t n) ks → NoneCut (new_group t n) ks →
    let g = group_after (new_group t n) ks in (i : ℕ) → i < most → is_active (role_at g i) ≡ true → GroupSettles (settling_time n) g

-- frames alone are no entries
abbrev pub FramesMayFollow : Type 0
FramesMayFollow = (g : Group) (hears : List (ℕ → List Heartbeat)) → entries_refused g (map frame hears) ≡ true

-- and refused entries may stand among them
abbrev pub RefusedMayFollow : Type 0
RefusedMayFollow =
    (g : Group) (v : Verb) (a b : ℕ) (ms : List Move) → move_number g (entry v a b) ≢ 0 → entries_refused g ms ≡ true →
    entries_refused g (entry v a b ∷ ms) ≡ true
