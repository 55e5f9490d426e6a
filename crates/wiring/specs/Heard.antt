-- What a server of a group hears in a frame: the protocol of docs/MAKERS.md.
use Rattle.std.specs.Prelude.{Bool, true, false, not, ◌&&◌, ◌≡◌, ℕ, ◌<◌, eqb, get_or}
use mathlib.Core.List.{List, [], ◌∷◌, Memᴰ}
use Rattle.lists.specs.Choice.{choose}
use Rattle.lists.specs.Lists.{every}
use Rattle.heartbeat.specs.declared.Heartbeat.{Heartbeat}
use Rattle.heartbeat.specs.Rank.{higher}
use Rattle.heartbeat.specs.Heartbeat.{sender}
use Rattle.group.specs.Table.{most}
use Rattle.group.specs.Hearing.{link_of}
use Rattle.wiring.specs.Members.{Member, nobody, identity_of}

-- a group: its present frame, kept by whoever has the clock; sixteen places by rising identity,
-- some empty; and which links are whole, kept by whoever holds them
pub record Group : Type 0 where
  pub frame : ℕ
  pub members : List Member
  pub whole : List Bool

abbrev pub member_at : Group → ℕ → Member
member_at g i = get_or g.members i nobody

-- identity 0 "means nobody"
abbrev pub is_vacant : Member → Bool
is_vacant m = eqb (identity_of m) 0

-- the link from place i to place j is whole
abbrev pub linked : Group → ℕ → ℕ → Bool
linked g i j = get_or g.whole (link_of i j) false

-- a server stands in place i
pub record Seated (g : Group) (i : ℕ) : Type 0 where
  pub place : i < most
  pub server : is_vacant (member_at g i) ≡ false

-- ---- what comes

-- the heartbeats of hs with the TieBreaker x, in their order
unfoldable pub from : ℕ → List Heartbeat → List Heartbeat
from x [] = []
from x (h ∷ hs) = elim (eqb h.tiebreaker x) [ true ↦ h ∷ from x hs | false ↦ from x hs ]

-- "heard .. by every other server whose link from the sender is whole at the end of frame t": what
-- place j gets of what place i sent. Of itself nothing
abbrev pub gets : Group → ℕ → ℕ → List Heartbeat
gets g j i = choose (not (eqb i j) && linked g i j) (member_at g i).sent []

-- the heartbeat h is of a server of the group
pub record OfMember (g : Group) (h : Heartbeat) : Type 0 where
  pub place : ℕ
  pub seated : Seated g place
  pub identity : identity_of (member_at g place) ≡ h.tiebreaker

-- what comes to place j, senders in any order and mixed: of each server all that it gets, each
-- heartbeat once and in the order sent, and nothing else
pub record Comes (g : Group) (j : ℕ) (hs : List Heartbeat) : Type 0 where
  pub each : (i : ℕ) → Seated g i → from (identity_of (member_at g i)) hs ≡ gets g j i
  pub known : (h : Heartbeat) → Memᴰ h hs → OfMember g h

-- ---- what is heard

-- "From the highest sender to the lowest": none stands after a lower one
unfoldable pub falling : List Heartbeat → Bool
falling [] = true
falling (h ∷ hs) = every (λ k. not (higher (sender k) (sender h))) hs && falling hs

-- what place j hears, in this order: what comes to it, the highest sender first
pub record Heard (g : Group) (j : ℕ) (hs : List Heartbeat) : Type 0 where
  pub comes : Comes g j hs
  pub order : falling hs ≡ true

-- ---- the order, made: "sort ..; each heartbeat is put behind all that are not lower"

-- h put before the first that is lower
unfoldable pub keep : Heartbeat → List Heartbeat → List Heartbeat
keep h [] = h ∷ []
keep h (k ∷ l) = elim (higher (sender h) (sender k)) [ true ↦ h ∷ k ∷ l | false ↦ k ∷ keep h l ]

-- what comes, put one by one to what is kept so far
unfoldable pub sorted : List Heartbeat → List Heartbeat → List Heartbeat
sorted l [] = l
sorted l (h ∷ hs) = sorted (keep h l) hs
