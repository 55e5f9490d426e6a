-- Who hears whom, and in what order.
use Rattle.std.specs.Prelude.{Bool, true, false, not, ◌&&◌, List, [], ◌∷◌, ◌++◌, ℕ, zero, suc, ◌+◌, ◌*◌, ltb, eqb, get_or}
use Rattle.lists.specs.Choice.{choose}
use Rattle.heartbeat.specs.declared.Heartbeat.{Heartbeat}
use Rattle.heartbeat.specs.Rank.{higher}
use Rattle.server.specs.declared.Server.{Server}
use Rattle.server.specs.Server.{absent, rank_of, sent_by, sent_any}
use Rattle.group.specs.declared.State.{State}
use Rattle.group.specs.Table.{most}

abbrev pub place : State → ℕ → Server
place c i = get_or c.servers i absent

-- where the link from place i to place j is kept
abbrev pub link_of : ℕ → ℕ → ℕ
link_of i j = most * i + j

-- whether it is whole
abbrev pub whole : State → ℕ → ℕ → Bool
whole c i j = get_or c.whole (link_of i j) false

-- "heard in frame t + 1 by every other server whose link from the sender is whole at the end of
-- frame t": place j hears place i. No role is looked at: "what it sent counts even if it is in
-- backup at the frame's end"
unfoldable pub hears_from : State → ℕ → ℕ → Bool
hears_from c j i = not (eqb i j) && (sent_any (place c i) && whole c i j)

-- place a is higher than place b
abbrev pub over : State → ℕ → ℕ → Bool
over c a b = higher (rank_of (place c a)) (rank_of (place c b))

-- a place, where 16 stands for none
abbrev pub no_place : ℕ
no_place = most

abbrev pub is_place : ℕ → Bool
is_place i = ltb i most

-- place j hears place i, which comes after the place last and before the best found so far (16:
-- none)
unfoldable pub comes : State → ℕ → ℕ → ℕ → ℕ → Bool
comes c j last best i =
    hears_from c j i && (choose (is_place last) (over c last i) true && choose (is_place best) (over c i best) true)

-- "A server hears senders from highest to lowest": of the first n places, the highest that place j
-- hears and that is lower than the last. Of two places that sent and have one rank only the first
-- is heard; no two servers of a table have one rank, so document 01 is silent on it
unfoldable pub next_among : State → ℕ → ℕ → ℕ → ℕ
next_among c j last zero = no_place
next_among c j last (suc n) = let best = next_among c j last n in choose (comes c j last best n) n best

unfoldable pub next_sender : State → ℕ → ℕ → ℕ
next_sender c j last = next_among c j last most

-- the places that place j hears after the place last, from highest to lowest, n at the most
unfoldable pub senders_after : State → ℕ → ℕ → ℕ → List ℕ
senders_after c j zero last = []
senders_after c j (suc n) last =
    let next = next_sender c j last in elim (is_place next) [ true ↦ next ∷ senders_after c j n next | false ↦ [] ]

abbrev pub senders : State → ℕ → List ℕ
senders c j = senders_after c j most no_place

-- "and one sender's heartbeats in the order sent"
unfoldable pub sent_by_all : State → List ℕ → List Heartbeat
sent_by_all c [] = []
sent_by_all c (i ∷ is) = sent_by (place c i) ++ sent_by_all c is

-- all that place j hears
unfoldable pub inbox : State → ℕ → List Heartbeat
inbox c j = sent_by_all c (senders c j)
