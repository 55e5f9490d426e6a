-- The number of the rules, for servers that hold plain structs; and the order of hearing, made by
-- `playout_higher`.
use Rattle.std.specs.Prelude.{true, false, List, [], ◌∷◌, map, ◌≡◌, ℕ, eqb}
use Rattle.group.specs.declared.Table.{Table}
use Rattle.group.specs.Table.{fresh_refusal}
use Rattle.plain.specs.declared.PlainHeartbeat.{PlainHeartbeat}
use Rattle.plain.specs.Plain.{heartbeat_of}
use Rattle.playout.specs.Writing.{plain_higher}
use Rattle.wiring.specs.Heard.{Comes, Heard}
use Rattle.wiring.specs.Rules.{rules_number}
use Rattle.plainwiring.specs.Group.{PlainGroup, group_from, new_plain_group, PlainMove, PlainPlays, PlainGroupsPlay, MovesAlwaysGo, PlainGroupsCanPlay, PlainGroupsSettle}

-- h put before the first that is lower, by `playout_higher`
unfoldable pub keep_plain : PlainHeartbeat → List PlainHeartbeat → List PlainHeartbeat
keep_plain h [] = h ∷ []
keep_plain h (k ∷ l) = elim (eqb (plain_higher h k) 1) [ true ↦ h ∷ k ∷ l | false ↦ k ∷ keep_plain h l ]

-- what comes, put one by one to what is kept so far
unfoldable pub sorted_plain : List PlainHeartbeat → List PlainHeartbeat → List PlainHeartbeat
sorted_plain l [] = l
sorted_plain l (h ∷ hs) = sorted_plain (keep_plain h l) hs

-- so what comes in any interleaving of senders is heard as it must be, in every group that was
-- played by the protocol
abbrev pub PlainSortIsHeard : Type 0
PlainSortIsHeard =
    (t : Table) (n : ℕ) (ms : List PlainMove) (ns : List ℕ) (d : PlainGroup) (w : List ℕ) → fresh_refusal t n ≡ 0 →
    PlainPlays (new_plain_group t n) ms ns d w → (j : ℕ) (hs : List PlainHeartbeat) → Comes (group_from d) j (map heartbeat_of hs) →
    Heard (group_from d) j (map heartbeat_of (sorted_plain [] hs))

-- servers that hold plain structs and play by the rules of this number
pub record PlainRules (r : ℕ) : Type 0 where
  pub number : r ≡ rules_number
  pub groups : PlainGroupsPlay
  pub go : MovesAlwaysGo
  pub played : PlainGroupsCanPlay
  pub sorted : PlainSortIsHeard
  pub settles : PlainGroupsSettle
