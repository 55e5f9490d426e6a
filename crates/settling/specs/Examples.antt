-- Lists of calls that the theorem is about, worked out. The lists stand in specs/Worked.antt of the
-- crate reached.
use Rattle.std.specs.Prelude.{◌≡◌, List, [], ◌∷◌, ℕ}
use Rattle.heartbeat.specs.declared.Rank.{Rank}
use Rattle.group.specs.Table.{table_of, fresh_refusal}
use Rattle.group.specs.Frame.{advanced}
use Rattle.group.specs.Calls.{Call, advance_to, channel_after}
pub use Rattle.reached.specs.Worked.{ranked, three_highest, two_highest, roles_of, lent, all_ready, late_ready, lower_beats, slowest, passing, two_primaries, opened}
use Rattle.group.specs.Links.{NoLinkCut}

-- what holds of the servers rs and the list ks, which ends in frame 13: the table is taken, no link
-- is cut, and the roles when the list ends, in frame t + 1, and in frame t + 4 × P + 2 = 27
pub record Example (rs : List Rank) (ks : List Call) (ended next settled : List ℕ) : Type 0 where
  pub table : fresh_refusal (table_of rs) 3 ≡ 0
  pub uncut : NoLinkCut (opened rs) ks
  pub ends : (channel_after (opened rs) ks).frame ≡ 13
  pub roles : roles_of (channel_after (opened rs) ks) ≡ ended
  pub after : roles_of (advanced (channel_after (opened rs) ks)) ≡ next
  pub later : roles_of (channel_after (channel_after (opened rs) ks) (advance_to 27 lent ∷ [])) ≡ settled

pub record Examples : Type 0 where
  -- 1 is the one, and not the highest
  pub lower-beats : Example three_highest lower_beats (5 ∷ 3 ∷ 3 ∷ []) (5 ∷ 3 ∷ 3 ∷ []) (5 ∷ 3 ∷ 3 ∷ [])
  -- nobody is prospect or primary at the end of frame t + 1, and the highest is the one
  pub takes_all : Example three_highest slowest (3 ∷ 5 ∷ 3 ∷ []) (3 ∷ 3 ∷ 3 ∷ []) (3 ∷ 3 ∷ 5 ∷ [])
  -- so too where the highest has neither the greatest identity nor the least
  pub by-priority : Example two_highest late_ready (3 ∷ 3 ∷ 3 ∷ []) (3 ∷ 3 ∷ 3 ∷ []) (3 ∷ 5 ∷ 3 ∷ [])
  -- the pass is heard in frame t + 1
  pub passes : Example three_highest passing (3 ∷ 3 ∷ 3 ∷ []) (4 ∷ 3 ∷ 3 ∷ []) (5 ∷ 3 ∷ 3 ∷ [])
  -- two primaries, of which the higher is the one
  pub two-beat : Example three_highest two_primaries (3 ∷ 5 ∷ 5 ∷ []) (3 ∷ 3 ∷ 5 ∷ []) (3 ∷ 3 ∷ 5 ∷ [])
  -- not a frame sooner: 3 is prospect in frame t + 4 × P + 1
  pub needs_all : roles_of (channel_after (channel_after (opened three_highest) slowest) (advance_to 26 lent ∷ [])) ≡ 3 ∷ 3 ∷ 4 ∷ []
