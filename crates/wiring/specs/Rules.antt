-- The number of the rules, and what servers that play by the same rules have of it; and how much
-- they send and hear in a frame.
use Rattle.std.specs.Prelude.{◌≡◌, ℕ}
use Rattle.wiring.specs.Same.{OneSheet, ProtocolCanBeMet, SortedIsHeard, ListsCanBeWired, AnyOrderComes, InactiveHearAnything, most_heard, FewAreSent, FewAreHeard}
use Rattle.wiring.specs.Settles.{GroupsSettle, FramesMayFollow, RefusedMayFollow}
use Rattle.wiring.specs.Anew.{NewFrontsGoOn}
use Rattle.wiring.specs.Days.{OneSheetOfADay, DaysCanBePlayed, DaysAreRead}

-- 1 for the rules of document 01, 2 since a reveal gets a reply (A.2); one more with every change
-- of the rules that a sheet can show
abbrev pub rules_number : ℕ
rules_number = 2

pub record Rules (r : ℕ) : Type 0 where
  pub number : r ≡ rules_number
  -- one sheet, whoever builds the server
  pub sheets : OneSheet
  pub days : OneSheetOfADay
  pub played : DaysCanBePlayed
  pub anew : NewFrontsGoOn
  pub met : ProtocolCanBeMet
  pub sorted : SortedIsHeard
  pub settles : GroupsSettle
  pub wired : ListsCanBeWired
  pub comes : AnyOrderComes
  pub anything : InactiveHearAnything
  pub read : DaysAreRead
  pub follow : FramesMayFollow
  pub among : RefusedMayFollow

-- ---- how much may be sent and come in a frame

pub record MostHeard (r : ℕ) : Type 0 where
  pub figure : r ≡ most_heard
  pub sent : FewAreSent
  pub few : FewAreHeard
