-- The figure of demand 3.
use Rattle.std.specs.Prelude.{◌≡◌, ℕ}
use Rattle.settling.specs.Demand.{settling_time, SettlesIn}
use Rattle.settling.specs.Examples.{Examples}
use Rattle.settling.specs.Sending.{SentInOrder, SendersAlwaysDiffer}
use Rattle.settling.specs.Whole.{LinksAreAsCut}

-- what is said of the frames within which a channel with the period n settles
pub record SettlingFrames (n w : ℕ) : Type 0 where
  pub figure : w ≡ settling_time n
  pub settles : SettlesIn n w
  -- whatever the period: lists of calls worked out, in which order servers send, that senders have
  -- different ranks, and which links are whole
  pub examples : Examples
  pub ordered : SentInOrder
  pub differ : SendersAlwaysDiffer
  pub links : LinksAreAsCut
