-- What an advance of the servers answers.
use Rattle.std.specs.Prelude.{List, ◌≡◌, ℕ, length, Err}
use Rattle.refusal.specs.declared.Refusal.{Refusal}
use Rattle.group.specs.declared.State.{State}
use Rattle.group.specs.Outcome.{Outcome, channel_in}
use Rattle.group.specs.Answers.{Gives}
use Rattle.group.specs.Frame.{moved_to}
use Rattle.frames.specs.declared.Advance.{Advance}
use Rattle.frames.specs.declared.Ran.{Ran}
use Rattle.places.specs.Words.{servers_of, Becomes}
use Rattle.frame.specs.Answers.{verdict_of, bytes_of}

-- an advance of the channel c, whose servers have the numbers w, with the lent slice d: its answer,
-- and the slice afterwards. Period and links stay
pub record Advances (c : State) (o : Outcome) (w d : List ℕ) (r : Advance) (d' : List ℕ) : Type 0 where
  pub gives : Gives c o d (verdict_of r.written) (bytes_of r.written) (moved_to c r.frame (servers_of r.words)) d'
  pub words : Becomes w (channel_in c o (length d)).servers r.words
  -- where it is refused, each number is as it was
  pub same : (k : Refusal) → r.written ≡ Err k → r.words ≡ w

-- the same in place: w' are the numbers afterwards
pub record AdvancesIn (c : State) (o : Outcome) (w d : List ℕ) (r : Ran) (w' d' : List ℕ) : Type 0 where
  pub gives : Gives c o d (verdict_of r.written) (bytes_of r.written) (moved_to c r.frame (servers_of w')) d'
  pub words : Becomes w (channel_in c o (length d)).servers w'
  -- where it is refused, each lent number is as it was
  pub same : (k : Refusal) → r.written ≡ Err k → w' ≡ w
