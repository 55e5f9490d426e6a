-- What the calls of a channel answer: what is said of its state, over the struct that has the
-- calls.
use Rattle.std.specs.Prelude.{◌≡◌, List, ℕ, ◌-◌, eqb, Err}
use Rattle.lists.specs.Choice.{choose}
use Rattle.refusal.specs.declared.Refusal.{Refusal}
use Rattle.refusal.specs.Answer.{of_verdict}
use Rattle.group.specs.declared.State.{State}
use Rattle.group.specs.declared.Table.{Table}
use Rattle.group.specs.Table.{fresh_refusal, fresh}
use Rattle.group.specs.Outcome.{Outcome}
use Rattle.group.specs.Answers.{no_channel, Gives}
use Rattle.frame.specs.Answers.{verdict_of, bytes_of}
use Rattle.channel.specs.declared.Channel.{Channel}
use Rattle.channel.specs.declared.Opened.{Opened}
use Rattle.channel.specs.declared.Answer.{Answer}
use Rattle.channel.specs.declared.Within.{Within}

-- a channel is its state, and every contract speaks of it through this
abbrev pub state : Channel → State
state c = c.state

-- the fresh channel of the table t with the period n, or `no_channel` where it is refused, on which
-- document 01 is silent
pub record Opens (t : Table) (n : ℕ) (r : Opened) : Type 0 where
  pub number : of_verdict r.verdict ≡ fresh_refusal t n
  pub channel : state r.channel ≡ choose (eqb (fresh_refusal t n) 0) (fresh t n) no_channel

-- a listed call on the channel c with the lent slice d: its answer, and the slice afterwards.
-- (`write_refused`, which changes no channel, hands none back and is not said by this.)
pub record Answers (c : Channel) (o : Outcome) (d : List ℕ) (r : Answer) (d' : List ℕ) : Type 0 where
  pub gives : Gives (state c) o d (verdict_of r.written) (bytes_of r.written) (state r.channel) d'
  -- "Any of them returns its number and the same channel"
  pub same : (k : Refusal) → r.written ≡ Err k → r.channel ≡ c

-- the advance within a slice: its answer, and how many frames it made
pub record AnswersWithin (c : Channel) (o : Outcome) (d : List ℕ) (r : Within) (d' : List ℕ) : Type 0 where
  pub gives : Gives (state c) o d (verdict_of r.written) (bytes_of r.written) (state r.channel) d'
  pub frames : r.frames ≡ (state r.channel).frame - (state c).frame
  pub same : (n : Refusal) → r.written ≡ Err n → r.channel ≡ c
