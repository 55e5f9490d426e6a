-- What the calls answer.
use Rattle.std.specs.Prelude.{◌≡◌, List, ℕ, eqb, length, Result}
use Rattle.lists.specs.Choice.{choose}
use Rattle.refusal.specs.Answer.{of_verdict}
use Rattle.server.specs.declared.Server.{Server}
use Rattle.periods.specs.Period.{least_period}
use Rattle.group.specs.declared.Table.{Table}
use Rattle.group.specs.declared.State.{State}
use Rattle.group.specs.declared.Added.{Added}
use Rattle.group.specs.declared.Opened.{Opened}
use Rattle.group.specs.Outcome.{Outcome, number_in, channel_in, written_in, slice_in}
use Rattle.group.specs.Table.{empty, is_table, table_with, add_refusal, added, fresh_refusal, fresh}
use Rattle.group.specs.Laws.{Laws}
use Rattle.refusal.specs.declared.Refusal.{Refusal}

-- adding a server of identity i and priority p to the table t
pub record Adds (t : Table) (i p : ℕ) (r : Added) : Type 0 where
  pub number : of_verdict r.verdict ≡ add_refusal t i
  pub table : r.table ≡ added t i p

-- the table of the servers l; 2 where adding does not make them
pub record Takes (l : List Server) (r : Added) : Type 0 where
  pub number : of_verdict r.verdict ≡ choose (is_table l) 0 2
  pub table : r.table ≡ table_with l

-- the state that is handed back where no channel is opened: one with no server. Document 01 is
-- silent on it
abbrev pub no_channel : State
no_channel = fresh empty least_period

-- the fresh channel of the table t with the period n, or `no_channel` where it is refused
pub record Opens (t : Table) (n : ℕ) (r : Opened) : Type 0 where
  pub number : of_verdict r.verdict ≡ fresh_refusal t n
  pub state : r.state ≡ choose (eqb (fresh_refusal t n) 0) (fresh t n) no_channel
  -- and what holds of every table and of every call on every channel
  pub laws : Laws

-- a call on the channel c with the lent slice d: its verdict, how many bytes it wrote, the channel
-- x that it hands back, and the slice afterwards
pub record Gives (c : State) (o : Outcome) (d : List ℕ) (v : Result (Unit {0}) Refusal) (n : ℕ) (x : State) (d' : List ℕ) : Type 0 where
  pub number : of_verdict v ≡ number_in o (length d)
  pub written : n ≡ written_in o (length d)
  pub channel : x ≡ channel_in c o (length d)
  pub slice : d' ≡ slice_in o d
