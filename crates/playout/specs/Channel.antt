-- What the calls of a table and of a channel answer, as equations on plain integers.
use Rattle.std.specs.Prelude.{Bool, List, ◌≡◌, ℕ, eqb, length}
use Rattle.lists.specs.Choice.{choose}
use Rattle.group.specs.Table.{add_refusal, added, fresh_refusal, fresh}
use Rattle.group.specs.Outcome.{Outcome, number_in, written_in, slice_in}
use Rattle.plain.specs.declared.PlainTable.{PlainTable}
use Rattle.plain.specs.declared.PlainChannel.{PlainChannel}
use Rattle.plain.specs.Plain.{is_table, table_of, plain_table, plain_channel, no_channel}
use Rattle.playout.specs.declared.TableAdded.{TableAdded}
use Rattle.playout.specs.declared.ChannelOpened.{ChannelOpened}
use Rattle.playout.specs.declared.ChannelAnswered.{ChannelAnswered}
use Rattle.playout.specs.Front.{ill}

-- the number that a server more gets: 2 for a table that does not decode, else 2, 5, 6
unfoldable pub add_number : PlainTable → ℕ → ℕ
add_number p i = choose (is_table p) (add_refusal (table_of p) i) ill

-- the table p with a server of identity i and priority q; the same where it is refused
pub record Adds (p : PlainTable) (i q : ℕ) (r : TableAdded) : Type 0 where
  pub number : r.number ≡ add_number p i
  pub table : r.table ≡ choose (eqb (add_number p i) 0) (plain_table (added (table_of p) i q)) p

-- the number that a fresh channel gets: 2 for a table that does not decode, else 2, 6, 7
unfoldable pub fresh_number : PlainTable → ℕ → ℕ
fresh_number p n = choose (is_table p) (fresh_refusal (table_of p) n) ill

-- the fresh channel of the table p with the period n; zeros where it is refused
pub record Opens (p : PlainTable) (n : ℕ) (r : ChannelOpened) : Type 0 where
  pub number : r.number ≡ fresh_number p n
  pub channel : r.channel ≡ choose (eqb (fresh_number p n) 0) (plain_channel (fresh (table_of p) n)) no_channel

-- an outcome of what decodes; of what does not, 2
unfoldable pub checked : Bool → Outcome → Outcome
checked ok o = record { number = choose ok o.number ill; lines = o.lines; channel = o.channel }

-- a call on the channel p with the lent slice d, and with the outcome o where ok holds: its answer,
-- and the slice afterwards. Where it is refused, the same channel
pub record Answers (ok : Bool) (p : PlainChannel) (o : Outcome) (d : List ℕ) (r : ChannelAnswered) (d' : List ℕ) : Type 0 where
  pub number : r.number ≡ number_in (checked ok o) (length d)
  pub written : r.written ≡ written_in (checked ok o) (length d)
  pub channel : r.channel ≡ choose (eqb (number_in (checked ok o) (length d)) 0) (plain_channel o.channel) p
  pub slice : d' ≡ slice_in (checked ok o) d
