-- The empty table, with what holds of all plain values and all calls: what is handed back can be
-- handed in. proofs/Staying.antt proves it.
use Rattle.std.specs.Prelude.{true, ◌&&◌, List, ◌≡◌, ℕ}
use Rattle.group.specs.Table.{empty}
use Rattle.group.specs.Advance.{step_outcome, time_outcome}
use Rattle.group.specs.Verbs.{verb_outcome}
use Rattle.plain.specs.declared.PlainFront.{PlainFront}
use Rattle.plain.specs.declared.PlainHeartbeat.{PlainHeartbeat}
use Rattle.plain.specs.declared.PlainTable.{PlainTable}
use Rattle.plain.specs.declared.PlainChannel.{PlainChannel}
use Rattle.plain.specs.Numbers.{is_verb, verb_of}
use Rattle.plain.specs.Plain.{is_front, is_table, plain_table, is_channel, channel_of}
use Rattle.plain.specs.Laws.{Laws}
use Rattle.playout.specs.declared.FrontHeard.{FrontHeard}
use Rattle.playout.specs.declared.FrontTimed.{FrontTimed}
use Rattle.playout.specs.declared.FrontActed.{FrontActed}
use Rattle.playout.specs.declared.TableAdded.{TableAdded}
use Rattle.playout.specs.declared.ChannelOpened.{ChannelOpened}
use Rattle.playout.specs.declared.ChannelAnswered.{ChannelAnswered}
use Rattle.playout.specs.Front.{front_made, Begins, Hears, Ticks, Acts}
use Rattle.playout.specs.Channel.{Adds, Opens, Answers}
use Rattle.playout.specs.Chains.{PlainCallsSettle}

-- what is made decodes, and what decodes does so after every step of a front and every call, also
-- one that is refused
pub record StaysPlain : Type 0 where
  pub made : (i q n : ℕ) → (front_made i q n).number ≡ 0 → is_front (front_made i q n).front ≡ true
  pub begins : (p : PlainFront) (n : ℕ) (p' : PlainFront) → is_front p ≡ true → Begins p n p' → is_front p' ≡ true
  pub hears : (p : PlainFront) (h : PlainHeartbeat) (r : FrontHeard) (p' : PlainFront) → is_front p ≡ true → Hears p h r p' → is_front p' ≡ true
  pub ticks : (p : PlainFront) (r : FrontTimed) (p' : PlainFront) → is_front p ≡ true → Ticks p r p' → is_front p' ≡ true
  pub acts : (p : PlainFront) (v b : ℕ) (r : FrontActed) (p' : PlainFront) → is_front p ≡ true → Acts p v b r p' → is_front p' ≡ true
  pub adds : (p : PlainTable) (i q : ℕ) (r : TableAdded) → is_table p ≡ true → Adds p i q r → is_table r.table ≡ true
  pub opens : (p : PlainTable) (n : ℕ) (r : ChannelOpened) → Opens p n r → r.number ≡ 0 → is_channel r.channel ≡ true
  pub advances :
      (p : PlainChannel) (d : List ℕ) (r : ChannelAnswered) (d' : List ℕ) →
      is_channel p ≡ true → Answers (is_channel p) p (step_outcome (channel_of p)) d r d' → is_channel r.channel ≡ true
  pub reaches :
      (p : PlainChannel) (t : ℕ) (d : List ℕ) (r : ChannelAnswered) (d' : List ℕ) →
      is_channel p ≡ true → Answers (is_channel p) p (time_outcome (channel_of p) t) d r d' → is_channel r.channel ≡ true
  pub verbs :
      (p : PlainChannel) (v a b : ℕ) (d : List ℕ) (r : ChannelAnswered) (d' : List ℕ) →
      is_channel p ≡ true → Answers (is_channel p && is_verb v) p (verb_outcome (channel_of p) (verb_of v) a b) d r d' → is_channel r.channel ≡ true

-- the table of no server, and the laws
pub record Empties (r : PlainTable) : Type 0 where
  pub table : r ≡ plain_table empty
  pub laws : Laws
  pub stays : StaysPlain
  -- demand 3, of a channel that is held as plain integers
  pub settles : PlainCallsSettle
