-- What private functions answer. Nothing is promised here.
use Rattle.std.specs.Prelude.{List, ◌≡◌, ℕ, leb, eqb, get_or}
use Rattle.lists.specs.Choice.{choose}
use Rattle.refusal.specs.Answer.{Answer, of_verdict}
use Rattle.roles.specs.Roles.{role_number}
use Rattle.server.specs.Verbs.{verb_answer}
use Rattle.front.specs.Front.{goes_on, risen, hearing, timing, happens}
use Rattle.channel.specs.declared.Answer as calls
use Rattle.channel.specs.Answers.{state}
use Rattle.group.specs.declared.State.{State}
use Rattle.group.specs.Table.{add_refusal, added, fresh_refusal, fresh}
use Rattle.plain.specs.declared.PlainFront.{PlainFront}
use Rattle.plain.specs.declared.PlainHeartbeat.{PlainHeartbeat}
use Rattle.plain.specs.declared.PlainTable.{PlainTable}
use Rattle.plain.specs.declared.PlainChannel.{PlainChannel}
use Rattle.plain.specs.Numbers.{verb_of, event_number}
use Rattle.plain.specs.Plain.{server_of, front_of, plain_front, heartbeat_of, table_of, plain_table, plain_channel, no_channel}
use Rattle.playout.specs.declared.FrontMade.{FrontMade}
use Rattle.playout.specs.declared.FrontActed.{FrontActed}
use Rattle.front.specs.declared.After.{After}
use Rattle.playout.specs.declared.PlainWritten.{PlainWritten}
use Rattle.playout.specs.declared.TableAdded.{TableAdded}
use Rattle.playout.specs.declared.ChannelOpened.{ChannelOpened}
use Rattle.playout.specs.declared.ChannelAnswered.{ChannelAnswered}
use Rattle.playout.specs.Front.{ill, heard_numbers, timed_numbers, after_verb}
use Rattle.frame.specs.Answers.{verdict_of, bytes_of}
use Rattle.playout.specs.declared.FrontHeard.{FrontHeard}
use Rattle.playout.specs.declared.FrontTimed.{FrontTimed}

-- the front of its numbers, in the order of `front_numbers` in the crate front
abbrev pub of_numbers : List ℕ → PlainFront
of_numbers l =
    record {
      server =
          record {
            identity = get_or l 0 0;
            priority = get_or l 1 0;
            role = get_or l 2 0;
            silence = get_or l 3 0;
            beat = get_or l 4 0;
            prospect = get_or l 5 0;
            pass = get_or l 8 0;
            beats = get_or l 6 0;
            reveal = get_or l 7 0;
          };
      frame = get_or l 9 0;
      period = get_or l 10 0;
    }

abbrev pub made_of : Answer → FrontMade
made_of a = record { number = a.number; front = of_numbers a.values }

-- ---- steps of a front that decodes

pub record BeginsWell (p : PlainFront) (r : After PlainFront ℕ) : Type 0 where
  pub number : r.answer ≡ choose (goes_on (front_of p)) 0 16
  pub front : r.front ≡ plain_front (choose (goes_on (front_of p)) (risen (front_of p)) (front_of p))

abbrev pub hears_well : PlainFront → PlainHeartbeat → After PlainFront FrontHeard
hears_well p h = let r = hearing (front_of p) (heartbeat_of h) in record { front = plain_front r.front; answer = heard_numbers r.answer }

abbrev pub ticks_well : PlainFront → After PlainFront FrontTimed
ticks_well p = let r = timing (front_of p) in record { front = plain_front r.front; answer = timed_numbers r.answer }

-- the answer of a verb that gets the number n
abbrev pub acted_as : ℕ → ℕ → ℕ → FrontActed
acted_as n e r = record { number = n; event = choose (eqb n 0) e 0; role = choose (eqb n 0) r 0 }

pub record ActsWell (p : PlainFront) (v b : ℕ) (r : After PlainFront FrontActed) : Type 0 where
  pub answer : r.answer ≡ acted_as (verb_answer (verb_of v) b (server_of p.server)).number (event_number (happens (verb_of v) b (front_of p))) (role_number (after_verb (verb_of v) b (front_of p)).server.role)
  pub front : r.front ≡ plain_front (after_verb (verb_of v) b (front_of p))

-- ---- lines

-- the place after lines in a slice of so many bytes, as an answer: 9 beyond its end
abbrev pub written_to : ℕ → ℕ → PlainWritten
written_to at room = record { number = choose (leb at room) 0 9; written = choose (leb at room) at 0 }

-- ---- tables and channels that decode

pub record AddsWell (p : PlainTable) (i q : ℕ) (r : TableAdded) : Type 0 where
  pub number : r.number ≡ add_refusal (table_of p) i
  pub table : r.table ≡ plain_table (added (table_of p) i q)

-- the answer of an opening that gets the number n
abbrev pub opened_as : ℕ → State → ChannelOpened
opened_as n c = record { number = n; channel = choose (eqb n 0) (plain_channel c) no_channel }

pub record OpensWell (p : PlainTable) (n : ℕ) (r : ChannelOpened) : Type 0 where
  pub number : r.number ≡ fresh_refusal (table_of p) n
  pub channel : r.channel ≡ choose (eqb (fresh_refusal (table_of p) n) 0) (plain_channel (fresh (table_of p) n)) no_channel

abbrev pub answered : calls.Answer → ChannelAnswered
answered a = record { number = of_verdict (verdict_of a.written); written = bytes_of a.written; channel = plain_channel (state a.channel) }

abbrev pub unanswered : PlainChannel → ChannelAnswered
unanswered p = record { number = ill; written = 0; channel = p }
