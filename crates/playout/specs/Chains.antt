-- Demand 3 of the calls of a channel, by their contracts alone.
use Rattle.std.specs.Prelude.{◌&&◌, List, ◌≡◌, ℕ}
use Rattle.lists.specs.Choice.{choose}
use Rattle.roles.specs.declared.Verb.TheVariants.{Start}
use Rattle.group.specs.Advance.{step_outcome, time_outcome}
use Rattle.group.specs.Verbs.{verb_outcome}
use Rattle.group.specs.Calls as group
use Rattle.plain.specs.declared.PlainTable.{PlainTable}
use Rattle.plain.specs.declared.PlainChannel.{PlainChannel}
use Rattle.plain.specs.Numbers.{is_verb, verb_of}
use Rattle.plain.specs.Plain.{is_channel, channel_of}
use Rattle.settling.specs.Chains.{ChainsSettle}
use Rattle.playout.specs.declared.ChannelOpened.{ChannelOpened}
use Rattle.playout.specs.declared.ChannelAnswered.{ChannelAnswered}
use Rattle.playout.specs.Channel.{Opens, Answers}

-- a call of `playout_channel_verb`, `_advance` or `_advance_to` with its lent slice; a verb by its
-- number
pub data PlainCall : Type 0 where
  verb : ℕ → ℕ → ℕ → List ℕ → PlainCall
  advance : List ℕ → PlainCall
  advance_to : ℕ → List ℕ → PlainCall

-- which call of document 01 it is. A number that is no verb's gets 2 and changes nothing, as a verb
-- of nobody does
unfoldable pub call_of : PlainCall → group.Call
call_of (verb v a b d) = choose (is_verb v) (group.verb (verb_of v) a b d) (group.verb Start 0 0 d)
call_of (advance d) = group.advance d
call_of (advance_to t d) = group.advance_to t d

-- what the contract of the call says of its answer
abbrev pub AnswersCall : PlainChannel → PlainCall → ChannelAnswered → List ℕ → Type 0
AnswersCall p (verb v a b d) r d' = Answers (is_channel p && is_verb v) p (verb_outcome (channel_of p) (verb_of v) a b) d r d'
AnswersCall p (advance d) r d' = Answers (is_channel p) p (step_outcome (channel_of p)) d r d'
AnswersCall p (advance_to t d) r d' = Answers (is_channel p) p (time_outcome (channel_of p) t) d r d'

-- it gets the number n and hands back q
pub record Called (p : PlainChannel) (k : PlainCall) (n : ℕ) (q : PlainChannel) : Type 0 where
  pub answer : ChannelAnswered
  pub slice : List ℕ
  pub answers : AnswersCall p k answer slice
  pub number : n ≡ answer.number
  pub channel : q ≡ answer.channel

-- of every channel that `playout_channel_fresh` opened
abbrev pub PlainCallsSettle : Type 0
PlainCallsSettle = (p : PlainTable) (n : ℕ) (r : ChannelOpened) → Opens p n r → r.number ≡ 0 → ChainsSettle Called channel_of call_of n r.channel
