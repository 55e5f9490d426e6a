-- Demand 3 of single calls of `Channel`, by their contracts alone. (`advance_within` is none of
-- document 01's calls; what it hands back, single advances could have: `WithinIsAdvances` of group.)
use Rattle.std.specs.Prelude.{◌≡◌, List, ℕ}
use Rattle.refusal.specs.Answer.{of_verdict}
use Rattle.group.specs.declared.Table.{Table}
use Rattle.group.specs.Calls.{Call, outcome_of, slice_of}
use Rattle.channel.specs.declared.Channel.{Channel}
use Rattle.channel.specs.declared.Answer.{Answer}
use Rattle.channel.specs.declared.Opened.{Opened}
use Rattle.channel.specs.Answers.{state, Opens, Answers}
use Rattle.settling.specs.Chains.{ChainsSettle}
use Rattle.frame.specs.Answers.{verdict_of}

-- what the contract of the call k says of the channel c: it gets the number n and hands back e
pub record Called (c : Channel) (k : Call) (n : ℕ) (e : Channel) : Type 0 where
  pub answer : Answer
  pub slice : List ℕ
  pub answers : Answers c (outcome_of (state c) k) (slice_of k) answer slice
  pub number : n ≡ of_verdict (verdict_of answer.written)
  pub channel : e ≡ answer.channel

-- a call is that of document 01 as it stands
abbrev pub itself : Call → Call
itself k = k

-- "Its first call gets a fresh channel, with any table and P that are not refused"
abbrev pub SingleCallsSettle : Type 0
SingleCallsSettle = (t : Table) (n : ℕ) (r : Opened) → Opens t n r → of_verdict r.verdict ≡ 0 → ChainsSettle Called state itself n r.channel
