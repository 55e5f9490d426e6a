-- What private functions answer. Nothing is promised here.
use Rattle.std.specs.Prelude.{List, ◌++◌, ◌≡◌, ℕ, length, take, drop, Err}
use Rattle.lists.specs.Splice.{splice}
use Rattle.refusal.specs.Answer.{of_verdict}
use Rattle.group.specs.declared.State.{State}
use Rattle.refusal.specs.declared.Refusal.{Refusal}
use Rattle.group.specs.Answers.{no_channel}
use Rattle.channel.specs.declared.Answer.{Answer}
use Rattle.channel.specs.Answers.{state}
use Rattle.calls.specs.declared.Ended.{Ended}
use Rattle.group.specs.Calls.{call_number, call_channel, call_slice, channel_after, numbers_of}
use Rattle.calls.specs.Encoding.{call_of, calls_of}
use Rattle.calls.specs.Running.{bytes_after}
use Rattle.frame.specs.Answers.{verdict_of}

-- the call of the number k, lent the first m bytes of d
pub record OneCall (c : State) (k m : ℕ) (d : List ℕ) (r : Answer) (d' : List ℕ) : Type 0 where
  pub number : of_verdict (verdict_of r.written) ≡ call_number c (call_of k (take m d))
  pub channel : state r.channel ≡ call_channel c (call_of k (take m d))
  pub slice : d' ≡ call_slice c (call_of k (take m d)) ++ drop m d

-- no call is made, and the list gets k
pub record Unopened (k : Refusal) (r : Ended) : Type 0 where
  pub verdict : r.verdict ≡ Err k
  pub channel : state r.channel ≡ no_channel

-- all the calls
pub record ListRuns (c : State) (ks d e : List ℕ) (r : State) (d' e' : List ℕ) : Type 0 where
  pub channel : r ≡ channel_after c (calls_of (length d) ks)
  pub numbers : e' ≡ splice e 0 (numbers_of c (calls_of (length d) ks))
  pub bytes : d' ≡ bytes_after c d ks
