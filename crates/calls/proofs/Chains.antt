-- Demand 3 of single calls. Assumes nothing.
use mathlib.Core.Path.{◌≡◌, refl, sym, ap, ◌∙◌}
use Prim.Native.Nat.{ℕ}
use borrow.Author.Tests.{eq-eqb}
use Rattle.lists.proofs.Cases.{chosen}
use Rattle.group.specs.Outcome.{number_in, channel_in}
use Rattle.group.specs.Calls.{Call, call_number, call_channel}
use Rattle.channel.specs.declared.Channel.{Channel}
use Rattle.channel.specs.Answers.{state}
use Rattle.settling.proofs.Chains.{chains_settle}
use Rattle.calls.specs.Chains.{Called, itself, SingleCallsSettle}

-- nothing has to be kept: every call is what the definitions say, on every channel
abbrev Any : Channel → Type 0
Any c = c ≡ c

follows : (c : Channel) (k : Call) (n : ℕ) (e : Channel) → Any c → Called c k n e → Any e × ((n ≡ call_number (state c) k) × (state e ≡ call_channel (state c) k))
unfolding call_number call_channel
follows c k n e _ q = (refl, (q.number ∙ q.answers.gives.number, ap state q.channel ∙ q.answers.gives.channel))

pub single_calls_settle : SingleCallsSettle
single_calls_settle t n r o e =
    let ok = sym o.number ∙ e in
    chains_settle Called state itself Any follows t n r.channel refl ok (o.channel ∙ chosen _ (eq-eqb _ 0 ok))
