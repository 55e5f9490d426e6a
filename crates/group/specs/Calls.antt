-- "Lists of calls".
use Rattle.std.specs.Prelude.{List, [], ◌∷◌, ℕ, length}
use Rattle.roles.specs.declared.Verb.{Verb}
use Rattle.group.specs.declared.State.{State}
use Rattle.group.specs.Outcome.{Outcome, number_in, channel_in, slice_in}
use Rattle.group.specs.Verbs.{verb_outcome}
use Rattle.group.specs.Advance.{step_outcome, time_outcome}

-- "The calls may have any identities, .. any times and any lent slice": a verb with its identities
-- (the second is not looked at where the verb has one only), the advance by one frame, the advance
-- to a time; the last argument is the lent slice. Identities have no upper limit here: that is the
-- type's. "the sheet line of a refusal is written by a call after it": that one (`write_refused` of
-- the crate channel) only reads the frame and changes no channel, so it is no `Call` of a list
pub data Call : Type 0 where
  verb : Verb → ℕ → ℕ → List ℕ → Call
  advance : List ℕ → Call
  advance_to : ℕ → List ℕ → Call

abbrev pub outcome_of : State → Call → Outcome
outcome_of c (verb v a b d) = verb_outcome c v a b
outcome_of c (advance d) = step_outcome c
outcome_of c (advance_to t d) = time_outcome c t

abbrev pub slice_of : Call → List ℕ
slice_of (verb v a b d) = d
slice_of (advance d) = d
slice_of (advance_to t d) = d

-- the number that a call gets (0: it is accepted), the channel that it hands back, and its lent
-- slice afterwards
unfoldable pub call_number : State → Call → ℕ
call_number c k = number_in (outcome_of c k) (length (slice_of k))

unfoldable pub call_channel : State → Call → State
call_channel c k = channel_in c (outcome_of c k) (length (slice_of k))

unfoldable pub call_slice : State → Call → List ℕ
call_slice c k = slice_in (outcome_of c k) (slice_of k)

-- "Each later call gets the channel that the call before it handed back, after a refusal too"
unfoldable pub channel_after : State → List Call → State
channel_after c [] = c
channel_after c (k ∷ ks) = channel_after (call_channel c k) ks

unfoldable pub numbers_of : State → List Call → List ℕ
numbers_of c [] = []
numbers_of c (k ∷ ks) = call_number c k ∷ numbers_of (call_channel c k) ks
