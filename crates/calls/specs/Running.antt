-- A whole list of calls, from a fresh channel on.
use Rattle.std.specs.Prelude.{List, [], ◌∷◌, ◌++◌, ◌≡◌, ℕ, ◌<◌, eqb, leb, length, take, drop}
use Rattle.lists.specs.Choice.{choose}
use Rattle.lists.specs.Splice.{splice}
use Rattle.refusal.specs.Answer.{of_verdict}
use Rattle.group.specs.declared.Table.{Table}
use Rattle.group.specs.declared.State.{State}
use Rattle.group.specs.Table.{most, fresh_refusal, fresh}
use Rattle.group.specs.Answers.{no_channel}
use Rattle.group.specs.Calls.{Call, call_channel, call_slice, channel_after, numbers_of}
use Rattle.channel.specs.Answers.{state}
use Rattle.group.specs.Links.{NoLinkCut}
use Rattle.settling.specs.Demand.{InThoseRoles, settling_time, Settles}
use Rattle.calls.specs.declared.Ended.{Ended}
use Rattle.calls.specs.Chains.{SingleCallsSettle}
use Rattle.calls.specs.Encoding.{call_of, calls_of, EveryListEncodes}

-- the bytes d that the calls are lent one after the other, after all of them
unfoldable pub bytes_after : State → List ℕ → List ℕ → List ℕ
bytes_after c d [] = d
bytes_after c d (k ∷ []) = d
bytes_after c d (k ∷ m ∷ ks) = let call = call_of k (take m d) in bytes_after (call_channel c call) (call_slice c call ++ drop m d) ks

-- "Its first call gets a fresh channel, with any table and P that are not refused. Each later call
-- gets the channel that the call before it handed back": the calls that the numbers ks encode, each
-- lent the first bytes of d, on the fresh channel of the table t with the period n. What each call
-- gets, 0 where it is accepted, goes to e
module _ (t : Table) (n : ℕ) (ks d e : List ℕ) where
  abbrev pub listed : List Call
  listed = calls_of (length d) ks

  -- what the list as a whole gets: 2, 6 or 7 where no channel is opened, 9 where e has fewer places
  -- than there are calls. Then no call is made, and `no_channel` is handed back, on which document
  -- 01 is silent
  unfoldable pub list_refusal : ℕ
  list_refusal = choose (eqb (fresh_refusal t n) 0) (choose (leb (length listed) (length e)) 0 9) (fresh_refusal t n)

  pub record RunsList (r : Ended) (d' e' : List ℕ) : Type 0 where
    pub number : of_verdict r.verdict ≡ list_refusal
    pub channel : state r.channel ≡ choose (eqb list_refusal 0) (channel_after (fresh t n) listed) no_channel
    pub numbers : e' ≡ choose (eqb list_refusal 0) (splice e 0 (numbers_of (fresh t n) listed)) e
    pub bytes : d' ≡ choose (eqb list_refusal 0) (bytes_after (fresh t n) d ks) d
    -- every list of calls with identities up to 65,535, times up to 4,294,967,295 and slices no
    -- longer than the one lent here has such numbers
    pub encodes : EveryListEncodes
    -- demand 3, of the channel that the list ends with
    pub settles :
        of_verdict r.verdict ≡ 0 → NoLinkCut (fresh t n) listed → (i : ℕ) → i < most → InThoseRoles (state r.channel) i →
        Settles (settling_time n) (state r.channel)
    -- and of single calls, of which no list is made
    pub singly : SingleCallsSettle
