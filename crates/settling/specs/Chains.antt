-- Demand 3 of single calls, by what they hand back: the numbers that they get, and the channels.
use Rattle.std.specs.Prelude.{Bool, true, false, not, ◌&&◌, ◌≡◌, List, [], ◌∷◌, ℕ, ◌+◌, ◌<◌, ◌≤◌, eqb}
use Rattle.lists.specs.Choice.{choose}
use Rattle.group.specs.declared.State.{State}
use Rattle.group.specs.Table.{most}
use Rattle.group.specs.Hearing.{place}
use Rattle.group.specs.Frame.{advanced}
use Rattle.group.specs.Advance.{advanced_by}
use Rattle.group.specs.Calls.{Call}
use Rattle.group.specs.Links.{cut_by_call}
use Rattle.settling.specs.Demand.{is_verb, InThoseRoles, NoneProspectOrPrimary, HighestOfThem, Led, settling_time}

-- X are the channels as a caller holds them and K the calls on them. `Called x k n y` is what the
-- contract of the call k on x says: it gets the number n, 0 where it is accepted, and hands back y.
-- `state_of` is what a channel stands for, and `call_of` which call of document 01 a call is
module _ {X K : Type 0} (Called : X → K → ℕ → X → Type 0) (state_of : X → State) (call_of : K → Call) where
  -- "Each later call gets the channel that the call before it handed back, after a refusal too, and
  -- nothing else changes the channel in between": from x on, the calls ks get the numbers ns and
  -- the last hands back y
  pub data Chain : X → List K → List ℕ → X → Type 0 where
    none : {x : X} → Chain x [] [] x
    next : {x y z : X} {k : K} {n : ℕ} {ks : List K} {ns : List ℕ} → Called x k n y → Chain y ks ns z → Chain x (k ∷ ks) (n ∷ ns) z

  -- "A link is cut if the last accepted `cut` or `mend` of it was a `cut`": the link from the
  -- identity a to the identity b, by the numbers that the calls got
  unfoldable pub cut_by : ℕ → ℕ → List K → List ℕ → Bool → Bool
  cut_by a b [] ns was = was
  cut_by a b (k ∷ ks) [] was = was
  cut_by a b (k ∷ ks) (n ∷ ns) was = cut_by a b ks ns (choose (eqb n 0) (cut_by_call a b (call_of k) was) was)

  abbrev pub NoLinkCutBy : List K → List ℕ → Type 0
  NoLinkCutBy ks ns = (a b : ℕ) → cut_by a b ks ns false ≡ false

  -- "each verb is refused, and an advance may be"
  unfoldable pub verbs_refused_by : List K → List ℕ → Bool
  verbs_refused_by [] ns = true
  verbs_refused_by (k ∷ ks) [] = true
  verbs_refused_by (k ∷ ks) (n ∷ ns) = choose (is_verb (call_of k)) (not (eqb n 0)) true && verbs_refused_by ks ns

  -- the channel x is settled w frames later: as `Settles` has it, of the channels handed back
  pub record ChainSettles (w : ℕ) (x : X) : Type 0 where
    pub server : ℕ
    pub known : server < most
    pub seated : 0 < (place (state_of x) server).identity
    pub was : InThoseRoles (state_of x) server
    pub led :
        (ls : List K) (ns : List ℕ) (y : X) → Chain x ls ns y → verbs_refused_by ls ns ≡ true → (state_of x).frame + w ≤ (state_of y).frame →
        Led (state_of x) server (state_of y)
    -- also in the frames inside of an advance over several
    pub within : (k : ℕ) → w ≤ k → Led (state_of x) server (advanced_by k (state_of x))
    -- (demand 3) "the next frame after the one the list ends in" is the same however it is reached
    pub next :
        (ls : List K) (ns : List ℕ) (y : X) → Chain x ls ns y → verbs_refused_by ls ns ≡ true → (state_of y).frame ≡ (state_of x).frame + 1 →
        state_of y ≡ advanced (state_of x)
    -- (demand 3) "none was prospect or primary, the one chosen is the highest"
    pub highest : NoneProspectOrPrimary (advanced (state_of x)) → HighestOfThem (state_of x) server

  -- demand 3 of every chain of calls from x on, a fresh channel with the period n
  abbrev pub ChainsSettle : ℕ → X → Type 0
  ChainsSettle n x =
      (ks : List K) (ns : List ℕ) (y : X) → Chain x ks ns y → NoLinkCutBy ks ns →
      (i : ℕ) → i < most → InThoseRoles (state_of y) i → ChainSettles (settling_time n) y
