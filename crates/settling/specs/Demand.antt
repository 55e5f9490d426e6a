-- Demand 3, as "Lists of calls" of document 01 reads it, of the definitions of the calls. Quotes
-- marked (demand 3) are the demand's own words, the others document 01's. The proof is `settles` of
-- proofs/Demand.antt.
use Rattle.std.specs.Prelude.{Bool, true, false, not, ◌&&◌, ◌≡◌, ◌⊎◌, ◌≢◌, List, [], ◌∷◌, ℕ, ◌+◌, ◌*◌, ◌<◌, ◌≤◌, eqb}
use Rattle.lists.specs.Choice.{choose}
use Rattle.roles.specs.declared.Role.TheVariants.{Backup, Primary}
use Rattle.server.specs.Server.{rank_of}
use Rattle.group.specs.declared.Table.{Table}
use Rattle.group.specs.declared.State.{State}
use Rattle.group.specs.Table.{most, fresh_refusal, fresh}
use Rattle.group.specs.Hearing.{place, over}
use Rattle.group.specs.Frame.{advanced}
use Rattle.group.specs.Advance.{advanced_by}
use Rattle.group.specs.Calls.{Call, verb, advance, advance_to, call_number, call_channel, channel_after}
use Rattle.roles.specs.Roles.{is_active, is_beating}
use Rattle.group.specs.Links.{NoLinkCut}

abbrev pub is_verb : Call → Bool
is_verb (verb v a b d) = true
is_verb (advance d) = false
is_verb (advance_to t d) = false

-- "each verb is refused, and an advance may be"
abbrev pub refused_if_verb : State → Call → Bool
refused_if_verb c k = choose (is_verb k) (not (eqb (call_number c k) 0)) true

-- "In the calls that follow it, made in the same way, .."
unfoldable pub verbs_refused : State → List Call → Bool
verbs_refused c [] = true
verbs_refused c (k ∷ ks) = refused_if_verb c k && verbs_refused (call_channel c k) ks

-- (demand 3) "in backup, prospect or primary": the server of place i
abbrev pub InThoseRoles : State → ℕ → Type 0
InThoseRoles c i = is_active (place c i).role ≡ true

-- (demand 3) "none was prospect or primary"
abbrev pub NoneProspectOrPrimary : State → Type 0
NoneProspectOrPrimary c = (i : ℕ) → i < most → is_beating (place c i).role ≡ false

-- (demand 3) "the highest of the servers that were in those roles after the list"
abbrev pub HighestOfThem : State → ℕ → Type 0
HighestOfThem c h = (i : ℕ) → i < most → InThoseRoles c i → (i ≡ h) ⊎ (over c h i ≡ true)

-- (demand 3) "exactly one server is primary, .. and each other server that was in one of those
-- roles after the list is in backup": c is the channel after the first list, d the one after the
-- calls that follow, h the place of the one server. A place keeps its identity and its priority;
-- that it has kept those of the table during the first list is `KeepsItsTable` of the crate group
pub record Led (c : State) (h : ℕ) (d : State) : Type 0 where
  pub primary : (place d h).role ≡ Primary
  pub alone : (i : ℕ) → i < most → (place d i).role ≡ Primary → i ≡ h
  pub backups : (i : ℕ) → i < most → i ≢ h → InThoseRoles c i → (place d i).role ≡ Backup
  pub ranks : (i : ℕ) → i < most → rank_of (place d i) ≡ rank_of (place c i)

-- (demand 3) "4 periods and 2 frames after the frame the list ends in"
abbrev pub settling_time : ℕ → ℕ
settling_time n = 4 * n + 2

-- the channel c is settled w frames later; (demand 3) "always the same one"
pub record Settles (w : ℕ) (c : State) : Type 0 where
  pub server : ℕ
  pub known : server < most
  -- it is a server of the table: no empty place
  pub seated : 0 < (place c server).identity
  pub was : InThoseRoles c server
  -- (demand 3) "if the day is that long, and in each later frame of it": a frame that calls do not
  -- reach is none of them
  pub led : (ls : List Call) → verbs_refused c ls ≡ true → c.frame + w ≤ (channel_after c ls).frame → Led c server (channel_after c ls)
  -- "an accepted one over several frames is as many advances" (`AsManyAdvances` of the crate
  -- group): the frames inside of it, too. Said of every number of frames, also of one that the day
  -- is too short for
  pub within : (k : ℕ) → w ≤ k → Led c server (advanced_by k c)
  -- (demand 3) "If at the end of the next frame after the one the list ends in none was prospect or
  -- primary, the one chosen is the highest"
  pub highest : NoneProspectOrPrimary (advanced c) → HighestOfThem c server

-- (demand 3) "This holds for every list of calls from a fresh channel, refused ones included:
-- suppose that after the list no link is cut and at least one server is in backup, prospect or
-- primary": a channel with the period n is settled w frames later. "any table and P that are not
-- refused"
abbrev pub SettlesIn : ℕ → ℕ → Type 0
SettlesIn n w =
    (t : Table) (ks : List Call) → fresh_refusal t n ≡ 0 → NoLinkCut (fresh t n) ks →
    (i : ℕ) → i < most → InThoseRoles (channel_after (fresh t n) ks) i → Settles w (channel_after (fresh t n) ks)

-- demand 3, for every period
abbrev pub DemandThree : Type 0
DemandThree = (n : ℕ) → SettlesIn n (settling_time n)
