-- "Hearing, one heartbeat at a time".
use Rattle.std.specs.Prelude.{Bool, not, ◌&&◌, List, [], ◌∷◌, ℕ, eqb}
use Rattle.lists.specs.Choice.{choose}
use Rattle.heartbeat.specs.declared.Heartbeat.{Heartbeat}
use Rattle.heartbeat.specs.Rank.{higher, lower}
use Rattle.heartbeat.specs.Heartbeat.{sender, is_set}
use Rattle.roles.specs.declared.Role.{Role}
use Rattle.roles.specs.declared.Role.TheVariants.{Down, Idle, Sync, Backup, Prospect, Primary}
use Rattle.roles.specs.declared.Event.{Event}
use Rattle.roles.specs.declared.Event.TheVariants.{Nothing, ToBackup, ToProspectBeat, ToProspectReveal, Lower, LowerBeat, Beat}
use Rattle.server.specs.declared.Server.{Server}
use Rattle.server.specs.declared.Heard.{Heard}
use Rattle.server.specs.Server.{rank_of, set_silence, sent_any, after}

-- "higher sender", "lower sender": of the hearer s. A heartbeat of TieBreaker 0 is heard like any
-- other: no line has it, and the library for C gives it 2
abbrev pub from_higher : Server → Heartbeat → Bool
from_higher s h = higher (sender h) (rank_of s)

abbrev pub from_lower : Server → Heartbeat → Bool
from_lower s h = lower (sender h) (rank_of s)

-- "BS .. is this identity"; 0 is nobody's
unfoldable pub for_this : Server → Heartbeat → Bool
for_this s h = not (eqb h.bs 0) && eqb h.bs s.identity

-- "Reveal is set and the sender is lower"
abbrev pub lower_reveals : Server → Heartbeat → Bool
lower_reveals s h = is_set h.reveal && from_lower s h

-- "Then, if BS .. is this identity: to prospect, sending a plain beat. Else, if Reveal is set and
-- the sender is lower: to prospect, sending a reveal."
unfoldable pub backup_hears : Server → Heartbeat → Event
backup_hears s h = choose (for_this s h) ToProspectBeat (choose (lower_reveals s h) ToProspectReveal Nothing)

-- "once only, and not if it has already sent in that frame" (document 02, A.2): a reply counts as
-- sent, so no second one follows in the frame
unfoldable pub replies : Server → Heartbeat → Bool
replies s h = lower_reveals s h && not (sent_any s)

-- "prospect or primary, higher sender: to backup, silence age 0. BS is not looked at." And "hears a
-- reveal from a lower sender sends a plain beat in that frame .. its beat age becomes 0" (A.2); of
-- document 01's "Prospect, lower sender: nothing" the rest stays
unfoldable pub prospect_hears : Server → Heartbeat → Event
prospect_hears s h = choose (from_higher s h) ToBackup (choose (replies s h) Beat Nothing)

-- "primary, lower sender: a note `lower`"; where it replies (A.2), both in one event
unfoldable pub primary_hears : Server → Heartbeat → Event
primary_hears s h = choose (from_higher s h) ToBackup (choose (replies s h) LowerBeat (choose (from_lower s h) Lower Nothing))

-- "down, idle, sync: nothing"
abbrev pub hears_in : Role → Server → Heartbeat → Event
hears_in Down s h = Nothing
hears_in Idle s h = Nothing
hears_in Sync s h = Nothing
hears_in Backup s h = backup_hears s h
hears_in Prospect s h = prospect_hears s h
hears_in Primary s h = primary_hears s h

abbrev pub hears : Server → Heartbeat → Event
hears s h = hears_in s.role s h

-- "backup: silence age to 0. Then ..": a backup that hears sets its silence timer, whatever comes
-- of it
abbrev pub attending : ℕ → Role → Server → Server
attending t Down s = s
attending t Idle s = s
attending t Sync s = s
attending t Backup s = set_silence t s
attending t Prospect s = s
attending t Primary s = s

-- the server after hearing h in frame t, and what happened
abbrev pub heard : ℕ → Server → Heartbeat → Heard
heard t s h = record { server = after t (attending t s.role s) (hears s h); event = hears s h }

-- "Hearing, one heartbeat at a time": the server after it heard all of a list in frame t
unfoldable pub heard_all : ℕ → Server → List Heartbeat → Server
heard_all t s [] = s
heard_all t s (h ∷ hs) = heard_all t (heard t s h).server hs
