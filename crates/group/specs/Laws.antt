-- Laws of tables, and of hearing and of every call on every channel, whether calls reach that
-- channel or not. The contract of `State::fresh` has them all (`Laws`, below); the proof is `laws`
-- of proofs/Laws.antt.
use Rattle.std.specs.Prelude.{true, false, not, ◌≡◌, ◌≢◌, ◌⊎◌, ℕ, suc, ◌+◌, ◌-◌, ◌≤◌, ◌<◌, eqb, length, drop, replicate, get_or}
use mathlib.Core.List.{List, [], ◌∷◌, ◌++◌, Memᴰ}
use Rattle.lists.specs.Choice.{choose}
use Rattle.heartbeat.specs.declared.Rank.{Rank}
use Rattle.heartbeat.specs.declared.Heartbeat.{Heartbeat}
use Rattle.roles.specs.declared.Verb.{Verb}
use Rattle.roles.specs.Roles.{is_beating}
use Rattle.roles.specs.declared.Role.{Role}
use Rattle.roles.specs.declared.Role.TheVariants.{Down, Idle, Sync, Backup, Prospect, Primary}
use Rattle.roles.specs.declared.Word.TheVariants as word
use Rattle.roles.specs.declared.Said.{Said}
use Rattle.roles.specs.declared.Said.TheVariants as says
use Rattle.roles.specs.Words.{said}
use Rattle.server.specs.declared.Server.{Server}
use Rattle.server.specs.Server.{absent, rank_of, beat_now, cleared, sent_by, sent_any}
use Rattle.server.specs.Hearing.{from_higher, from_lower, lower_reveals, replies, heard, heard_all}
use Rattle.group.specs.declared.Table.{Table}
use Rattle.group.specs.declared.State.{State}
use Rattle.group.specs.Outcome.{written_in}
use Rattle.group.specs.Table.{most, anew, is_table, table_of, fresh_refusal, fresh}
use Rattle.group.specs.Hearing.{place, link_of, whole, hears_from, over, no_place, senders}
use Rattle.group.specs.Frame.{hearing}
use Rattle.group.specs.Verbs.{place_of}
use Rattle.group.specs.Advance.{advanced_by, lines_by, frames_within, within_outcome}
use Rattle.group.specs.Links.{cut_by_verb}
use Rattle.group.specs.Calls.{Call, verb, advance, advance_to, outcome_of, slice_of, call_number, call_channel, call_slice, channel_after, numbers_of}

-- ---- tables

abbrev pub server_at : Table → ℕ → Server
server_at t i = get_or t.servers i absent

pub record InOrder (t : Table) : Type 0 where
  pub places : length t.servers ≡ most
  -- a server stands behind servers of lesser identity only: identities rise, each stands once, and
  -- empty places come last
  pub rising :
      (i j : ℕ) → i < j → j < most → 0 < (server_at t j).identity →
      (0 < (server_at t i).identity) × ((server_at t i).identity < (server_at t j).identity)
  -- "all servers idle .. nothing sent"
  pub idles : (i : ℕ) → i < most → server_at t i ≡ anew (server_at t i)

-- so is every table that is made by adding servers
abbrev pub TablesInOrder : Type 0
TablesInOrder = (rs : List Rank) → InOrder (table_of rs)

-- adding makes the servers l
pub record IsMade (l : List Server) : Type 0 where
  pub ranks : List Rank
  pub made : table_of ranks ≡ record { servers = l }

-- `is_table` holds of the servers that adding makes, and of no others
pub record AddingMakes : Type 0 where
  pub each : (rs : List Rank) → is_table (table_of rs).servers ≡ true
  pub only : (l : List Server) → is_table l ≡ true → IsMade l

-- a channel that is not refused has the servers of its table
abbrev pub FreshHasItsTable : Type 0
FreshHasItsTable = (t : Table) (n : ℕ) → fresh_refusal t n ≡ 0 → (is_table t.servers ≡ true) × ((fresh t n).servers ≡ t.servers)

-- ---- hearing

-- the servers that sent have different ranks
abbrev pub SendersDiffer : State → Type 0
SendersDiffer c =
    (a b : ℕ) → a < most → b < most → a ≢ b → sent_any (place c a) ≡ true → sent_any (place c b) ≡ true → rank_of (place c a) ≢ rank_of (place c b)

abbrev pub sender_at : State → ℕ → ℕ → ℕ
sender_at c j n = get_or (senders c j) n no_place

-- the senders of place j are all places that it hears, each once, from the highest to the lowest
pub record HearsInOrder (c : State) (j : ℕ) : Type 0 where
  pub heard : (i : ℕ) → Memᴰ i (senders c j) → (i < most) × (hears_from c j i ≡ true)
  pub all : (i : ℕ) → i < most → hears_from c j i ≡ true → Memᴰ i (senders c j)
  pub once : (m n : ℕ) → m < n → n < length (senders c j) → sender_at c j m ≢ sender_at c j n
  pub falling : (m n : ℕ) → m < n → n < length (senders c j) → over c (sender_at c j m) (sender_at c j n) ≡ true

-- so it is wherever senders differ; calls reach no other channel (`SendersAlwaysDiffer` of the
-- crate settling)
abbrev pub AllHearInOrder : Type 0
AllHearInOrder = (c : State) → SendersDiffer c → (j : ℕ) → HearsInOrder c j

-- "heard in frame t + 1": what is sent in a frame is not heard in it. Where nobody sent in the
-- frame before, a server only has its timers
abbrev pub NothingSentNothingHeard : Type 0
NothingSentNothingHeard =
    (c : State) → ((i : ℕ) → i < most → sent_any (place c i) ≡ false) → (t j : ℕ) (s : Server) → hearing c t j s ≡ cleared s

-- "the reply follows any `lower` note of the same heartbeat", which only a primary makes
abbrev pub reply_said : Role → Said
reply_said Down = says.Nothing
reply_said Idle = says.Nothing
reply_said Sync = says.Nothing
reply_said Backup = says.Nothing
reply_said Prospect = says.One word.Beat
reply_said Primary = says.Two word.Lower word.Beat

-- "sends a plain beat in that frame, once only .. its beat age becomes 0" (document 02, A.2): that
-- is all that becomes of the server, and nothing that it hears after it in the frame gets a reply
pub record Replied (t : ℕ) (s : Server) (h : Heartbeat) : Type 0 where
  pub beat : (heard t s h).server ≡ beat_now t s
  pub says : said (heard t s h).event ≡ reply_said s.role
  pub once : (hs : List Heartbeat) (k : Heartbeat) → replies (heard_all t (heard t s h).server hs) k ≡ false

-- so it is with "a prospect or primary that hears a reveal from a lower sender .. and not if it has
-- already sent in that frame"
abbrev pub RevealsGetReplies : Type 0
RevealsGetReplies = (t : ℕ) (s : Server) (h : Heartbeat) → is_beating s.role ≡ true → lower_reveals s h ≡ true → sent_any s ≡ false → Replied t s h

-- "primary, lower sender: a note `lower`", for each heartbeat; "Prospect, lower sender: nothing"
abbrev pub note_said : Role → Said
note_said Down = says.Nothing
note_said Idle = says.Nothing
note_said Sync = says.Nothing
note_said Backup = says.Nothing
note_said Prospect = says.Nothing
note_said Primary = says.One word.Lower

-- and else it sends nothing for what it hears
abbrev pub NothingElseGetsOne : Type 0
NothingElseGetsOne =
    (t : ℕ) (s : Server) (h : Heartbeat) → is_beating s.role ≡ true → (lower_reveals s h ≡ false) ⊎ (sent_any s ≡ true) → sent_by (heard t s h).server ≡ sent_by s

-- nothing becomes of it then unless the sender is higher, and of a lower sender it makes its note
-- alone
pub record NotReplied (t : ℕ) (s : Server) (h : Heartbeat) : Type 0 where
  pub same : from_higher s h ≡ false → (heard t s h).server ≡ s
  pub says : from_lower s h ≡ true → said (heard t s h).event ≡ note_said s.role

abbrev pub OnlyANoteIsMade : Type 0
OnlyANoteIsMade =
    (t : ℕ) (s : Server) (h : Heartbeat) → is_beating s.role ≡ true → (lower_reveals s h ≡ false) ⊎ (sent_any s ≡ true) → NotReplied t s h

-- ---- one call

-- the lines of a call, where it is accepted, and how many bytes it writes
abbrev pub call_lines : State → Call → List ℕ
call_lines c k = (outcome_of c k).lines

abbrev pub call_written : State → Call → ℕ
call_written c k = written_in (outcome_of c k) (length (slice_of k))

pub record Unchanged (c : State) (k : Call) : Type 0 where
  pub channel : call_channel c k ≡ c
  pub slice : call_slice c k ≡ slice_of k
  pub written : call_written c k ≡ 0

-- a refused call hands back the same channel and the same slice, and writes nothing
abbrev pub RefusedChangesNothing : Type 0
RefusedChangesNothing = (c : State) (k : Call) → call_number c k ≢ 0 → Unchanged c k

pub record WritesItsLines (c : State) (k : Call) : Type 0 where
  pub room : length (call_lines c k) ≤ length (slice_of k)
  pub slice : call_slice c k ≡ call_lines c k ++ drop (length (call_lines c k)) (slice_of k)
  pub written : call_written c k ≡ length (call_lines c k)

-- an accepted call writes its lines to the front of its slice, which has room for them, and leaves
-- the rest as it was
abbrev pub AcceptedWritesItsLines : Type 0
AcceptedWritesItsLines = (c : State) (k : Call) → call_number c k ≡ 0 → WritesItsLines c k

pub record KeepsItsTable (c d : State) : Type 0 where
  pub period : d.period ≡ c.period
  pub places : length d.servers ≡ length c.servers
  pub ranks : (i : ℕ) → rank_of (place d i) ≡ rank_of (place c i)

-- after any call the period is the same, there are as many places, and each has the same identity
-- and priority
abbrev pub EveryCallKeepsTheTable : Type 0
EveryCallKeepsTheTable = (c : State) (k : Call) → KeepsItsTable c (call_channel c k)

-- the frame after an accepted call
abbrev pub frame_then : State → Call → ℕ
frame_then c (verb v a b d) = c.frame
frame_then c (advance d) = c.frame + 1
frame_then c (advance_to t d) = t

-- an accepted verb leaves the frame, an accepted advance makes it one more, one to a time makes it
-- that time; a refused call leaves it
abbrev pub FramesCounted : Type 0
FramesCounted = (c : State) (k : Call) → (call_channel c k).frame ≡ choose (eqb (call_number c k) 0) (frame_then c k) c.frame

-- a verb, accepted or not, changes no server but the acting one: neither its role nor anything else
-- of it
abbrev pub OthersStay : Type 0
OthersStay = (c : State) (v : Verb) (a b : ℕ) (d : List ℕ) (i : ℕ) → i ≢ place_of c a → place (call_channel c (verb v a b d)) i ≡ place c i

-- "the link from a to b only": a verb, accepted or not, leaves every other link as it was
abbrev pub OtherLinksStay : Type 0
OtherLinksStay =
    (c : State) (v : Verb) (a b : ℕ) (d : List ℕ) (i j : ℕ) → link_of i j ≢ link_of (place_of c a) (place_of c b) →
    whole (call_channel c (verb v a b d)) i j ≡ whole c i j

-- an accepted `cut` or `mend` leaves its link as `cut_by_verb` says, another verb as it was
abbrev pub ItsLinkIsAsCut : Type 0
ItsLinkIsAsCut =
    (c : State) (v : Verb) (a b : ℕ) (d : List ℕ) → call_number c (verb v a b d) ≡ 0 → link_of (place_of c a) (place_of c b) < length c.whole →
    whole (call_channel c (verb v a b d)) (place_of c a) (place_of c b) ≡ not (cut_by_verb v (not (whole c (place_of c a) (place_of c b))))

-- ---- lists of calls

pub record Joins (c : State) (ks ls : List Call) : Type 0 where
  pub channel : channel_after c (ks ++ ls) ≡ channel_after (channel_after c ks) ls
  pub numbers : numbers_of c (ks ++ ls) ≡ numbers_of c ks ++ numbers_of (channel_after c ks) ls

-- two lists of calls, one after the other, are one list
abbrev pub ListsJoin : Type 0
ListsJoin = (c : State) (ks ls : List Call) → Joins c ks ls

-- the lines of a list of calls, joined: a refused call has none
unfoldable pub lines_after : State → List Call → List ℕ
lines_after c [] = []
lines_after c (k ∷ ks) = choose (eqb (call_number c k) 0) (call_lines c k) [] ++ lines_after (call_channel c k) ks

-- the call k is the accepted calls ks
pub record IsAll (c : State) (k : Call) (ks : List Call) : Type 0 where
  pub numbers : numbers_of c ks ≡ replicate (length ks) 0
  pub channel : call_channel c k ≡ channel_after c ks
  pub lines : call_lines c k ≡ lines_after c ks

-- "an accepted one over several frames is as many advances": with the same slice, all of them are
-- accepted
abbrev pub AsManyAdvances : Type 0
AsManyAdvances =
    (c : State) (t : ℕ) (d : List ℕ) → call_number c (advance_to t d) ≡ 0 →
    IsAll c (advance_to t d) (replicate (t - c.frame) (advance d))

-- the n frames after c are as many accepted advances with the slice d
pub record AreAdvances (c : State) (n : ℕ) (d : List ℕ) : Type 0 where
  pub numbers : numbers_of c (replicate n (advance d)) ≡ replicate n 0
  pub channel : channel_after c (replicate n (advance d)) ≡ advanced_by n c
  pub lines : lines_after c (replicate n (advance d)) ≡ lines_by n c

-- so are the frames of an advance within a slice: what it hands back, a list of calls could have.
-- They are no more than asked for, and their lines fit
abbrev pub WithinIsAdvances : Type 0
WithinIsAdvances =
    (c : State) (t : ℕ) (d : List ℕ) → (within_outcome c t (length d)).number ≡ 0 →
    (frames_within c t (length d) ≤ t - c.frame) × ((length (within_outcome c t (length d)).lines ≤ length d) × AreAdvances c (frames_within c t (length d)) d)

-- and they are as many as fit: the lines of one frame more would not
abbrev pub OneMoreDoesNotFit : Type 0
OneMoreDoesNotFit = (c : State) (t room : ℕ) → frames_within c t room < t - c.frame → room < length (lines_by (suc (frames_within c t room)) c)

-- ---- all of them

pub record Laws : Type 0 where
  pub tables : TablesInOrder
  pub adding : AddingMakes
  pub opening : FreshHasItsTable
  pub order : AllHearInOrder
  pub silence : NothingSentNothingHeard
  pub replies : RevealsGetReplies
  pub unasked : NothingElseGetsOne
  pub noted : OnlyANoteIsMade
  pub refused : RefusedChangesNothing
  pub accepted : AcceptedWritesItsLines
  pub table : EveryCallKeepsTheTable
  pub frames : FramesCounted
  pub others : OthersStay
  pub links : OtherLinksStay
  pub link : ItsLinkIsAsCut
  pub joined : ListsJoin
  pub advances : AsManyAdvances
  pub within : WithinIsAdvances
  pub most : OneMoreDoesNotFit
