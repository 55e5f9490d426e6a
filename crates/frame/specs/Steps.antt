-- What private functions answer. Nothing is promised here.
use Rattle.std.specs.Prelude.{Bool, true, false, not, ◌&&◌, ◌≡◌, List, [], ◌∷◌, ◌++◌, ℕ, zero, suc, ◌+◌, ◌*◌, ◌/◌, ◌%◌, ◌<◌, ◌≤◌, ltb, leb, eqb, length, take, get_or, set}
use Rattle.lists.specs.Choice.{choose}
use Rattle.lists.specs.Lists.{map_from, any_below}
use Rattle.lists.specs.Splice.{splice}
use Rattle.heartbeat.specs.declared.Heartbeat.{Heartbeat}
use Rattle.roles.specs.declared.Role.TheVariants.{Down}
use Rattle.roles.specs.declared.Event.TheVariants.{Nothing}
use Rattle.periods.specs.declared.Period.{Period}
use Rattle.server.specs.declared.Server.{Server}
use Rattle.server.specs.declared.Timed.{Timed}
use Rattle.server.specs.Server.{absent, set_silence, cleared, sent_by, sent_any}
use Rattle.server.specs.Timers.{aged, timed}
use Rattle.lines.specs.Lines.{place_after}
use Rattle.group.specs.declared.State.{State}
use Rattle.group.specs.Table.{most}
use Rattle.group.specs.Hearing.{is_place}
use Rattle.server.specs.Hearing.{heard_all}
use Rattle.group.specs.Frame.{heard_lines, timed_lines, advanced, frame_lines}
use Rattle.frame.specs.declared.Told.{Told}
use Rattle.places.specs.Words.{priority_unit, reveal_unit, beats_unit, sending_end, rank_number, sending_number}
use Rattle.places.specs.Roles.{is_backup, is_prospect, is_still}
use Rattle.places.specs.Order.{comes_by, heard_by}
use Rattle.frame.specs.Answers.{frame_bytes}

-- ---- lines, written or only counted

-- A run of writes is wet, or dry: then it only counts. r is the place after w. Where w fits, a wet
-- run leaves it at its place in d and nothing else changed; a dry run changes nothing
pub record Out (wet : Bool) (d : List ℕ) (at : ℕ) (w : List ℕ) (r : ℕ) (d' : List ℕ) : Type 0 where
  pub end : at ≤ length d + 1 → r ≡ place_after d at w
  pub is : wet ≡ true → at + length w ≤ length d → d' ≡ splice d at w
  pub dry : wet ≡ false → d' ≡ d

-- ---- one server in a frame

-- s heard hs
pub record Hears (t : ℕ) (wet : Bool) (s : Server) (hs : List Heartbeat) (d : List ℕ) (at : ℕ) (r : Told) (d' : List ℕ) : Type 0 where
  pub server : r.server ≡ heard_all t s hs
  pub out : Out wet d at (heard_lines t s hs) r.at d'

-- the prospect s has sent, and is not below the rank r
abbrev pub stays_under : Server → ℕ → Bool
stays_under s r = is_prospect s.role && (sent_any s && leb r (rank_number s))

-- a sender of the rank r, over that of its hearer, sent n, and passed to nobody
abbrev pub higher_beats : ℕ → ℕ → ℕ → Bool
higher_beats own r n = ltb own r && (not (eqb n 0) && eqb (n % reveal_unit) 0)

-- so the backup s only listens to it
abbrev pub heeds_only : Server → ℕ → ℕ → Bool
heeds_only s r n = is_backup s.role && higher_beats (rank_number s) r n

-- place i is such a sender
abbrev pub higher_at : List ℕ → List ℕ → ℕ → ℕ → Bool
higher_at ranks sendings own i = higher_beats own (get_or ranks i 0) (get_or sendings i 0)

-- the backup s of that rank has heard in the frame t, and all that it hears are such senders
abbrev pub has_listened : Server → ℕ → ℕ → Bool → Bool
has_listened s t own only = only && (is_backup s.role && (eqb s.silence t && eqb (rank_number s) own))

-- a backup hears plain beats, and nothing else, of the sender x
abbrev pub only_listens : Server → Server → Bool
only_listens s x = is_backup s.role && (not (eqb x.beats 0) && (not x.reveal && eqb x.pass 0))

-- it became s and said w
pub record Does (wet : Bool) (s : Server) (w : List ℕ) (d : List ℕ) (at : ℕ) (r : Told) (d' : List ℕ) : Type 0 where
  pub server : r.server ≡ s
  pub out : Out wet d at w r.at d'

-- it had its turn in frame t, and heard hs
pub record Turns (hs : List Heartbeat) (t : ℕ) (p : Period) (wet : Bool) (s : Server) (d : List ℕ) (at : ℕ) (r : Told) (d' : List ℕ) : Type 0 where
  pub server : r.server ≡ (timed t p (heard_all t (cleared s) hs)).server
  pub out :
      Out wet d at (heard_lines t (cleared s) hs ++ timed_lines t s.identity (timed t p (heard_all t (cleared s) hs))) r.at d'

-- it only listens to hs in frame t: its silence timer is set, and nothing is said
pub record JustListens (hs : List Heartbeat) (t : ℕ) (p : Period) (s : Server) : Type 0 where
  pub server : (timed t p (heard_all t (cleared s) hs)).server ≡ set_silence t (cleared s)
  pub lines : heard_lines t (cleared s) hs ++ timed_lines t s.identity (timed t p (heard_all t (cleared s) hs)) ≡ []

-- ---- who does nothing until a verb

-- every place from n on is still, n at most 16
pub record Still (n : ℕ) (l : List Server) : Type 0 where
  pub few : n ≤ most
  pub still : (i : ℕ) → n ≤ i → i < most → is_still (get_or l i absent) ≡ true

-- ---- who sent

-- the ranks of all places, as numbers
pub record Ranked (v : List ℕ) (l : List Server) : Type 0 where
  pub ranks : (i : ℕ) → i < most → get_or v i 0 ≡ rank_number (get_or l i absent)
  pub small : (i : ℕ) → i < most → get_or v i 0 < 16777216

abbrev pub any_sent : List Server → Bool
any_sent l = any_below most (λ (i : ℕ). sent_any (get_or l i absent))

-- the places below n that sent, in rising order
unfoldable pub sent_below : List Server → ℕ → List ℕ
sent_below l zero = []
sent_below l (suc n) = sent_below l n ++ choose (sent_any (get_or l n absent)) (n ∷ []) []

-- a server of the rank number r that sent what n says; its role and timers mean nothing
abbrev pub sender_of : ℕ → ℕ → Server
sender_of r n =
    record {
      identity = r % priority_unit;
      priority = r / priority_unit;
      role = Down;
      silence = 0;
      beat = 0;
      prospect = 0;
      beats = n / beats_unit;
      reveal = eqb (n / reveal_unit % 2) 1;
      pass = n % reveal_unit;
    }

-- who sent: the first `count` of `places`; of every place its rank and what it sent, as numbers
pub record SenderList : Type 0 where
  pub places : List ℕ
  pub ranks : List ℕ
  pub sendings : List ℕ
  pub count : ℕ

-- the first n of l are places
pub record Listed (l : List ℕ) (n : ℕ) : Type 0 where
  pub few : n ≤ most
  pub room : length l ≡ most
  pub places : (k : ℕ) → k < n → get_or l k 0 < most

-- and the numbers are small enough
pub record Numbers (r : SenderList) : Type 0 where
  pub listed : Listed r.places r.count
  pub ranks : (i : ℕ) → i < most → get_or r.ranks i 0 < 16777216
  pub sendings : (i : ℕ) → i < most → get_or r.sendings i 0 < sending_end

-- which of the servers l sent, and what
pub record Sends (l : List Server) (places sendings : List ℕ) (n : ℕ) : Type 0 where
  pub listed : Listed places n
  pub these : take n places ≡ sent_below l most
  pub sent : (i : ℕ) → i < most → (get_or sendings i 0 ≡ sending_number (get_or l i absent)) × (get_or sendings i 0 < sending_end)
  pub fits : (i : ℕ) → i < most → ((get_or l i absent).identity < priority_unit) × ((get_or l i absent).pass < reveal_unit)

-- the numbers of the servers l, and which of them sent
pub record Lists (l : List Server) (r : SenderList) : Type 0 where
  pub numbers : Numbers r
  pub these : take r.count r.places ≡ sent_below l most
  pub ranks : (i : ℕ) → i < most → get_or r.ranks i 0 ≡ rank_number (get_or l i absent)
  pub sendings : (i : ℕ) → i < most → get_or r.sendings i 0 ≡ sending_number (get_or l i absent)
  pub identities : (i : ℕ) → i < most → (get_or l i absent).identity < priority_unit
  pub passes : (i : ℕ) → i < most → (get_or l i absent).pass < reveal_unit

-- no server of l sent a greater number than r
pub record Loud (l : List Server) (r : ℕ) : Type 0 where
  pub bound : (i : ℕ) → i < most → sending_number (get_or l i absent) ≤ r

-- ---- the look-up, over the numbers

abbrev pub best_by : List ℕ → List Bool → ℕ → ℕ → ℕ → List ℕ → ℕ
best_by ranks w j last best [] = best
best_by ranks w j last best (i ∷ is) = best_by ranks w j last (choose (comes_by ranks (heard_by w j i) last best i) i best) is

-- of the places is, those that place j hears
unfoldable pub heard_of : List Bool → ℕ → List ℕ → List ℕ
heard_of w j [] = []
heard_of w j (i ∷ is) = choose (heard_by w j i) (i ∷ []) [] ++ heard_of w j is

-- the best of places that are heard
abbrev pub best_in : List ℕ → ℕ → ℕ → List ℕ → ℕ
best_in ranks last best [] = best
best_in ranks last best (i ∷ is) = best_in ranks last (choose (comes_by ranks true last best i) i best) is

-- the first m of near are those of the places is that place j hears
pub record Near (w : List Bool) (j : ℕ) (is near : List ℕ) (m : ℕ) : Type 0 where
  pub listed : Listed near m
  pub these : take m near ≡ heard_of w j is

abbrev pub next_by : SenderList → List Bool → ℕ → ℕ → ℕ
next_by r w j last = best_by r.ranks w j last most (take r.count r.places)

unfoldable pub senders_by : SenderList → List Bool → ℕ → ℕ → ℕ → List ℕ
senders_by r w j zero last = []
senders_by r w j (suc n) last =
    let next = next_by r w j last in elim (is_place next) [ true ↦ next ∷ senders_by r w j n next | false ↦ [] ]

unfoldable pub sent_of : SenderList → List ℕ → List Heartbeat
sent_of r [] = []
sent_of r (i ∷ is) = sent_by (sender_of (get_or r.ranks i 0) (get_or r.sendings i 0)) ++ sent_of r is

abbrev pub inbox_by : SenderList → List Bool → ℕ → List Heartbeat
inbox_by r w j = sent_of r (senders_by r w j most most)

-- r has the places that h has, and those that hear place i
pub record HeardAlso (h : List Bool) (w : List Bool) (i : ℕ) (r : List Bool) : Type 0 where
  pub before : (j : ℕ) → j < most → get_or r j false ≡ false → get_or h j false ≡ false
  pub also : (j : ℕ) → j < most → get_or r j false ≡ false → heard_by w j i ≡ false

-- who is not in r hears none of the first n of l
pub record Hearers (l : List ℕ) (w : List Bool) (n : ℕ) (r : List Bool) : Type 0 where
  pub room : length r ≡ most
  pub none : (j : ℕ) → j < most → get_or r j false ≡ false → (k : ℕ) → k < n → heard_by w j (get_or l k 0) ≡ false

-- none of the first n places is in h
pub record Deaf (h : List Bool) (n : ℕ) : Type 0 where
  pub none : (j : ℕ) → j < n → get_or h j false ≡ false

-- ---- a frame

-- what the server of a place sent, cleared
abbrev pub clearing : ℕ → Server → Server
clearing j s = cleared s

-- all servers after a frame, and the place after what they said
pub record Ran : Type 0 where
  pub servers : List Server
  pub at : ℕ

-- the servers of the frame after c
pub record Runs (wet : Bool) (c : State) (d : List ℕ) (at : ℕ) (r : Ran) (d' : List ℕ) : Type 0 where
  pub servers : r.servers ≡ (advanced c).servers
  pub out : Out wet d at (frame_lines c) r.at d'

-- the lines of the timers of all servers
abbrev pub tick_lines : ℕ → Period → List Server → List ℕ
tick_lines t p [] = []
tick_lines t p (s ∷ l) = timed_lines t s.identity (timed t p s) ++ tick_lines t p l

abbrev pub ticked : ℕ → Period → ℕ → Server → Server
ticked t p j s = (timed t p s).server

-- the timers of place j
pub record TicksAt (wet : Bool) (t : ℕ) (p : Period) (l : List Server) (j : ℕ) (d : List ℕ) (at : ℕ) (r : Ran) (d' : List ℕ) : Type 0 where
  pub servers : r.servers ≡ set l j (timed t p (get_or l j absent)).server
  pub out : Out wet d at (timed_lines t (get_or l j absent).identity (timed t p (get_or l j absent))) r.at d'

pub record TicksAll (wet : Bool) (t : ℕ) (p : Period) (l : List Server) (d : List ℕ) (at : ℕ) (r : Ran) (d' : List ℕ) : Type 0 where
  pub servers : r.servers ≡ map_from 0 (ticked t p) l
  pub out : Out wet d at (tick_lines t p l) r.at d'

-- ---- quiet frames

-- a timer set in s with the limit n is not due after the frame t and before r
pub record NotDue (s n t r : ℕ) : Type 0 where
  pub waits : (u : ℕ) → t < u → u < r → aged s n u ≡ false

-- what the timers do where none is due
abbrev pub resting : Server → Timed
resting s = record { server = s; silent = Nothing; beating = Nothing; rising = Nothing }

-- no timer of the server s is due after the frame t and before r
pub record Rests (t : ℕ) (p : Period) (s : Server) (r : ℕ) : Type 0 where
  pub rests : (u : ℕ) → t < u → u < r → timed u p s ≡ resting s

-- no timer of any server is due in that time
pub record AllRest (t : ℕ) (p : Period) (l : List Server) (r : ℕ) : Type 0 where
  pub all : (i : ℕ) → i < most → Rests t p (get_or l i absent) r

-- ---- what fits

-- no frame writes more bytes where no number of what was sent is greater
abbrev pub most_bytes : ℕ → ℕ
most_bytes loud = frame_bytes (loud / beats_unit)

-- a place in a slice of so many bytes, or one past its end
unfoldable pub clamped : ℕ → ℕ → ℕ
clamped room at = choose (leb at room) at (room + 1)
