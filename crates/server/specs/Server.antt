-- One server: its timers, what it sent in this frame, and what an event makes of it.
use Rattle.std.specs.Prelude.{Bool, true, false, not, List, [], ◌∷◌, ◌++◌, ◌≡◌, ℕ, ◌+◌, ltb, eqb, replicate}
use Rattle.lists.specs.Choice.{choose}
use Rattle.refusal.specs.Answer.{of_verdict}
use Rattle.heartbeat.specs.declared.Rank.{Rank}
use Rattle.heartbeat.specs.declared.Heartbeat.{Heartbeat}
use Rattle.roles.specs.declared.Role.{Role}
use Rattle.roles.specs.declared.Role.TheVariants.{Down, Idle, Sync, Backup, Prospect, Primary}
use Rattle.roles.specs.declared.Event.{Event}
use Rattle.roles.specs.declared.Event.TheVariants.{Nothing, ToBackup, ToProspectBeat, ToProspectReveal, Lower, LowerBeat, Beat, ToPrimary, ToSync, ToIdle, ToDown, Passed}
use Rattle.server.specs.declared.Server.{Server}
use Rattle.server.specs.declared.Made.{Made}

abbrev pub rank_of : Server → Rank
rank_of s = record { priority = s.priority; identity = s.identity }

-- a place with no server: nobody's identity, and down
abbrev pub absent : Server
absent = record { identity = 0; priority = 0; role = Down; silence = 0; beat = 0; prospect = 0; beats = 0; reveal = false; pass = 0 }

-- a server of a fresh channel: "all servers idle .. nothing sent"
abbrev pub idle : ℕ → ℕ → Server
idle i p = record { identity = i; priority = p; role = Idle; silence = 0; beat = 0; prospect = 0; beats = 0; reveal = false; pass = 0 }

-- what making a server answers: "an identity 1..65,535", else 2 and an empty place
pub record Makes (i p : ℕ) (r : Made) : Type 0 where
  pub number : of_verdict r.verdict ≡ choose (eqb i 0) 2 0
  pub server : r.server ≡ choose (eqb i 0) absent (idle i p)

-- ---- the fields of a server, set

abbrev pub in_role : Role → Server → Server
in_role r s =
    record { identity = s.identity; priority = s.priority; role = r; silence = s.silence; beat = s.beat; prospect = s.prospect; beats = s.beats; reveal = s.reveal; pass = s.pass }

-- "A timer set in frame s has age t − s in frame t": each timer is kept as the frame that it was
-- set in. A timer that the role does not have keeps the frame it was last set in, and is not looked
-- at
abbrev pub set_silence : ℕ → Server → Server
set_silence t s =
    record { identity = s.identity; priority = s.priority; role = s.role; silence = t; beat = s.beat; prospect = s.prospect; beats = s.beats; reveal = s.reveal; pass = s.pass }

abbrev pub set_beat : ℕ → Server → Server
set_beat t s =
    record { identity = s.identity; priority = s.priority; role = s.role; silence = s.silence; beat = t; prospect = s.prospect; beats = s.beats; reveal = s.reveal; pass = s.pass }

-- "Entering prospect sets both its ages to 0."
abbrev pub to_prospect : ℕ → Server → Server
to_prospect t s =
    record { identity = s.identity; priority = s.priority; role = Prospect; silence = s.silence; beat = t; prospect = t; beats = s.beats; reveal = s.reveal; pass = s.pass }

-- what was sent in this frame: so many plain beats, whether a reveal, and to whom it passed (0: to
-- nobody)
abbrev pub set_sent : ℕ → Bool → ℕ → Server → Server
set_sent n r b s =
    record { identity = s.identity; priority = s.priority; role = s.role; silence = s.silence; beat = s.beat; prospect = s.prospect; beats = n; reveal = r; pass = b }

-- the most plain beats that are counted in a frame: each of 15 other servers passes at most once.
-- Only who has sent nothing replies, and it hears no higher sender after that, so that no pass
-- calls it up; and who replied or became prospect has beat age 0, so that its timer adds none
abbrev pub most_beats : ℕ
most_beats = 15

-- one more, up to the most
unfoldable pub one_more : ℕ → ℕ
one_more n = choose (ltb n most_beats) (n + 1) most_beats

abbrev pub send_beat : Server → Server
send_beat s = set_sent (one_more s.beats) s.reveal s.pass s

-- "a plain beat, beat age 0"; "sends a plain beat .. its beat age becomes 0" (A.2)
abbrev pub beat_now : ℕ → Server → Server
beat_now t s = send_beat (set_beat t s)

abbrev pub send_reveal : Server → Server
send_reveal s = set_sent s.beats true s.pass s

abbrev pub send_pass : ℕ → Server → Server
send_pass b s = set_sent s.beats s.reveal b s

-- a new frame: nothing sent yet
abbrev pub cleared : Server → Server
cleared s = set_sent 0 false 0 s

-- ---- what it sent, as heartbeats

abbrev pub plain_of : Server → Heartbeat
plain_of s = record { bs = 0; priority = s.priority; tiebreaker = s.identity; reveal = 0 }

abbrev pub reveal_of : Server → Heartbeat
reveal_of s = record { bs = 0; priority = s.priority; tiebreaker = s.identity; reveal = 1 }

abbrev pub pass_of : Server → Heartbeat
pass_of s = record { bs = s.pass; priority = s.priority; tiebreaker = s.identity; reveal = 0 }

-- "One server may send several in a frame"; "one sender's heartbeats in the order sent": its plain
-- beats, its reveal, its pass. A server of a channel that calls reach sends in no other order and
-- no more (`SentInOrder` of the crate settling). On one that hears heartbeats in an order that no
-- channel gives them, document 01 is silent
unfoldable pub sent_by : Server → List Heartbeat
sent_by s = replicate s.beats (plain_of s) ++ (choose s.reveal (reveal_of s ∷ []) [] ++ choose (eqb s.pass 0) [] (pass_of s ∷ []))

-- whether it sent anything: "already sent in that frame" (document 02, A.2)
unfoldable pub sent_any : Server → Bool
sent_any s = choose (eqb s.beats 0) (choose s.reveal true (not (eqb s.pass 0))) true

-- ---- the server after an event of frame t

-- What it sent stays: "Heartbeats sent before a crash are still heard."
unfoldable pub after : ℕ → Server → Event → Server
after t s Nothing = s
after t s ToBackup = set_silence t (in_role Backup s)
after t s ToProspectBeat = send_beat (to_prospect t s)
after t s ToProspectReveal = send_reveal (to_prospect t s)
after t s Lower = s
after t s LowerBeat = beat_now t s
after t s Beat = beat_now t s
after t s ToPrimary = in_role Primary s
after t s ToSync = in_role Sync s
after t s ToIdle = in_role Idle s
after t s ToDown = in_role Down s
after t s (Passed b) = send_pass b (set_silence t (in_role Backup s))
