-- "Timers, after all hearing in the frame".
use Rattle.std.specs.Prelude.{Bool, ℕ, ◌+◌, eqb}
use Rattle.lists.specs.Choice.{choose}
use Rattle.roles.specs.declared.Role.{Role}
use Rattle.roles.specs.declared.Role.TheVariants.{Down, Idle, Sync, Backup, Prospect, Primary}
use Rattle.roles.specs.declared.Event.{Event}
use Rattle.roles.specs.declared.Event.TheVariants.{Nothing, ToProspectReveal, Beat, ToPrimary}
use Rattle.periods.specs.declared.Period.{Period}
use Rattle.server.specs.declared.Server.{Server}
use Rattle.server.specs.declared.Timed.{Timed}
use Rattle.periods.specs.Period.{silence_limit, prospect_limit, beat_limit}
use Rattle.server.specs.Server.{after}

-- a timer set in frame s has this age in frame t
abbrev pub aged : ℕ → ℕ → ℕ → Bool
aged s age t = eqb (s + age) t

-- "backup with silence age 2 × P: to prospect, sending a reveal"
abbrev pub silent_in : Role → Bool → Event
silent_in Down due = Nothing
silent_in Idle due = Nothing
silent_in Sync due = Nothing
silent_in Backup due = choose due ToProspectReveal Nothing
silent_in Prospect due = Nothing
silent_in Primary due = Nothing

abbrev pub silent : ℕ → Period → Server → Event
silent t p s = silent_in s.role (aged s.silence (silence_limit p) t)

-- "beat age P: a plain beat, beat age 0". "Prospect and primary have a beat age"
abbrev pub beating_in : Role → Bool → Event
beating_in Down due = Nothing
beating_in Idle due = Nothing
beating_in Sync due = Nothing
beating_in Backup due = Nothing
beating_in Prospect due = choose due Beat Nothing
beating_in Primary due = choose due Beat Nothing

abbrev pub beating : ℕ → Period → Server → Event
beating t p s = beating_in s.role (aged s.beat (beat_limit p) t)

-- "then prospect with prospect age 2 × P: to primary". "Becoming primary keeps the beat age."
abbrev pub rising_in : Role → Bool → Event
rising_in Down due = Nothing
rising_in Idle due = Nothing
rising_in Sync due = Nothing
rising_in Backup due = Nothing
rising_in Prospect due = choose due ToPrimary Nothing
rising_in Primary due = Nothing

abbrev pub rising : ℕ → Period → Server → Event
rising t p s = rising_in s.role (aged s.prospect (prospect_limit p) t)

-- the server after each timer
unfoldable pub after_silent : ℕ → Period → Server → Server
after_silent t p s = after t s (silent t p s)

unfoldable pub after_beating : ℕ → Period → Server → Server
after_beating t p s = after t s (beating t p s)

unfoldable pub after_rising : ℕ → Period → Server → Server
after_rising t p s = after t s (rising t p s)

-- the three in their order, each on the server that the one before left: the server after the
-- timers of frame t, and what each of them did. Any frame and any `Period` have an answer; on those
-- that no call reaches document 01 is silent
abbrev pub timed : ℕ → Period → Server → Timed
timed t p s =
    record {
      server = after_rising t p (after_beating t p (after_silent t p s));
      silent = silent t p s;
      beating = beating t p (after_silent t p s);
      rising = rising t p (after_beating t p (after_silent t p s));
    }
