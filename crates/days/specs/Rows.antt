-- The worked days of document 01, D1 to D11. `bytes` has tabs where document 01 shows spaces.
use Rattle.std.specs.Prelude.{Bool, true, ◌≡◌, List, [], ◌∷◌, ℕ, ◌+◌, ◌<◌, length, get_or}
use Rattle.text.specs.Words.{bytes}
use Rattle.timecode.specs.Read.{read_timecode}
use Rattle.heartbeat.specs.declared.Heartbeat.{Heartbeat}
use Rattle.heartbeat.specs.Heartbeat.{is_set, read_heartbeat, heartbeat_line}
use Rattle.day.specs.Sheet.{sheet}

pub data Row : Type 0 where
  -- a day, and its sheet
  day : List ℕ → List ℕ → Row
  -- a label, and its number and values
  timecode : List ℕ → ℕ → List ℕ → Row
  -- a heartbeat line, whether Reveal is set, and the line as it is written
  heartbeat : List ℕ → Bool → List ℕ → Row

-- the heartbeat with these values
abbrev pub heartbeat_of : List ℕ → Heartbeat
heartbeat_of vs = record { bs = get_or vs 0 0; priority = get_or vs 1 0; tiebreaker = get_or vs 2 0; reveal = get_or vs 3 0 }

-- what a row says of the definitions
abbrev pub Says : Row → Type 0
Says (day d s) = sheet d ≡ s
Says (timecode l n vs) = ((read_timecode l).number ≡ n) × ((read_timecode l).values ≡ vs)
Says (heartbeat l revealed w) =
    ((read_heartbeat l).number ≡ 0)
    × (is_set (heartbeat_of (read_heartbeat l).values).reveal ≡ revealed)
    × (heartbeat_line (heartbeat_of (read_heartbeat l).values) ≡ w)

abbrev pub rows : List Row
rows =
    -- D1
    day (bytes "period\t2\nserver\t1\t10\nserver\t2\t20\n00:00:00:00\tstart\t1\n00:00:00:00\tready\t1\n00:00:00:00\tstart\t2\n00:00:00:00\tready\t2\nend\t00:00:00:08\n") (bytes "time\tserver\twhat\n00:00:00:00\t1\tsync\n00:00:00:00\t1\tbackup\n00:00:00:00\t2\tsync\n00:00:00:00\t2\tbackup\n00:00:00:04\t1\tprospect\n00:00:00:04\t1\treveal\n00:00:00:04\t2\tprospect\n00:00:00:04\t2\treveal\n00:00:00:05\t1\tbackup\n00:00:00:05\t2\tbeat\n00:00:00:07\t2\tbeat\n00:00:00:08\t2\tprimary\n")
    -- D2
    ∷ day (bytes "period\t2\nserver\t1\t10\nserver\t2\t20\n00:00:00:00\tstart\t1\n00:00:00:00\tready\t1\n00:00:00:00\tstart\t2\n00:00:00:00\tready\t2\n00:00:00:08\tcrash\t2\nend\t00:00:00:20\n") (bytes "time\tserver\twhat\n00:00:00:00\t1\tsync\n00:00:00:00\t1\tbackup\n00:00:00:00\t2\tsync\n00:00:00:00\t2\tbackup\n00:00:00:04\t1\tprospect\n00:00:00:04\t1\treveal\n00:00:00:04\t2\tprospect\n00:00:00:04\t2\treveal\n00:00:00:05\t1\tbackup\n00:00:00:05\t2\tbeat\n00:00:00:07\t2\tbeat\n00:00:00:08\t2\tprimary\n00:00:00:08\t2\tdown\n00:00:00:12\t1\tprospect\n00:00:00:12\t1\treveal\n00:00:00:14\t1\tbeat\n00:00:00:16\t1\tbeat\n00:00:00:16\t1\tprimary\n00:00:00:18\t1\tbeat\n00:00:00:20\t1\tbeat\n")
    -- D3
    ∷ day (bytes "period\t2\nserver\t1\t10\nserver\t2\t20\n00:00:00:00\tstart\t1\n00:00:00:00\tready\t1\n00:00:00:00\tstart\t2\n00:00:00:00\tready\t2\n00:00:00:09\tcrash\t2\nend\t00:00:00:20\n") (bytes "time\tserver\twhat\n00:00:00:00\t1\tsync\n00:00:00:00\t1\tbackup\n00:00:00:00\t2\tsync\n00:00:00:00\t2\tbackup\n00:00:00:04\t1\tprospect\n00:00:00:04\t1\treveal\n00:00:00:04\t2\tprospect\n00:00:00:04\t2\treveal\n00:00:00:05\t1\tbackup\n00:00:00:05\t2\tbeat\n00:00:00:07\t2\tbeat\n00:00:00:08\t2\tprimary\n00:00:00:09\t2\tbeat\n00:00:00:09\t2\tdown\n00:00:00:14\t1\tprospect\n00:00:00:14\t1\treveal\n00:00:00:16\t1\tbeat\n00:00:00:18\t1\tbeat\n00:00:00:18\t1\tprimary\n00:00:00:20\t1\tbeat\n")
    -- D4
    ∷ day (bytes "period\t2\nserver\t1\t10\nserver\t2\t20\n00:00:00:00\tstart\t1\n00:00:00:00\tready\t1\n00:00:00:00\tstart\t2\n00:00:00:00\tready\t2\n00:00:00:08\tpass\t2\t1\nend\t00:00:00:20\n") (bytes "time\tserver\twhat\n00:00:00:00\t1\tsync\n00:00:00:00\t1\tbackup\n00:00:00:00\t2\tsync\n00:00:00:00\t2\tbackup\n00:00:00:04\t1\tprospect\n00:00:00:04\t1\treveal\n00:00:00:04\t2\tprospect\n00:00:00:04\t2\treveal\n00:00:00:05\t1\tbackup\n00:00:00:05\t2\tbeat\n00:00:00:07\t2\tbeat\n00:00:00:08\t2\tprimary\n00:00:00:08\t2\tpass\n00:00:00:08\t2\tbackup\n00:00:00:09\t1\tprospect\n00:00:00:09\t1\tbeat\n00:00:00:11\t1\tbeat\n00:00:00:13\t1\tbeat\n00:00:00:13\t1\tprimary\n00:00:00:15\t1\tbeat\n00:00:00:17\t1\tbeat\n00:00:00:19\t1\tbeat\n")
    -- D5
    ∷ day (bytes "period\t2\nserver\t1\t20\nserver\t2\t20\n00:00:00:00\tstart\t1\n00:00:00:00\tready\t1\n00:00:00:00\tstart\t2\n00:00:00:00\tready\t2\nend\t00:00:00:12\n") (bytes "time\tserver\twhat\n00:00:00:00\t1\tsync\n00:00:00:00\t1\tbackup\n00:00:00:00\t2\tsync\n00:00:00:00\t2\tbackup\n00:00:00:04\t1\tprospect\n00:00:00:04\t1\treveal\n00:00:00:04\t2\tprospect\n00:00:00:04\t2\treveal\n00:00:00:05\t1\tbackup\n00:00:00:05\t2\tbeat\n00:00:00:07\t2\tbeat\n00:00:00:08\t2\tprimary\n00:00:00:09\t2\tbeat\n00:00:00:11\t2\tbeat\n")
    -- D6
    ∷ day (bytes "period\t3\nserver\t1\t10\nserver\t2\t20\nserver\t3\t30\n00:00:00:00\tstart\t1\n00:00:00:00\tready\t1\n00:00:00:00\tstart\t2\n00:00:00:00\tready\t2\n00:00:00:00\tstart\t3\n00:00:00:00\tready\t3\nend\t00:00:00:16\n") (bytes "time\tserver\twhat\n00:00:00:00\t1\tsync\n00:00:00:00\t1\tbackup\n00:00:00:00\t2\tsync\n00:00:00:00\t2\tbackup\n00:00:00:00\t3\tsync\n00:00:00:00\t3\tbackup\n00:00:00:06\t1\tprospect\n00:00:00:06\t1\treveal\n00:00:00:06\t2\tprospect\n00:00:00:06\t2\treveal\n00:00:00:06\t3\tprospect\n00:00:00:06\t3\treveal\n00:00:00:07\t1\tbackup\n00:00:00:07\t2\tbackup\n00:00:00:07\t2\tprospect\n00:00:00:07\t2\treveal\n00:00:00:07\t3\tbeat\n00:00:00:08\t2\tbackup\n00:00:00:08\t3\tbeat\n00:00:00:11\t3\tbeat\n00:00:00:12\t3\tprimary\n00:00:00:14\t3\tbeat\n")
    -- D7, two servers
    ∷ day (bytes "period\t2\nserver\t1\t10\nserver\t2\t20\nend\t00:00:00:00\n") (bytes "time\tserver\twhat\n")
    -- D7, three
    ∷ day (bytes "period\t2\nserver\t1\t10\nserver\t2\t20\nserver\t3\t30\nend\t00:00:00:00\n") (bytes "time\tserver\twhat\nline\t5\trefused-7\n")
    -- D8, 255
    ∷ day (bytes "period\t2\nserver\t1\t255\nend\t00:00:00:00\n") (bytes "time\tserver\twhat\n")
    -- D8, 256
    ∷ day (bytes "period\t2\nserver\t1\t256\nend\t00:00:00:00\n") (bytes "time\tserver\twhat\nline\t2\trefused-2\n")
    -- D9
    ∷ timecode (bytes "23:59:59:24") 0 (2159999 ∷ [])
    ∷ timecode (bytes "23:59:59:25") 3 []
    -- D10
    ∷ heartbeat (bytes "0\t20\t2\t7\n") true (bytes "0\t20\t2\t1\n")
    -- D11
    ∷ day [] (bytes "time\tserver\twhat\nline\t1\trefused-4\n")
    ∷ []

-- every row of the table holds
abbrev pub WorkedDays : Type 0
WorkedDays = (i : ℕ) → i < length rows → Says (get_or rows i (day [] []))

-- D1 to D11; D7, D8 and D9 have two rows each
abbrev pub worked_rows : ℕ
worked_rows = 11 + 3

-- r is how many rows the table has, and each of them holds
pub record Worked (r : ℕ) : Type 0 where
  pub counted : r ≡ length rows
  pub number : r ≡ worked_rows
  pub hold : WorkedDays
