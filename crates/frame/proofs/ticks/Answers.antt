use mathlib.Core.Path.{ap₂}
use mathlib.Core.Bool.{Bool, ◌||◌}
use Rattle.server.specs.Timers.{aged}
use Rattle.frame.proofs.ticks.Goals as goal

pub returns-in-Down : goal.returns-in-Down
returns-in-Down c = rw c.in-Down.is

pub returns-in-Idle : goal.returns-in-Idle
returns-in-Idle c = rw c.in-Idle.is

pub returns-in-Sync : goal.returns-in-Sync
returns-in-Sync c = rw c.in-Sync.is

pub returns-in-Backup : goal.returns-in-Backup
returns-in-Backup c = rw c.in-Backup.is (rw c.silence_limit.ensures at c.aged.ensures)

pub returns-in-Prospect : goal.returns-in-Prospect
returns-in-Prospect c =
    rw c.in-Prospect.is
    (ap₂ (λ (x y : Bool). x || y) (rw c.beat_limit.ensures at c.aged-in-Prospect.ensures) (rw c.prospect_limit.ensures at c.aged-in-Prospect-2.ensures))

pub returns-in-Primary : goal.returns-in-Primary
returns-in-Primary c = rw c.in-Primary.is (rw c.beat_limit-in-Primary.ensures at c.aged-in-Primary.ensures)
