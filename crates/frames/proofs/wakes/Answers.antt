use Rattle.frame.proofs.Quiet.{rests-down, rests-idle, rests-sync, rests_backup, rests-primary, rests_prospect, earlier_left, earlier_right}
use Rattle.frames.proofs.wakes.Goals as goal

pub returns-in-Down : goal.returns-in-Down
returns-in-Down c = rests-down _ _ _ _ c.in-Down.is

pub returns-in-Idle : goal.returns-in-Idle
returns-in-Idle c = rests-idle _ _ _ _ c.in-Idle.is

pub returns-in-Sync : goal.returns-in-Sync
returns-in-Sync c = rests-sync _ _ _ _ c.in-Sync.is

pub returns-in-Backup : goal.returns-in-Backup
returns-in-Backup c = rests_backup _ _ _ _ c.in-Backup.is (rw c.silence_limit.ensures at c.due.ensures)

pub returns-in-Prospect : goal.returns-in-Prospect
returns-in-Prospect c =
    let e = c.earlier.ensures in
    rests_prospect _ _ _ _ c.in-Prospect.is (rw c.beat_limit.ensures at c.due-in-Prospect.ensures) (rw c.prospect_limit.ensures at c.due-in-Prospect-2.ensures)
    (earlier_left _ _ e) (earlier_right _ _ e)

pub returns-in-Primary : goal.returns-in-Primary
returns-in-Primary c = rests-primary _ _ _ _ c.in-Primary.is (rw c.beat_limit-in-Primary.ensures at c.due-in-Primary.ensures)
