use Rattle.server.specs.Server.{after}
use Rattle.server.proofs.Server.after.Goals as goal

pub returns-in-Nothing : goal.returns-in-Nothing
unfolding after
returns-in-Nothing c = rw c.in-Nothing.is

pub returns-in-ToBackup : goal.returns-in-ToBackup
unfolding after
returns-in-ToBackup c = rw (c.in_role-next.ensures, c.in-ToBackup.is)

pub returns-in-ToProspectBeat : goal.returns-in-ToProspectBeat
unfolding after
returns-in-ToProspectBeat c = rw (c.send_beat.ensures, c.to_prospect.ensures, c.in-ToProspectBeat.is)

pub returns-in-ToProspectReveal : goal.returns-in-ToProspectReveal
unfolding after
returns-in-ToProspectReveal c = rw (c.to_prospect-next.ensures, c.in-ToProspectReveal.is)

pub returns-in-Lower : goal.returns-in-Lower
unfolding after
returns-in-Lower c = rw c.in-Lower.is

pub returns-in-LowerBeat : goal.returns-in-LowerBeat
unfolding after
returns-in-LowerBeat c = rw (c.beat_now.ensures, c.in-LowerBeat.is)

pub returns-in-Beat : goal.returns-in-Beat
unfolding after
returns-in-Beat c = rw (c.beat_now-in-Beat.ensures, c.in-Beat.is)

pub returns-in-ToPrimary : goal.returns-in-ToPrimary
unfolding after
returns-in-ToPrimary c = rw (c.in_role.ensures, c.in-ToPrimary.is)

pub returns-in-ToSync : goal.returns-in-ToSync
unfolding after
returns-in-ToSync c = rw (c.in_role-in-ToSync.ensures, c.in-ToSync.is)

pub returns-in-ToIdle : goal.returns-in-ToIdle
unfolding after
returns-in-ToIdle c = rw (c.in_role-in-ToIdle.ensures, c.in-ToIdle.is)

pub returns-in-ToDown : goal.returns-in-ToDown
unfolding after
returns-in-ToDown c = rw (c.in_role-in-ToDown.ensures, c.in-ToDown.is)

pub returns-in-Passed : goal.returns-in-Passed
unfolding after
returns-in-Passed c = rw (c.in_role-next-in-Passed.ensures, c.in-Passed.is)
