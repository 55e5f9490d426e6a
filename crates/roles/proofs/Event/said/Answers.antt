use Rattle.roles.proofs.Event.said.Goals as goal

pub returns-in-ToBackup : goal.returns-in-ToBackup
returns-in-ToBackup c = rw c.in-ToBackup.is

pub returns-in-ToProspectBeat : goal.returns-in-ToProspectBeat
returns-in-ToProspectBeat c = rw c.in-ToProspectBeat.is

pub returns-in-ToProspectReveal : goal.returns-in-ToProspectReveal
returns-in-ToProspectReveal c = rw c.in-ToProspectReveal.is

pub returns-in-Lower : goal.returns-in-Lower
returns-in-Lower c = rw c.in-Lower.is

pub returns-in-LowerBeat : goal.returns-in-LowerBeat
returns-in-LowerBeat c = rw c.in-LowerBeat.is

pub returns-in-Beat : goal.returns-in-Beat
returns-in-Beat c = rw c.in-Beat.is

pub returns-in-ToPrimary : goal.returns-in-ToPrimary
returns-in-ToPrimary c = rw c.in-ToPrimary.is

pub returns-in-ToSync : goal.returns-in-ToSync
returns-in-ToSync c = rw c.in-ToSync.is

pub returns-in-ToIdle : goal.returns-in-ToIdle
returns-in-ToIdle c = rw c.in-ToIdle.is

pub returns-in-ToDown : goal.returns-in-ToDown
returns-in-ToDown c = rw c.in-ToDown.is

pub returns-in-Passed : goal.returns-in-Passed
returns-in-Passed c = rw c.in-Passed.is
