use Rattle.playout.proofs.sends_of.Goals as goal

pub returns-in-Nothing : goal.returns-in-Nothing
returns-in-Nothing c = rw (c.in-Nothing.is, c.sends_none.ensures)

pub returns-in-ToBackup : goal.returns-in-ToBackup
returns-in-ToBackup c = rw (c.in-ToBackup.is, c.sends_none-in-ToBackup.ensures)

pub returns-in-ToProspectBeat : goal.returns-in-ToProspectBeat
returns-in-ToProspectBeat c = rw (c.in-ToProspectBeat.is, c.sends_one.ensures, c.plain.ensures)

pub returns-in-ToProspectReveal : goal.returns-in-ToProspectReveal
returns-in-ToProspectReveal c = rw (c.in-ToProspectReveal.is, c.sends_one-in-ToProspectReveal.ensures, c.revealing.ensures)

pub returns-in-Lower : goal.returns-in-Lower
returns-in-Lower c = rw (c.in-Lower.is, c.sends_none-in-Lower.ensures)

pub returns-in-Beat : goal.returns-in-Beat
returns-in-Beat c = rw (c.in-Beat.is, c.sends_one-in-Beat.ensures, c.plain-in-Beat.ensures)

pub returns-in-ToPrimary : goal.returns-in-ToPrimary
returns-in-ToPrimary c = rw (c.in-ToPrimary.is, c.sends_none-in-ToPrimary.ensures)

pub returns-in-ToSync : goal.returns-in-ToSync
returns-in-ToSync c = rw (c.in-ToSync.is, c.sends_none-in-ToSync.ensures)

pub returns-in-ToIdle : goal.returns-in-ToIdle
returns-in-ToIdle c = rw (c.in-ToIdle.is, c.sends_none-in-ToIdle.ensures)

pub returns-in-ToDown : goal.returns-in-ToDown
returns-in-ToDown c = rw (c.in-ToDown.is, c.sends_none-in-ToDown.ensures)

pub returns-in-Passed : goal.returns-in-Passed
returns-in-Passed c = rw (c.in-Passed.is, c.sends_pass.ensures)

pub returns-in-LowerBeat : goal.returns-in-LowerBeat
returns-in-LowerBeat c = rw (c.in-LowerBeat.is, c.sends_one-in-LowerBeat.ensures, c.plain-in-LowerBeat.ensures)
