use Rattle.roles.proofs.verb_event.Goals as goal

pub returns-in-Start : goal.returns-in-Start
returns-in-Start c = rw c.in-Start.is c.entering.ensures

pub returns-in-Ready : goal.returns-in-Ready
returns-in-Ready c = rw c.in-Ready.is c.entering-in-Ready.ensures

pub returns-in-Unready : goal.returns-in-Unready
returns-in-Unready c = rw c.in-Unready.is c.entering-in-Unready.ensures

pub returns-in-Pass : goal.returns-in-Pass
returns-in-Pass c = rw c.in-Pass.is

pub returns-in-Crash : goal.returns-in-Crash
returns-in-Crash c = rw c.in-Crash.is c.entering-in-Crash.ensures

pub returns-in-Restart : goal.returns-in-Restart
returns-in-Restart c = rw c.in-Restart.is c.entering-in-Restart.ensures
