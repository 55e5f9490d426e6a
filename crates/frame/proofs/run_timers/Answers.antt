use Rattle.frame.proofs.Hearings.{timers_say}
use Rattle.frame.proofs.run_timers.Goals as goal

pub returns : goal.returns
returns c =
    let a = c.args in
    timers_say a.frame a.s.identity c.timers-t.ensures c.say_event-a.auto.out c.say_event-b.auto.out c.say_event-a.ensures c.say_event-b.ensures c.say_event-r.ensures
