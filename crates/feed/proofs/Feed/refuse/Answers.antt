use mathlib.Core.Path.{ap}
use Rattle.refusal.specs.Answer.{number_of}
use Rattle.day.specs.Day.{refusal}
use Rattle.feed.specs.declared.Feed.{Feed}
use Rattle.feed.specs.Answers.{channel_of, fed_of}
use Rattle.feed.proofs.Leaving.{made-entries, passes-turned}
use Rattle.feed.proofs.Making.{does_as, does-put}
use Rattle.feed.proofs.Feed.refuse.Goals as goal

pub returns : goal.returns
returns c w k l =
    let a = c.args in
    does_as (ap (λ (x : Feed). record { lines = refusal (channel_of a.self w k) a.identity (number_of a.k); fed = fed_of x l w k }) c.turned-after.ensures)
    (does-put l w k c.write_refused-written.ensures c.put.ensures (passes-turned (λ z. z) (λ s. absurd (c.requires.1 s)) made-entries c.turned-after.ensures))
