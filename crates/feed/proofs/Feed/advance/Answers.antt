use mathlib.Core.Path.{refl, ap}
use Rattle.group.specs.declared.State.{State}
use Rattle.day.specs.Day.{on, atEntries}
use Rattle.places.proofs.Canonical.{becomes-keeps}
use Rattle.feeding.specs.Fed.{Fed}
use Rattle.feeding.proofs.Calling.{within-done, within-not}
use Rattle.feed.specs.Answers.{channel_of, fed_of}
use Rattle.feed.proofs.Leaving.{not-refused, made-entries, passes_same, passes_on}
use Rattle.feed.proofs.Making.{makes-written, makes-refused}
use Rattle.feed.proofs.Feed.advance.Goals as goal

pub returns-in-Ok : goal.returns-in-Ok
returns-in-Ok c l =
    let a = c.args in
    let f = fed_of a.self l a.words.now a.whole.now in
    let q = within-done (channel_of a.self a.words.now a.whole.now) a.time c.requires.0 (rw c.in-Ok.is at c.run_within-ran.ensures.gives) refl in
    let g : State → Fed = λ s. record { over = f.over; number = f.number; line = f.line; day = on atEntries s } in
    record {
      makes = makes-written q.0 (ap g q.1);
      passes = passes_on (becomes-keeps c.run_within-ran.ensures.words).form (λ s. absurd (c.requires.1 s)) made-entries refl refl refl;
      same = λ i z. not-refused z;
    }

pub returns-in-Err : goal.returns-in-Err
returns-in-Err c l =
    let a = c.args in
    let ran = c.run_within-ran.ensures in
    let v = c.in-Err.is in
    rw (ran.same _ v)
    (record {
      makes = makes-refused (within-not (channel_of a.self a.words.now a.whole.now) a.time c.requires.0 (rw v at ran.gives) refl) refl;
      passes = passes_same;
      same = λ i z. (refl, refl, refl);
    })
