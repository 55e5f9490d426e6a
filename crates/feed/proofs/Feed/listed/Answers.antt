use mathlib.Core.Bool.{true}
use mathlib.Core.List.{List}
use mathlib.Core.Path.{sym, ap, ap₂, ◌∙◌}
use lib.ListN.{replicate, take}
use Rattle.server.specs.declared.Server.{Server}
use Rattle.group.proofs.Made.{same-servers}
use Rattle.places.specs.Words.{words_of}
use Rattle.frame.specs.Answers.{state_of}
use Rattle.feeding.specs.Fed.{Fed}
use Rattle.feed.specs.declared.Feed.{Feed}
use Rattle.feed.specs.Answers.{day_of}
use Rattle.feed.proofs.Leaving.{made-servers, passes-next}
use Rattle.feed.proofs.Making.{does-none}
use Rattle.feed.proofs.Feed.listed.Goals as goal

pub returns : goal.returns
returns c d l =
    let a = c.args in
    let same = c.words_of.ensures.servers ∙ c.servers-servers.ensures ∙ sym (same-servers a.table.servers c.requires.1) in
    let f : Feed → List Server → Fed = λ x s. record { over = x.over; number = x.number; line = take x.length l; day = day_of x.stage (state_of 0 a.period s (replicate 256 true)) } in
    let p = c.words_of.ensures in
    let numbers = p.numbers ∙ ap words_of (sym p.servers) in
    let on_line = c.turned-next.ensures in
    does-none (ap₂ f on_line same) (passes-next (λ z. numbers) (λ z. numbers) made-servers (ap (λ (x : Feed). x.stage) on_line) (ap (λ (x : Feed). x.number) on_line) (ap (λ (x : Feed). x.length) on_line))
