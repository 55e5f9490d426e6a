use mathlib.Core.Path.{refl}
use Rattle.feeding.specs.Moves.{place_refusal}
use Rattle.feed.specs.Answers.{channel_of}
use Rattle.feed.proofs.Staging.{place_at}
use Rattle.feed.proofs.Feed.open.Goals as goal

pub returns-in-AtPeriod : goal.returns-in-AtPeriod
unfolding place_refusal
returns-in-AtPeriod c l k = let a = c.args in place_at a.self c.in-AtPeriod.is (channel_of a.self a.words.now k) refl

pub returns-in-AtServers : goal.returns-in-AtServers
unfolding place_refusal
returns-in-AtServers c l k = let a = c.args in place_at a.self c.in-AtServers.is (channel_of a.self a.words.now k) c.complete.ensures

pub returns-in-AtEntries : goal.returns-in-AtEntries
unfolding place_refusal
returns-in-AtEntries c l k = let a = c.args in place_at a.self c.in-AtEntries.is (channel_of a.self a.words.now k) refl

pub returns-in-AtClose : goal.returns-in-AtClose
unfolding place_refusal
returns-in-AtClose c l k = let a = c.args in place_at a.self c.in-AtClose.is (channel_of a.self a.words.now k) refl
