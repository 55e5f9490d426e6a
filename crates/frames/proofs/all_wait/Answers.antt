use mathlib.Core.Bool.{false}
use mathlib.Core.Path.{◌≡◌, refl}
use Prim.Native.Nat.{ℕ}
use borrow.Author.Tests.{tests}
use lib.ListN.{get_or}
use Rattle.std.proofs.Common.{rules}
use Rattle.std.specs.Bool.{⊤}
use Rattle.std.proofs.lemmas.Iterator.{YieldsList-from_range, cases_from_all}
use Rattle.server.specs.Server.{absent}
use Rattle.group.specs.Hearing.{link_of}
use Rattle.places.specs.Words.{servers_of}
use Rattle.frames.specs.Steps.{Waits}
use Rattle.frames.proofs.Below.{all_below}
use Rattle.frames.proofs.all_wait.Goals as goal

pub returns : goal.returns
returns c e =
    let a = c.args in
    let waits : ℕ → Type 0 = λ i. (i ≡ a.b → ⊥) → Waits a.period (get_or a.whole.now (link_of a.b i) false) a.frame a.next (get_or (servers_of a.words.now) i absent) in
    let all = cases_from_all _ _ _ waits (λ i. ⊤) c.all.ensures.ran (YieldsList-from_range 0 16 16 refl refl) (λ i q k. search (rules, tests)) (λ i q k. tt) in
    all_below _ _ 16 waits all e
