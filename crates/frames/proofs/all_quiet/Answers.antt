use mathlib.Core.Path.{◌≡◌, refl}
use Prim.Native.Nat.{ℕ, ◌+◌}
use native.Mathlib.Omega.{arith}
use borrow.Author.Tests.{tests}
use lib.ListN.{get_or}
use Rattle.std.proofs.Common.{rules}
use Rattle.std.specs.Bool.{⊤}
use Rattle.std.proofs.lemmas.Iterator.{YieldsList-from_range, cases_from_all}
use Rattle.server.specs.Server.{absent}
use Rattle.places.specs.Words.{servers_of, sending_number}
use Rattle.frame.specs.Steps.{Rests}
use Rattle.frames.proofs.Below.{all_below}
use Rattle.frames.proofs.all_quiet.Goals as goal

pub returns : goal.returns
returns c e =
    let a = c.args in
    let l = servers_of a.words.now in
    let quiet : ℕ → Type 0 = λ i. (sending_number (get_or l i absent) ≡ 0) × Rests a.frame a.period (get_or l i absent) (a.target + 1) in
    let all = cases_from_all _ _ _ quiet (λ i. ⊤) c.all.ensures.ran (YieldsList-from_range 0 16 16 refl refl) (λ i q k. search (rules, tests)) (λ i q k. tt) in
    let each = all_below _ _ 16 quiet all e in
    (record { bound = λ i h. omega (arith, (each i h).0) }, record { all = λ i h. (each i h).1 })
