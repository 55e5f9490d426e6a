use mathlib.Core.Path.{◌≡◌, refl}
use Prim.Native.Nat.{ℕ}
use native.Mathlib.Omega.{arith}
use lib.ListN.{get_or}
use Rattle.std.proofs.Common.{rules}
use Rattle.std.specs.Bool.{⊤}
use Rattle.std.proofs.lemmas.Iterator.{YieldsList-from_range, cases_from_all}
use Rattle.server.specs.Server.{absent}
use Rattle.places.specs.Words.{servers_of, sending_number}
use Rattle.frames.proofs.Below.{all_below}
use Rattle.frames.proofs.nobody_sent.Goals as goal

pub returns : goal.returns
returns c e =
    let none : ℕ → Type 0 = λ i. sending_number (get_or (servers_of c.args.words.now) i absent) ≡ 0 in
    let all = cases_from_all _ _ _ none (λ i. ⊤) c.all.ensures.ran (YieldsList-from_range 0 16 16 refl refl) (λ i q k. search rules) (λ i q k. tt) in
    record { bound = λ i h. omega (arith, all_below _ _ 16 none all e i h) }
