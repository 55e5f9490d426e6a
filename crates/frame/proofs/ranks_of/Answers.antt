use mathlib.Core.Path.{◌≡◌, refl}
use Prim.Native.Nat.{ℕ, ◌<◌}
use native.Mathlib.Omega.{arith}
use borrow.Author.Rules.{rules}
use lib.ListN.{get_or}
use Rattle.server.specs.Server.{absent}
use Rattle.places.specs.Words.{servers_of, rank_number}
use Rattle.frame.proofs.Filled.{filled_from}
use Rattle.frame.proofs.ranks_of.Goals as goal

pub returns : goal.returns
returns c =
    let l = servers_of c.args.words.now in
    let P : ℕ → ℕ → Type 0 = λ i n. (n ≡ rank_number (get_or l i absent)) × (n < 16777216) in
    let made = filled_from _ _ P (λ i n q k. search rules) c.from_fn.result 0 16 _ refl c.from_fn.ensures.items.each in
    record { ranks = λ i h. (made i 0 (omega arith) (omega arith)).0; small = λ i h. (made i 0 (omega arith) (omega arith)).1 }
