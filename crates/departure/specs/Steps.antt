-- What private functions answer. Nothing is promised here.
use Rattle.std.specs.Prelude.{◌≡◌, List, ℕ, ◌+◌, ◌≤◌, eqb, length, drop}
use Rattle.lists.specs.Choice.{choose}
use Rattle.departure.specs.declared.Counted.{Counted}
use Rattle.departure.specs.Compare.{onwards, compared}

-- one where two bytes are equal, else none
abbrev pub alike : ℕ → ℕ → ℕ
alike x y = choose (eqb x y) 1 0

-- equal at the first i places, which end l lines
pub record Comparing (a b : List ℕ) (l i : ℕ) : Type 0 where
  pub due : i ≤ length a
  pub found : i ≤ length b
  pub few : l ≤ i
  pub so_far : compared a b ≡ onwards i l (compared (drop i a) (drop i b))

-- where all bytes of a block are equal, it goes on after it
pub record Counts (a b : List ℕ) (at : ℕ) (r : Counted) : Type 0 where
  pub few : r.lines ≤ 128
  pub all : (l : ℕ) → Comparing a b l at → r.equal ≡ 128 → Comparing a b (l + r.lines) (at + 128)
