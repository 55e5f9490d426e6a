-- Fillers counted: from one byte to the next, and past the last. Assumes nothing.
use mathlib.Core.Path.{◌≡◌, ap}
use mathlib.Core.List.{List}
use Prim.Native.Nat.{ℕ, ◌+◌, ◌<◌, ◌≤◌}
use native.Mathlib.Numerals.{add-one}
use lib.Dec.{eqb}
use lib.ListN.{length, get_or, drop, drop_of_length-le}
use lib.Seq.{drop-cons}
use Rattle.lists.specs.Choice.{choose}
use Rattle.cases.specs.Cases.{fillers}

pub turn : (s : List ℕ) (i : ℕ) → i < length s → fillers (drop i s) ≡ choose (eqb (get_or s i 0) 35) 1 0 + fillers (drop (i + 1) s)
turn s i h = rw add-one (ap fillers (drop-cons s i 0 h))

pub end : (s : List ℕ) (i : ℕ) → length s ≤ i → fillers (drop i s) ≡ 0
end s i h = ap fillers (drop_of_length-le s h)
