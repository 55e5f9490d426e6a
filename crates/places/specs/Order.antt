-- Which place hears which, and which comes first, over the ranks of all places as numbers and the
-- links.
use Rattle.std.specs.Prelude.{Bool, true, false, not, ◌&&◌, List, ℕ, ◌+◌, ltb, leb, eqb, get_or}
use Rattle.lists.specs.Choice.{choose}
use Rattle.group.specs.Table.{most}
use Rattle.group.specs.Hearing.{link_of, is_place}
use Rattle.places.specs.declared.Best.{Best}

-- place a is over place b
abbrev pub over_by : List ℕ → ℕ → ℕ → Bool
over_by ranks a b = ltb (get_or ranks b 0) (get_or ranks a 0)

-- place i, if it is heard, comes after the place last and before the best so far; 16 or more for
-- either is none, and leaves its side open
abbrev pub comes_by : List ℕ → Bool → ℕ → ℕ → ℕ → Bool
comes_by ranks heard last best i =
    heard && (choose (is_place last) (over_by ranks last i) true && choose (is_place best) (over_by ranks i best) true)

-- place j would hear what place i sends: they are two, and the link from i to j is whole
abbrev pub heard_by : List Bool → ℕ → ℕ → Bool
heard_by w j i = not (eqb i j) && get_or w (link_of i j) false

-- the same, of places only
abbrev pub hears_at : List Bool → ℕ → ℕ → Bool
hears_at w j i = choose (is_place i && is_place j) (heard_by w j i) false

-- beyond all ranks
abbrev pub rank_end : ℕ
rank_end = 4294967296

-- what the rank of a place is under if it comes after the place last
abbrev pub rank_under : List ℕ → ℕ → ℕ
rank_under ranks last = choose (is_place last) (get_or ranks last 0) rank_end

-- none so far
abbrev pub no_best : Best
no_best = record { place = most; least = 0 }

-- of place i with the rank n, and the best so far, the one that comes sooner
abbrev pub better_of : ℕ → Best → ℕ → ℕ → Best
better_of under best n i = choose (ltb n under && leb best.least n) (record { place = i; least = n + 1 }) best
