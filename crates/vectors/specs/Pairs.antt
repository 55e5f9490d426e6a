-- The file of pairs, and what is found of a pair.
use Rattle.std.specs.Prelude.{ℕ, zero, suc, ◌+◌, List, length, ◌==◌, nat_le, Option, Some, None, Ok, Err, option_and_then}
use Rattle.lists.specs.Choice.{choose}
use Rattle.departure.specs.Departure.{line_number, judged}
use Rattle.vectors.specs.declared.Number.{Number}
use Rattle.vectors.specs.declared.Pair.{Pair}
use Rattle.vectors.specs.declared.Tally.{Tally}
use Rattle.vectors.specs.Found.{Found}
use Rattle.vectors.specs.declared.Differs.TheVariants.{Answer}
use Rattle.vectors.specs.Days.{next_number, tabbed, part}
use Rattle.vectors.specs.Tally.{counted, stopped}

-- DAY SHEET ANSWER
abbrev pub pair_of : Number → Number → Number → Pair
pair_of a b c = record { day = a.n; sheet = b.n; answer = c.n; at = c.at; end = c.at + a.n + b.n }

-- none where one of them is not well written
abbrev pub pair_at : List ℕ → ℕ → Option Pair
pair_at s at =
    option_and_then (λ a. option_and_then (λ b. option_and_then
    (λ c. Some (pair_of a b c))
    (next_number b.at s 10 2097152)) (tabbed s a.at)) (tabbed s at)

-- the answer to the day and the sheet of a pair
abbrev pub answer_to : List ℕ → Pair → ℕ
answer_to s p = line_number (judged (part s p.at p.day) (part s (p.at + p.day) p.sheet))

unfoldable pub pair_found : List ℕ → Pair → Found
pair_found s p = choose (answer_to s p == p.answer) (Ok tt) (Err Answer)

-- one pair more, p, where it is well written and whole
unfoldable pub with_pair : List ℕ → Tally → Option Pair → Tally
with_pair s t None = stopped t
with_pair s t (Some p) = choose (nat_le p.end (length s)) (counted t (pair_found s p) p.end 0) (stopped t)

abbrev pub next_pair : List ℕ → Tally → Tally
next_pair s t = with_pair s t (pair_at s t.at)

-- n pairs more, unless one is not well written
unfoldable pub pairs_from : ℕ → List ℕ → Tally → Tally
pairs_from zero s t = t
pairs_from (suc n) s t = choose t.good (pairs_from n s (next_pair s t)) t
