-- The file of days, and what is found of a day.
use Rattle.std.specs.Prelude.{ℕ, zero, suc, ◌+◌, ◌||◌, List, [], ◌++◌, length, take, drop, ◌==◌, nat_lt, Option, Some, None, Ok, Err, option_map, option_and_then}
use Rattle.lists.specs.Choice.{choose}
use Rattle.lists.specs.Lists.{same, up_to}
use Rattle.lists.specs.Splice.{fits}
use Rattle.asked.specs.Lines.{number_in}
use Rattle.day.specs.Sheet.{sheet}
use Rattle.vectors.specs.Check.{check_of}
use Rattle.vectors.specs.declared.Number.{Number}
use Rattle.vectors.specs.declared.Line.{Line}
use Rattle.vectors.specs.Found.{Found}
use Rattle.vectors.specs.declared.Differs.TheVariants.{Length, Bytes, Check, TooLong}

-- a field as a number up to the greatest, where it is one, and the place after it
abbrev pub with_field : List ℕ → ℕ → ℕ → Option Number
with_field s at greatest = option_map (λ n. record { n = n; at = at }) (number_in greatest s)

-- the number at the place `at`, where `rest` is what follows, up to the byte `stop`; none where
-- there is no such byte
unfoldable pub next_in : ℕ → List ℕ → ℕ → ℕ → Option Number
next_in at rest stop greatest =
    choose (nat_lt (up_to stop rest) (length rest))
    (with_field (take (up_to stop rest) rest) (at + up_to stop rest + 1) greatest)
    None

abbrev pub next_number : ℕ → List ℕ → ℕ → ℕ → Option Number
next_number at s stop greatest = next_in at (drop at s) stop greatest

-- a number that ends in a tab
abbrev pub tabbed : List ℕ → ℕ → Option Number
tabbed s at = next_number at s 9 2097152

-- HEAD TIMES BODY TAIL SHEET SHOWN CHECK
abbrev pub line_of : Number → Number → Number → Number → Number → Number → Number → Line
line_of a b c d e f g =
    record {
      head = a.n;
      times = b.n;
      body = c.n;
      tail = d.n;
      sheet = e.n;
      shown = f.n;
      check = g.n;
      at = g.at;
      end = g.at + a.n + c.n + d.n + f.n;
    }

-- none where one of them is not well written
abbrev pub line_at : List ℕ → ℕ → Option Line
line_at s at =
    option_and_then (λ a. option_and_then (λ b. option_and_then (λ c. option_and_then (λ d. option_and_then (λ e. option_and_then (λ f. option_and_then
    (λ g. Some (line_of a b c d e f g))
    (next_number f.at s 10 18446744073709551615)) (tabbed s e.at)) (tabbed s d.at)) (tabbed s c.at)) (tabbed s b.at)) (tabbed s a.at)) (tabbed s at)

abbrev pub times : ℕ → List ℕ → List ℕ
times zero s = []
times (suc n) s = times n s ++ s

abbrev pub day_of : List ℕ → ℕ → List ℕ → List ℕ → List ℕ
day_of head n body tail = (head ++ times n body) ++ tail

-- a sheet against its length, the bytes shown, if any are, and the check: what differs first
unfoldable pub compared : List ℕ → ℕ → List ℕ → ℕ → Found
compared s n shown k =
    choose (length s == n)
    (choose (length shown == 0 || same s shown)
    (choose (check_of s == k) (Ok tt) (Err Check))
    (Err Bytes))
    (Err Length)

-- the sheet of a day, where it fits the slice d
unfoldable pub sheet_compared : List ℕ → List ℕ → ℕ → List ℕ → ℕ → Found
sheet_compared d day n shown k = choose (fits d 0 (sheet day)) (compared (sheet day) n shown k) (Err Length)

-- n bytes of the file s from the place `at` on
abbrev pub part : List ℕ → ℕ → ℕ → List ℕ
part s at n = take n (drop at s)

-- the day of a line, and the bytes shown of its sheet
abbrev pub day_at : List ℕ → Line → List ℕ
day_at s l =
    day_of (part s l.at l.head) l.times (part s (l.at + l.head) l.body) (part s (l.at + l.head + l.body) l.tail)

abbrev pub shown_at : List ℕ → Line → List ℕ
shown_at s l = part s (l.at + l.head + l.body + l.tail) l.shown

-- where the day fits the slice d, and its sheet the slice o
unfoldable pub found_at : List ℕ → Line → List ℕ → List ℕ → Found
found_at s l d o = choose (fits d 0 (day_at s l)) (sheet_compared o (day_at s l) l.sheet (shown_at s l) l.check) (Err TooLong)
