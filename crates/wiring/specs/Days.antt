-- A whole day played by a group of fronts: its bytes are the day's sheet.
use Rattle.std.specs.Prelude.{Bool, true, false, ◌≡◌, List, [], ◌∷◌, ◌++◌, ℕ, suc, ◌+◌, ◌-◌, ltb, leb, eqb, length}
use Rattle.lists.specs.Choice.{choose}
use Rattle.heartbeat.specs.declared.Heartbeat.{Heartbeat}
use Rattle.roles.specs.declared.Verb.{Verb}
use Rattle.lines.specs.Lines.{line, refused_word}
use Rattle.group.specs.declared.Table.{Table}
use Rattle.group.specs.Table.{empty, add_refusal, added, fresh_refusal}
use Rattle.day.specs.Read.{DayLine, wrong, period, server, entry, end, lines_in, line_read}
use Rattle.day.specs.Day.{last_line}
use Rattle.day.specs.Sheet.{header, input_refusal, sheet}
use Rattle.wiring.specs.Heard.{Group, Heard}
use Rattle.wiring.specs.Group as group
use Rattle.wiring.specs.Group.{new_group, framed, lines_each, knows, entry_number, entry_lines, moved, MustHear}

-- ---- frames

-- n frames by the protocol, from the group g to the group d, with the lines w
pub data Plays : ℕ → Group → Group → List ℕ → Type 0 where
  stays : {g : Group} → Plays 0 g g []
  plays :
      {n : ℕ} {g d : Group} {w : List ℕ} (hear : ℕ → List Heartbeat) → ((j : ℕ) → MustHear g j → Heard g j (hear j)) →
      Plays n (framed hear g) d w → Plays (suc n) g d (lines_each hear 0 g.members ++ w)

-- ---- one line

-- the number with which a line ends the sheet, 0 where it does not: its fault; 4 for a line that is
-- not an entry or `end`; 8 for identities that are not in the table
unfoldable pub stops_in : Group → DayLine → ℕ
stops_in g (wrong n) = n
stops_in g (period p) = 4
stops_in g (server i p) = 4
stops_in g (entry t v a b) = choose (knows g v a b) 0 8
stops_in g (end t) = 0

-- after the day's end, and beyond the last line that a day may have
unfoldable pub stops_beyond : DayLine → ℕ
stops_beyond (wrong n) = n
stops_beyond (period p) = 4
stops_beyond (server i p) = 4
stops_beyond (entry t v a b) = 4
stops_beyond (end t) = 4

-- of line k
unfoldable pub line_stops : ℕ → Group → DayLine → ℕ
line_stops k g l = choose (leb k last_line) (stops_in g l) (stops_beyond l)

-- what an entry prints in its frame: its lines, or that of its refusal
unfoldable pub entry_prints : Group → Verb → ℕ → ℕ → List ℕ
entry_prints g v a b = choose (eqb (entry_number g v a b) 0) (entry_lines g v a b) (line g.frame a (refused_word (entry_number g v a b)))

-- lines that follow an `end` that was taken, the first being line k
unfoldable pub closed : ℕ → List (List ℕ) → List ℕ
closed k [] = []
closed k (l ∷ ls) = input_refusal k (stops_beyond (line_read l))

-- ---- all lines

-- what the group g may print from line k on, where these lines are still to come
pub data Prints : ℕ → Group → List (List ℕ) → List ℕ → Type 0 where
  -- "input ended without `end`"
  unended : {k : ℕ} {g : Group} → Prints k g [] (input_refusal k 4)
  -- the line's own fault; `stops` has it too where its number is not 0
  faults : {k n : ℕ} {g : Group} {l : List ℕ} {ls : List (List ℕ)} → line_read l ≡ wrong n → Prints k g (l ∷ ls) (input_refusal k n)
  stops : {k n : ℕ} {g : Group} {l : List ℕ} {ls : List (List ℕ)} → line_stops k g (line_read l) ≡ suc n → Prints k g (l ∷ ls) (input_refusal k (suc n))
  -- "11. Time before the present frame.", by whoever keeps the clock
  early :
      {k t a b : ℕ} {v : Verb} {g : Group} {l w : List ℕ} {ls : List (List ℕ)} → line_read l ≡ entry t v a b → line_stops k g (entry t v a b) ≡ 0 → ltb t g.frame ≡ true →
      Prints (suc k) g ls w → Prints k g (l ∷ ls) (line g.frame a (refused_word 11) ++ w)
  -- the frames up to the entry's time, then the entry
  enters :
      {k t a b : ℕ} {v : Verb} {g d : Group} {l u w : List ℕ} {ls : List (List ℕ)} → line_read l ≡ entry t v a b → line_stops k g (entry t v a b) ≡ 0 → ltb t g.frame ≡ false →
      Plays (t - g.frame) g d u → Prints (suc k) (moved d (group.entry v a b)) ls w → Prints k g (l ∷ ls) ((u ++ entry_prints d v a b) ++ w)
  ends_early :
      {k t : ℕ} {g : Group} {l w : List ℕ} {ls : List (List ℕ)} → line_read l ≡ end t → line_stops k g (end t) ≡ 0 → ltb t g.frame ≡ true →
      Prints (suc k) g ls w → Prints k g (l ∷ ls) (line g.frame 0 (refused_word 11) ++ w)
  ends :
      {k t : ℕ} {g d : Group} {l u : List ℕ} {ls : List (List ℕ)} → line_read l ≡ end t → line_stops k g (end t) ≡ 0 → ltb t g.frame ≡ false →
      Plays (t - g.frame) g d u → Prints k g (l ∷ ls) (u ++ closed (suc k) ls)

-- ---- the day

-- whether a line is an entry or `end`
unfoldable pub is_entry : DayLine → Bool
is_entry (wrong n) = false
is_entry (period p) = false
is_entry (server i p) = false
is_entry (entry t v a b) = true
is_entry (end t) = true

-- the lines ls, each a server that is taken, make the table u of the table t
pub data AddsAll : Table → List (List ℕ) → Table → Type 0 where
  none : {t : Table} → AddsAll t [] t
  next :
      {t u : Table} {i p : ℕ} {l : List ℕ} {ls : List (List ℕ)} → line_read l ≡ server i p → add_refusal t i ≡ 0 →
      AddsAll (added t i p) ls u → AddsAll t (l ∷ ls) u

-- the bytes of a day begin with `period n` and servers that make the table t; then comes an entry
-- or `end`, with which the lines `rest` begin, the first being line k
pub record DayOf (s : List ℕ) (t : Table) (n k : ℕ) (rest : List (List ℕ)) : Type 0 where
  pub first : List ℕ
  pub servers : List (List ℕ)
  pub entries : List ℕ
  pub more : List (List ℕ)
  pub bytes : lines_in s ≡ first ∷ (servers ++ rest)
  pub begins : rest ≡ entries ∷ more
  pub period : line_read first ≡ period n
  pub table : AddsAll empty servers t
  pub entry : is_entry (line_read entries) ≡ true
  pub taken : fresh_refusal t n ≡ 0
  pub line : k ≡ length servers + 2

-- whatever a group of fronts that is wired by the protocol prints for a day is the day's sheet
abbrev pub OneSheetOfADay : Type 0
OneSheetOfADay =
    (s : List ℕ) (t : Table) (n k : ℕ) (rest : List (List ℕ)) (w : List ℕ) → DayOf s t n k rest → Prints k (new_group t n) rest w →
    sheet s ≡ header ++ w

-- and a group can print something for every such day
pub record CanPrint (k : ℕ) (g : Group) (rest : List (List ℕ)) : Type 0 where
  pub printed : List ℕ
  pub prints : Prints k g rest printed

abbrev pub DaysCanBePlayed : Type 0
DaysCanBePlayed = (s : List ℕ) (t : Table) (n k : ℕ) (rest : List (List ℕ)) → DayOf s t n k rest → CanPrint k (new_group t n) rest

-- of every day either servers are taken and an entry or `end` follows, or the sheet is the header
-- and one refusal
pub data DayRead (s : List ℕ) : Type 0 where
  opened : {t : Table} {n k : ℕ} {rest : List (List ℕ)} → DayOf s t n k rest → DayRead s
  refused : (k n : ℕ) → sheet s ≡ header ++ input_refusal k n → DayRead s

abbrev pub DaysAreRead : Type 0
DaysAreRead = (s : List ℕ) → DayRead s
