-- Laws of feeding. The contract of `Feed::begin` has them all (`Laws`, below); the proof is `laws`
-- of proofs/Laws.antt.
use Rattle.std.specs.Prelude.{true, false, ◌≡◌, List, [], ◌∷◌, ◌++◌, ℕ, suc, ◌<◌, leb, length, drop}
use Rattle.lists.specs.Choice.{choose}
use Rattle.lists.specs.Splice.{fits}
use Rattle.day.specs.Read.{line_read}
use Rattle.day.specs.Day.{last_line}
use Rattle.day.specs.Sheet.{header, sheet}
use Rattle.feeding.specs.Fed.{Fed, beginning, closed, waits, taken, taken_bytes, remaining}
use Rattle.feeding.specs.Bound.{BeginsBounded, TakingKeepsBounds, SteppingKeepsBounds, PairsKeepBounds, StepsFit, PairsFit, LastFits}
use Rattle.feeding.specs.Moves.{due_frames, step_move, steps_move, last_move}

-- ---- what is still to be printed

-- before the first byte it is the sheet without its header
abbrev pub BeginsWithAll : Type 0
BeginsWithAll = (s : List ℕ) → header ++ remaining beginning s ≡ sheet s

-- bytes that are taken are no longer to come, and change nothing else
abbrev pub TakingLosesNothing : Type 0
TakingLosesNothing = (f : Fed) (s t : List ℕ) → remaining (taken f s) (drop (taken_bytes f s) s ++ t) ≡ remaining f (s ++ t)

-- a step prints what comes next, whatever the slice and whatever is to come
abbrev pub StepsPrintWhatIsNext : Type 0
StepsPrintWhatIsNext = (f : Fed) (room : ℕ) (s : List ℕ) → remaining f s ≡ (step_move f room).lines ++ remaining (step_move f room).fed s

-- and so do two
abbrev pub PairsPrintWhatIsNext : Type 0
PairsPrintWhatIsNext = (f : Fed) (room : ℕ) (s : List ℕ) → remaining f s ≡ (steps_move f room).lines ++ remaining (steps_move f room).fed s

-- where no byte is to come, and no whole line is to be done, the last move prints the rest
abbrev pub LastPrintsTheRest : Type 0
LastPrintsTheRest = (f : Fed) → waits f ≡ false → remaining f [] ≡ (last_move f).lines

-- and nothing is left where the sheet is over
abbrev pub OverPrintsNothing : Type 0
OverPrintsNothing = (f : Fed) (s : List ℕ) → f.over ≡ true → remaining f s ≡ []

-- ---- it goes on

-- where no whole line is to be done and the sheet is not over, some bytes of a piece are taken
abbrev pub TakingGoesOn : Type 0
TakingGoesOn = (f : Fed) (x : ℕ) (s : List ℕ) → closed f ≡ false → 0 < taken_bytes f (x ∷ s)

-- the steps that a whole line may still need: one a frame before its time, and one more
unfoldable pub steps_left : Fed → ℕ
steps_left f = choose (waits f) (suc (choose (leb f.number last_line) (due_frames f.day (line_read f.line)) 0)) 0

-- each step makes them fewer
abbrev pub StepsGoOn : Type 0
StepsGoOn = (f : Fed) (room : ℕ) → waits f ≡ true → steps_left (step_move f room).fed < steps_left f

abbrev pub PairsGoOn : Type 0
PairsGoOn = (f : Fed) (room : ℕ) → waits f ≡ true → steps_left (steps_move f room).fed < steps_left f

-- ---- every way of feeding

-- From the feed f on, with the pieces ps to come, w is printed: pieces are taken, and steps made,
-- one or two at a time, with slices of any lengths in which their lines fit, in any order, until
-- the input has ended or the sheet is over. A step that gets 9 changes nothing, so it is not
-- counted
pub data Feeding : Fed → List (List ℕ) → List ℕ → Type 0 where
  takes : {f : Fed} {p : List ℕ} {ps : List (List ℕ)} {w : List ℕ} → Feeding (taken f p) (drop (taken_bytes f p) p ∷ ps) w → Feeding f (p ∷ ps) w
  next : {f : Fed} {ps : List (List ℕ)} {w : List ℕ} → Feeding f ps w → Feeding f ([] ∷ ps) w
  steps : {f : Fed} (d : List ℕ) {ps : List (List ℕ)} {w : List ℕ} → fits d 0 (step_move f (length d)).lines ≡ true → Feeding (step_move f (length d)).fed ps w → Feeding f ps ((step_move f (length d)).lines ++ w)
  pairs : {f : Fed} (d : List ℕ) {ps : List (List ℕ)} {w : List ℕ} → fits d 0 (steps_move f (length d)).lines ≡ true → Feeding (steps_move f (length d)).fed ps w → Feeding f ps ((steps_move f (length d)).lines ++ w)
  ends : {f : Fed} → waits f ≡ false → Feeding f [] (last_move f).lines
  over : {f : Fed} {ps : List (List ℕ)} → f.over ≡ true → Feeding f ps []

-- the pieces, joined
abbrev pub joined : List (List ℕ) → List ℕ
joined [] = []
joined (p ∷ ps) = p ++ joined ps

-- however the day is cut into pieces, what is printed is its sheet
abbrev pub PiecesPrintTheSheet : Type 0
PiecesPrintTheSheet = (ps : List (List ℕ)) (w : List ℕ) → Feeding beginning ps w → header ++ w ≡ sheet (joined ps)

-- and there is such a feeding for every way of cutting it
pub record IsFed (ps : List (List ℕ)) : Type 0 where
  pub printed : List ℕ
  pub feeding : Feeding beginning ps printed

abbrev pub EveryDayIsFed : Type 0
EveryDayIsFed = (ps : List (List ℕ)) → IsFed ps

pub record Laws : Type 0 where
  pub begins : BeginsWithAll
  pub takes : TakingLosesNothing
  pub steps : StepsPrintWhatIsNext
  pub pairs : PairsPrintWhatIsNext
  pub last : LastPrintsTheRest
  pub over : OverPrintsNothing
  pub taking : TakingGoesOn
  pub stepping : StepsGoOn
  pub pairing : PairsGoOn
  pub pieces : PiecesPrintTheSheet
  pub fed : EveryDayIsFed
  pub bounded : BeginsBounded
  pub taking-bounded : TakingKeepsBounds
  pub stepping-bounded : SteppingKeepsBounds
  pub pairing-bounded : PairsKeepBounds
  pub fit : StepsFit
  pub pairs-fit : PairsFit
  pub last_fits : LastFits
