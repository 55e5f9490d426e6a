-- What private functions answer. Nothing is promised here.
use Rattle.std.specs.Prelude.{Bool, true, ◌≡◌, List, ◌⊎◌, ℕ, ◌+◌, ◌-◌, ◌≤◌, ◌<◌, length, Result, Ok, Err}
use Rattle.lists.specs.Splice.{splice}
use Rattle.refusal.specs.declared.Refusal.{Refusal}
use Rattle.refusal.specs.Answer.{of_verdict, number_of}
use Rattle.group.specs.declared.State.{State}
use Rattle.places.specs.Words.{Canonical}
use Rattle.day.specs.Day.{on, atEntries, refusal}
use Rattle.day.specs.Read.{line_read}
use Rattle.dayline.specs.declared.DayLine.{DayLine}
use Rattle.dayline.specs.DayLine.{of_day_line}
use Rattle.feeding.specs.Fed.{Fed, waits}
use Rattle.feeding.specs.Moves.{Move, going, place_refusal, step_move}
use Rattle.feed.specs.declared.Stage.{Stage}
use Rattle.feed.specs.declared.Stage.TheVariants.{AtPeriod}
use Rattle.feed.specs.declared.Feed.{Feed}
use Rattle.feed.specs.declared.Filled.{Filled}
use Rattle.feed.specs.declared.Step.{Step}
use Rattle.feed.specs.Answers.{channel_of, fed_of, TakesIn, Makes}

-- so many bytes of the line are there
abbrev pub with_length : Feed → ℕ → Feed
with_length x n = record { over = x.over; number = x.number; length = n; stage = x.stage; frame = x.frame; period = x.period }

-- the line l, filled from the piece s
abbrev pub Fills : Feed → List ℕ → List ℕ → Filled → Type 0
Fills x l s r = (w : List ℕ) (k : List Bool) → TakesIn x l w k s r.used r.feed r.line

-- a stage where the period has come, so that there is a channel
abbrev pub Made : Stage → Type 0
Made g = g ≡ AtPeriod → ⊥

-- a line that is kept or done, before there is a channel or on one; where the channel is made its
-- numbers are canonical
pub record Passes (x : Feed) (w : List ℕ) (k : List Bool) (x' : Feed) (w' : List ℕ) (k' : List Bool) : Type 0 where
  pub line : ((x'.number ≡ x.number) × (x'.length ≡ x.length)) ⊎ ((x.number < x'.number) × (x'.length ≡ 0))
  pub before : x'.stage ≡ AtPeriod → (x.stage ≡ AtPeriod) × (x'.frame ≡ x.frame) × (x'.period ≡ x.period) × (w' ≡ w) × (k' ≡ k)
  pub form : Canonical w → Canonical w'
  pub opened : x.stage ≡ AtPeriod → Made x'.stage → Canonical w'

-- the move m, and what becomes of the feed and of what is lent to it
pub record MakesAll (x : Feed) (l w : List ℕ) (k : List Bool) (m : Move) (d : List ℕ) (p : Result ℕ Refusal) (x' : Feed) (w' : List ℕ) (k' : List Bool) (d' : List ℕ) : Type 0 where
  pub makes : Makes (fed_of x l w k) m d p (fed_of x' l w' k') d'
  pub passes : Passes x w k x' w' k'
  pub same : (n : Refusal) → p ≡ Err n → (x' ≡ x) × (w' ≡ w) × (k' ≡ k)

-- a move, made from what is known and the channel, whatever the line is: w and k are the numbers
-- and the links before it, w' and k' those after it
abbrev pub Does : Feed → List ℕ → List Bool → (Fed → State → Move) → List ℕ → Step → List ℕ → List Bool → List ℕ → Type 0
Does x w k m d r w' k' d' = (l : List ℕ) → MakesAll x l w k (m (fed_of x l w k) (channel_of x w k)) d r.written r.feed w' k' d'

-- the same where they stay, whatever they are
abbrev pub Keeps : Feed → (Fed → State → Move) → List ℕ → Step → List ℕ → Type 0
Keeps x m d r d' = (w : List ℕ) (k : List Bool) → Does x w k m d r w k d'

-- the same where nothing is written, whatever the slice is
abbrev pub Becomes : Feed → List ℕ → List Bool → (Fed → State → Move) → Step → List ℕ → List Bool → Type 0
Becomes x w k m r w' k' = (d : List ℕ) → Does x w k m d r w' k' d

-- the feed x on its next line, where such lines have come
abbrev pub turned : Feed → Stage → Feed
turned x g = record { over = x.over; number = x.number + 1; length = 0; stage = g; frame = x.frame; period = x.period }

-- the line d that was read is the line of f, where that is to be done
abbrev pub IsOf : Result DayLine Refusal → Fed → Type 0
IsOf d f = waits f ≡ true → of_day_line d ≡ line_read f.line

-- a step of f after the first n bytes of the slice d, where it fits there
pub record Follows (f : Fed) (n : ℕ) (d : List ℕ) (p : Result ℕ Refusal) (f' : Fed) (d' : List ℕ) : Type 0 where
  pub so :
      length (step_move f (length d - n)).lines ≤ length d - n →
      (p ≡ Ok (n + length (step_move f (length d - n)).lines)) × (f' ≡ (step_move f (length d - n)).fed) × (d' ≡ splice d n (step_move f (length d - n)).lines)
  pub not : length d - n < length (step_move f (length d - n)).lines → (p ≡ Ok n) × (f' ≡ f) × (d' ≡ d)

-- the same of the feed x and what is lent to it; it is never refused
pub record FollowsAll (x : Feed) (l w : List ℕ) (k : List Bool) (n : ℕ) (d : List ℕ) (p : Result ℕ Refusal) (x' : Feed) (w' : List ℕ) (k' : List Bool) (d' : List ℕ) : Type 0 where
  pub follows : Follows (fed_of x l w k) n d p (fed_of x' l w' k') d'
  pub passes : Passes x w k x' w' k'
  pub accepted : (i : Refusal) → p ≡ Err i → ⊥

-- after a write that was done, or refused
abbrev pub if_written : Result ℕ Refusal → Feed → Feed → Feed
if_written (Ok n) a b = a
if_written (Err k) a b = b

pub record Puts (before after : Feed) (p : Result ℕ Refusal) (r : Step) : Type 0 where
  pub written : r.written ≡ p
  pub feed : r.feed ≡ if_written p after before

-- the line of a refusal from the state
abbrev pub refusing : ℕ → ℕ → Fed → State → Move
refusing i n f c = going f (refusal c i n) (on atEntries c)

-- a verb of server i that got k: where k is 9 the slice was too short for its lines
pub record RefusesCall (x : Feed) (i : ℕ) (k : Refusal) (d : List ℕ) (r : Step) (d' : List ℕ) : Type 0 where
  pub short : number_of k ≡ 9 → (r.written ≡ Err k) × (r.feed ≡ x) × (d' ≡ d)
  pub long : (number_of k ≡ 9 → ⊥) → Keeps x (refusing i (number_of k)) d r d'

-- whether entries may come
abbrev pub Opens : Feed → List ℕ → (Result (Unit {0}) Refusal) → Type 0
Opens x w r = (l : List ℕ) (k : List Bool) → of_verdict r ≡ place_refusal (fed_of x l w k).day.stage (fed_of x l w k).day.channel
