-- What the calls of a feed answer.
use Rattle.std.specs.Prelude.{Bool, true, false, ◌≡◌, List, ℕ, ◌+◌, eqb, length, take, Result, Err}
use Rattle.lists.specs.Choice.{choose}
use Rattle.lists.specs.Splice.{splice, fits}
use Rattle.refusal.specs.declared.Refusal.{Refusal}
use Rattle.text.specs.Write.{Writes}
use Rattle.periods.specs.Period.{shortest}
use Rattle.group.specs.declared.State.{State}
use Rattle.places.specs.Words.{servers_of, words_of, Canonical}
use Rattle.frame.specs.Answers.{state_of}
use Rattle.day.specs.Day.{Stage as DayStage, Day, begin, on, atPeriod, atServers, atEntries, atClose}
use Rattle.day.specs.Sheet.{header}
use Rattle.feeding.specs.Fed.{Fed, beginning, waits, taken, taken_bytes}
use Rattle.feeding.specs.Moves.{Move, last_move}
use Rattle.feeding.specs.Laws.{Laws}
use Rattle.feed.specs.declared.Stage.{Stage}
use Rattle.feed.specs.declared.Stage.TheVariants.{AtPeriod, AtServers, AtEntries, AtClose}
use Rattle.feed.specs.declared.Feed.{Feed}
use Rattle.feed.specs.declared.Taken.{Taken}
use Rattle.feed.specs.declared.Step.{Step}

-- before the period has come there is no channel
abbrev pub day_of : Stage → State → Day
day_of AtPeriod c = begin
day_of AtServers c = on atServers c
day_of AtEntries c = on atEntries c
day_of AtClose c = on atClose c

-- the channel of a feed where w are the numbers of the servers and k the links
abbrev pub channel_of : Feed → List ℕ → List Bool → State
channel_of f w k = state_of f.frame f.period (servers_of w) k

-- what a feed stands for with all that is lent to it, l being the bytes of the line. It forgets the
-- bytes behind those that have come, numbers and links before the period has come, and which
-- numbers stand for the same servers. Contracts decide these too (`Leaves`, `line_taken`), but for
-- numbers that are not canonical and were lent after the period had come
abbrev pub fed_of : Feed → List ℕ → List ℕ → List Bool → Fed
fed_of f l w k = record { over = f.over; number = f.number; line = take f.length l; day = day_of f.stage (channel_of f w k) }

-- ---- every field of a feed, and every element of what is lent to it

-- a feed before the first byte
abbrev pub fresh_feed : Feed
fresh_feed = record { over = false; number = 1; length = 0; stage = AtPeriod; frame = 0; period = shortest }

-- the stage of a day, as a feed has it
abbrev pub stage_of : DayStage → Stage
stage_of atPeriod = AtPeriod
stage_of atServers = AtServers
stage_of atEntries = AtEntries
stage_of atClose = AtClose

-- no period has come, so that there is no channel
abbrev pub unmade : DayStage → Bool
unmade atPeriod = true
unmade atServers = false
unmade atEntries = false
unmade atClose = false

-- The feed x where n bytes were taken and it stands for f: on the same line it has n bytes more, on
-- another as many as that line; frame and period are those of the channel, where there is one
unfoldable pub feed_after : Feed → ℕ → Fed → Feed
feed_after x n f =
    record {
      over = f.over;
      number = f.number;
      length = choose (eqb f.number x.number) (x.length + n) (length f.line);
      stage = stage_of f.day.stage;
      frame = choose (unmade f.day.stage) x.frame f.day.channel.frame;
      period = choose (unmade f.day.stage) x.period f.day.channel.period;
    }

-- the numbers w and the links k then: those of the channel, where there is one
unfoldable pub words_after : List ℕ → Fed → List ℕ
words_after w f = choose (unmade f.day.stage) w (words_of f.day.channel.servers)

unfoldable pub links_after : List Bool → Fed → List Bool
links_after k f = choose (unmade f.day.stage) k f.day.channel.whole

-- the bytes l lent for the line, once f has taken its bytes of the piece s
abbrev pub line_taken : Fed → List ℕ → List ℕ → List ℕ
line_taken f s l = splice l (length f.line) (take (taken_bytes f s) s)

-- The feed x, the numbers w and the links k become x', w' and k' where n bytes are taken and f is
-- known. The period's line writes every number anew, so those lent before it may be any; of numbers
-- lent later that are not canonical, made by another hand, the servers are decided (`fed_of`)
pub record Leaves (x : Feed) (w : List ℕ) (k : List Bool) (n : ℕ) (f : Fed) (x' : Feed) (w' : List ℕ) (k' : List Bool) : Type 0 where
  pub feed : x' ≡ feed_after x n f
  pub words : Canonical w → w' ≡ words_after w f
  pub opened : x.stage ≡ AtPeriod → w' ≡ words_after w f
  pub before : unmade f.day.stage ≡ true → w' ≡ w
  pub links : k' ≡ links_after k f

-- ---- what calls answer

-- the header, and what holds of every feeding. What is lent does not matter before the first byte
pub record Begins (d : List ℕ) (r : Step) (d' : List ℕ) : Type 0 where
  pub out : Writes d 0 header r.written d'
  pub feed : r.feed ≡ fresh_feed
  pub fed : (l w : List ℕ) (k : List Bool) → fed_of r.feed l w k ≡ beginning
  pub laws : Laws

-- n bytes of the piece s are taken
pub record Takes (f : Fed) (s : List ℕ) (n : ℕ) (f' : Fed) : Type 0 where
  pub used : n ≡ taken_bytes f s
  pub fed : f' ≡ taken f s

-- the same of the feed x and the bytes l of its line, which become x' and l'
pub record TakesIn (x : Feed) (l w : List ℕ) (k : List Bool) (s : List ℕ) (n : ℕ) (x' : Feed) (l' : List ℕ) : Type 0 where
  pub takes : Takes (fed_of x l w k) s n (fed_of x' l' w k)
  pub leaves : Leaves x w k n (taken (fed_of x l w k) s) x' w k
  pub line : l' ≡ line_taken (fed_of x l w k) s l

-- what is known after the move m of f with the lent slice d: where its lines do not fit, the same
abbrev pub after_move : Fed → Move → List ℕ → Fed
after_move f m d = choose (fits d 0 m.lines) m.fed f

-- where they do not fit it gets 9, and nothing is written
pub record Makes (f : Fed) (m : Move) (d : List ℕ) (p : Result ℕ Refusal) (f' : Fed) (d' : List ℕ) : Type 0 where
  pub out : Writes d 0 m.lines p d'
  pub fed : f' ≡ after_move f m d

-- the same of the feed x and all that is lent to it: the bytes l of the line, the numbers w of the
-- servers and the links k
pub record MakesIn (x : Feed) (l w : List ℕ) (k : List Bool) (m : Fed → ℕ → Move) (d : List ℕ) (r : Step) (w' : List ℕ) (k' : List Bool) (d' : List ℕ) : Type 0 where
  pub makes : Makes (fed_of x l w k) (m (fed_of x l w k) (length d)) d r.written (fed_of r.feed l w' k') d'
  pub leaves : Leaves x w k 0 (after_move (fed_of x l w k) (m (fed_of x l w k) (length d)) d) r.feed w' k'
  -- refused: all is as it was
  pub same : (n : Refusal) → r.written ≡ Err n → (r.feed ≡ x) × (w' ≡ w) × (k' ≡ k) × (d' ≡ d)

-- ---- calls to which less is lent: what is not does not matter, and stays

abbrev pub Waits : Feed → List ℕ → Bool → Type 0
Waits x l r = (w : List ℕ) (k : List Bool) → r ≡ waits (fed_of x l w k)

abbrev pub IsOver : Feed → Bool → Type 0
IsOver x r = (l w : List ℕ) (k : List Bool) → r ≡ (fed_of x l w k).over

abbrev pub TakesTo : Feed → List ℕ → List ℕ → Taken → List ℕ → Type 0
TakesTo x l s r l' = (w : List ℕ) (k : List Bool) → TakesIn x l w k s r.used r.feed l'

abbrev pub Finishes : Feed → List ℕ → List ℕ → Step → List ℕ → Type 0
Finishes x l d r d' = (w : List ℕ) (k : List Bool) → MakesIn x l w k (λ f room. last_move f) d r w k d'
