-- The period, and the limits that it sets.
use Rattle.std.specs.Prelude.{◌&&◌, [], ◌∷◌, ℕ, ◌*◌, leb, Result, Ok, Err}
use Rattle.lists.specs.Choice.{choose}
use Rattle.refusal.specs.Answer.{Answer, accepted, refused, number_of}
use Rattle.periods.specs.declared.Period.{Period}
use Rattle.refusal.specs.declared.Refusal.{Refusal}

-- the number and the values of the answer: the frames of the period
abbrev pub of_period : Result Period Refusal → Answer
of_period (Ok p) = accepted (p.frames ∷ [])
of_period (Err r) = refused (number_of r)

-- "P is the period in frames, 2..250"
abbrev pub least_period : ℕ
least_period = 2

abbrev pub greatest_period : ℕ
greatest_period = 250

-- a period where none is known yet, as for a channel that could not be opened
abbrev pub shortest : Period
shortest = record { frames = least_period }

-- "2. A number .. out of range."
unfoldable pub take_period : ℕ → Answer
take_period n = choose (leb least_period n && leb n greatest_period) (accepted (n ∷ [])) (refused 2)

-- "The silence limit and the prospect limit are both 2 × P."
abbrev pub silence_limit : Period → ℕ
silence_limit p = 2 * p.frames

abbrev pub prospect_limit : Period → ℕ
prospect_limit p = 2 * p.frames

-- "beat age P"
abbrev pub beat_limit : Period → ℕ
beat_limit p = p.frames
