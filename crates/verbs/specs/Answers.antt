-- What a verb answers, and what it makes of the servers and of the links.
use Rattle.std.specs.Prelude.{Bool, List, ◌≡◌, ℕ, length, Result, Err}
use Rattle.refusal.specs.declared.Refusal.{Refusal}
use Rattle.periods.specs.declared.Period.{Period}
use Rattle.roles.specs.declared.Verb.{Verb}
use Rattle.group.specs.Outcome.{channel_in}
use Rattle.group.specs.Answers.{Gives}
use Rattle.group.specs.Verbs.{known, verb_outcome}
use Rattle.places.specs.Words.{servers_of, Becomes}
use Rattle.frame.specs.Answers.{state_of, verdict_of, bytes_of}

-- whether the servers with the numbers w have the identities of the verb v, and these differ,
-- whatever the frame, the period and the links
abbrev pub Knows : List ℕ → Verb → ℕ → ℕ → Bool → Type 0
Knows w v a b r = (t : ℕ) (p : Period) (l : List Bool) → r ≡ known (state_of t p (servers_of w) l) v a b

-- the verb v in frame t with the lent slice d, whatever the period: w are the numbers of the
-- servers and l the links before it, w' and l' those after it
pub record Acts (t : ℕ) (w : List ℕ) (l : List Bool) (v : Verb) (a b : ℕ) (d : List ℕ) (r : Result ℕ Refusal) (w' : List ℕ) (l' : List Bool) (d' : List ℕ) : Type 0 where
  pub gives : (p : Period) → Gives (state_of t p (servers_of w) l) (verb_outcome (state_of t p (servers_of w) l) v a b) d (verdict_of r) (bytes_of r) (state_of t p (servers_of w') l') d'
  pub words : (p : Period) → Becomes w (channel_in (state_of t p (servers_of w) l) (verb_outcome (state_of t p (servers_of w) l) v a b) (length d)).servers w'
  -- where it is refused, each lent number and each link is as it was
  pub same : (k : Refusal) → r ≡ Err k → (w' ≡ w) × (l' ≡ l)
