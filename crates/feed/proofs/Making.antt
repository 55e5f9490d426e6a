-- What is written, and what a feed then is. Assumes nothing.
use Rattle.std.specs.Prelude.{Result, Ok, Err}
use mathlib.Core.Bool.{Bool, true, false}
use mathlib.Core.Path.{◌≡◌, refl, sym, subst, ◌∙◌}
use mathlib.Core.List.{List, []}
use Prim.Native.Nat.{ℕ, ◌≤◌, ◌<◌, ◌^◌}
use native.Mathlib.Omega.{arith}
use lib.ListN.{length}
use Rattle.lists.specs.Splice.{fits}
use Rattle.lists.proofs.Cases.{chosen, other}
use Rattle.lists.proofs.Splicing.{splice-none}
use Rattle.refusal.specs.declared.Refusal.{Refusal}
use Rattle.refusal.proofs.Answers.{took, declined}
use Rattle.text.specs.Digits.{digits}
use Rattle.text.specs.Write.{writing, Writes}
use Rattle.text.proofs.Digits.{digits-few}
use Rattle.text.proofs.Writing.{writes-to}
use Rattle.feeding.specs.Fed.{Fed}
use Rattle.feeding.specs.Moves.{Move}
use Rattle.feed.specs.declared.Feed.{Feed}
use Rattle.feed.specs.declared.Step.{Step}
use Rattle.feed.specs.Answers.{fed_of, Makes}
use Rattle.feed.specs.Steps.{Passes, MakesAll, if_written, Puts}
use Rattle.feed.proofs.Leaving.{not-refused, passes_same}

-- a number of 32 bits has few digits
pub few : {r : ℕ} (n : ℕ) → r ≡ length (digits n) → n < 2 ^ 32 → r ≤ 20
few n e h = omega (arith, digits-few 19 n (omega arith))

-- ---- written or not

module _ {d : List ℕ} {w : List ℕ} {d' : List ℕ} where
  pub it_fits : {n : ℕ} → Writes d 0 w (Ok n) d' → fits d 0 w ≡ true
  unfolding writing
  it_fits p = (took _ _ _ (sym p.answer)).0

  pub it_does_not : {k : Refusal} → Writes d 0 w (Err k) d' → fits d 0 w ≡ false
  unfolding writing
  it_does_not p = (declined _ _ _ (sym p.answer)).0

  module _ {f a f' : Fed} where
    pub makes-written : {n : ℕ} → Writes d 0 w (Ok n) d' → f' ≡ a → Makes f (record { lines = w; fed = a }) d (Ok n) f' d'
    makes-written q e = record { out = q; fed = e ∙ sym (chosen f (it_fits q)) }

    pub makes-refused : {k : Refusal} → Writes d 0 w (Err k) d' → f' ≡ f → Makes f (record { lines = w; fed = a }) d (Err k) f' d'
    makes-refused q e = record { out = q; fed = e ∙ sym (other a (it_does_not q)) }

  -- a write, and the feed after it
  module _ (l m : List ℕ) (k : List Bool) where
    by_written : (before after : Feed) (p : Result ℕ Refusal) → Writes d 0 w p d' → Passes before m k after m k → MakesAll before l m k (record { lines = w; fed = fed_of after l m k }) d p (if_written p after before) m k d'
    by_written before after (Ok n) q v = record { makes = makes-written q refl; passes = v; same = λ i e. not-refused e }
    by_written before after (Err j) q v = record { makes = makes-refused q refl; passes = passes_same; same = λ i e. (refl, refl, refl) }

    pub does-put : {before after : Feed} {p : Result ℕ Refusal} {r : Step} → Writes d 0 w p d' → Puts before after p r → Passes before m k after m k → MakesAll before l m k (record { lines = w; fed = fed_of after l m k }) d r.written r.feed m k d'
    does-put {before} {after} {p} {r} q u v = rw (u.written, u.feed) (by_written before after p q v)

-- nothing is written
makes_none : {f a f' : Fed} {d : List ℕ} → f' ≡ a → Makes f (record { lines = []; fed = a }) d (Ok 0) f' d
makes_none {f} {a} {f'} {d} e = makes-written (writes-to (omega arith) (omega arith) (sym (splice-none d 0))) e

pub does-none :
    {x : Feed} {l w : List ℕ} {k : List Bool} {a : Fed} {d : List ℕ} {y : Feed} {w' : List ℕ} {k' : List Bool} →
    fed_of y l w' k' ≡ a → Passes x w k y w' k' → MakesAll x l w k (record { lines = []; fed = a }) d (Ok 0) y w' k' d
does-none e v = record { makes = makes_none e; passes = v; same = λ i z. not-refused z }

-- the same move, worked out in another way
pub makes_as : {f : Fed} {m n : Move} {d : List ℕ} {p : Result ℕ Refusal} {f' : Fed} {d' : List ℕ} → m ≡ n → Makes f m d p f' d' → Makes f n d p f' d'
makes_as {f} {m} {n} {d} {p} {f'} {d'} e q = subst (λ (x : Move). Makes f x d p f' d') e q

pub does_as :
    {x : Feed} {l w : List ℕ} {k : List Bool} {m n : Move} {d : List ℕ} {p : Result ℕ Refusal} {y : Feed} {w' : List ℕ} {k' : List Bool} {d' : List ℕ} →
    m ≡ n → MakesAll x l w k m d p y w' k' d' → MakesAll x l w k n d p y w' k' d'
does_as e q = record { makes = makes_as e q.makes; passes = q.passes; same = q.same }
