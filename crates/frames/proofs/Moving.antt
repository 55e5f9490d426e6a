-- What becomes of the numbers in frames one after another. Assumes nothing.
use Rattle.std.specs.Prelude.{Result, Ok, Err}
use mathlib.Core.Bool.{true}
use mathlib.Core.Path.{◌≡◌, refl, ap, ◌∙◌}
use mathlib.Core.List.{List}
use Prim.Native.Nat.{ℕ, ◌+◌, ◌≤◌, ◌<◌}
use native.Mathlib.Omega.{arith}
use lib.ListN.{length}
use Rattle.refusal.specs.declared.Refusal.{Refusal}
use Rattle.group.specs.declared.State.{State}
use Rattle.group.specs.Outcome.{Outcome, channel_in}
use Rattle.group.specs.Answers.{Gives}
use Rattle.group.specs.Frame.{moved_to}
use Rattle.places.specs.Words.{servers_of, Keeps, Becomes}
use Rattle.places.proofs.Canonical.{keeps-all, keeps_then, becomes, becomes-keeps}
use Rattle.frame.specs.declared.Fared.{Fared}
use Rattle.frame.specs.Answers.{Plays}
use Rattle.frames.specs.Steps.{Moves}

-- nothing happens up to a frame
pub moves-none : {w : List ℕ} {t u : ℕ} → t ≤ u → Moves w w t u
moves-none h = record { keeps = keeps-all; later = h; same = λ e. refl }

-- a frame that is later
pub moves-on : {w w' : List ℕ} {t u : ℕ} → Keeps w w' → t < u → Moves w w' t u
moves-on k h = record { keeps = k; later = omega arith; same = λ e. absurd (omega arith) }

pub moves-then : {w w' w'' : List ℕ} {t u v : ℕ} → Moves w w' t u → Moves w' w'' u v → Moves w w'' t v
moves-then {w} {w'} {w''} {t} {u} {v} p q =
    let from = p.later in
    let on = q.later in
    record { keeps = keeps_then p.keeps q.keeps; later = omega arith; same = λ e. q.same (omega arith) ∙ p.same (omega arith) }

-- one frame, if it fits
module _ {c : State} {w d : List ℕ} {at : ℕ} {r : Fared} {w' d' : List ℕ} (v : Plays c w d at r w' d') where
  pub moves-one : Moves w w' c.frame (c.frame + 1)
  moves-one = moves-on (becomes-keeps v.words) (omega arith)

  pub moves_not : r.full ≡ true → Moves w w' c.frame c.frame
  moves_not f = record { keeps = becomes-keeps v.words; later = omega arith; same = λ e. v.same f }

-- ---- the answer

pub answered :
    {c : State} {o : Outcome} {d : List ℕ} {v : Result (Unit {0}) Refusal} {n t : ℕ} {w w' d' : List ℕ} → Gives c o d v n (moved_to c t (servers_of w')) d' → Keeps w w' →
    Becomes w (channel_in c o (length d)).servers w'
answered g k = becomes k (ap (λ (x : State). x.servers) g.channel)

pub accepted-not : {A : Type 0} {n : ℕ} (k : Refusal) → ◌≡◌ {A = Result ℕ Refusal} (Ok n) (Err k) → A
accepted-not k e = let z : ◌≡◌ {A = ℕ} 0 1 = cc in absurd (omega arith)
