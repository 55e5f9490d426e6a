-- Laws of answers. Assumes nothing.
use mathlib.Core.Bool.{Bool, true, false}
use mathlib.Core.Path.{◌≡◌, refl, sym, ap, ◌∙◌}
use mathlib.Core.List.{List, [], ◌∷◌, ◌++◌, append_assoc}
use mathlib.Core.Logic.{⊎_elim}
use Prim.Native.Nat.{ℕ, ◌<◌}
use native.Mathlib.Omega.{arith}
use borrow.Author.Tests.{eq-eqb, ne_eqb}
use denote.Enum.Bare.{sameb}
use lib.Dec.{eqb, lit<}
use Rattle.lists.specs.Choice.{choose}
use Rattle.lists.proofs.Cases.{equal, chosen, other}
use Rattle.refusal.specs.contracts.Refusal.{the_type}
use Rattle.refusal.specs.declared.Refusal.{Refusal}
use Rattle.refusal.specs.declared.Refusal.TheVariants.{Form, Number, Timecode, Place, Taken, Servers, Period, Identity, Short, Past, Down, Up, Role, Link, DayOver}
use Rattle.refusal.specs.Answer.{Answer, accepted, refused, in_turn, number_of}

-- no refusal has the number 0
pub number-some : (r : Refusal) → 0 < number_of r
number-some Form = lit< tt
number-some Number = lit< tt
number-some Timecode = lit< tt
number-some Place = lit< tt
number-some Taken = lit< tt
number-some Servers = lit< tt
number-some Period = lit< tt
number-some Identity = lit< tt
number-some Short = lit< tt
number-some Past = lit< tt
number-some Down = lit< tt
number-some Up = lit< tt
number-some Role = lit< tt
number-some Link = lit< tt
number-some DayOver = lit< tt

-- `k == Refusal::Short` is the test of its number
pub is_short : (r : Refusal) → sameb the_type r Short ≡ eqb (number_of r) 9
is_short Form = refl
is_short Number = refl
is_short Timecode = refl
is_short Place = refl
is_short Taken = refl
is_short Servers = refl
is_short Period = refl
is_short Identity = refl
is_short Short = refl
is_short Past = refl
is_short Down = refl
is_short Up = refl
is_short Role = refl
is_short Link = refl
is_short DayOver = refl

-- an answer is not accepted and refused
pub not-both : {A : Type 0} {k v : ℕ} {vs : List ℕ} → refused k ≡ accepted (v ∷ vs) → A
not-both {A} {k} {v} {vs} e =
    let none : ◌≡◌ {A = List ℕ} [] (v ∷ vs) = ap (λ (a : Answer). a.values) e in
    let z : ◌≡◌ {A = ℕ} 0 1 = cc in
    absurd (omega arith)

-- the value that an answer gives
pub one_value : {v w : ℕ} → accepted (v ∷ []) ≡ accepted (w ∷ []) → v ≡ w
one_value {v} {w} e = let e' : ◌≡◌ {A = List ℕ} (v ∷ []) (w ∷ []) = ap (λ (a : Answer). a.values) e in cc

-- an answer that turns on one test: what it says of the test
pub took : (t : Bool) (v k : ℕ) {m : ℕ} → choose t (accepted (v ∷ [])) (refused k) ≡ accepted (m ∷ []) → (t ≡ true) × (v ≡ m)
unfolding choose
took true v k e = (refl, one_value e)
took false v k e = not-both e

pub declined : (t : Bool) (v k : ℕ) {j : ℕ} → choose t (accepted (v ∷ [])) (refused k) ≡ refused j → (t ≡ false) × (k ≡ j)
unfolding choose
declined true v k e = not-both (sym e)
declined false v k e = (refl, ap (λ (a : Answer). a.number) e)

-- a refusal ends the tests
pub turn-refused : (k : ℕ) (a b : Answer) → 0 < k → a ≡ refused k → in_turn a b ≡ refused k
unfolding in_turn
turn-refused k a b h e = rw e (other _ (ne_eqb k 0 (λ z. omega arith)))

-- after values, what the next test answers
pub turn-accepted : (vs : List ℕ) (b : Answer) → b.number ≡ 0 → in_turn (accepted vs) b ≡ accepted (vs ++ b.values)
unfolding in_turn
turn-accepted vs b e = chosen _ refl ∙ chosen _ (eq-eqb b.number 0 e)

pub turn-then : (vs : List ℕ) (b : Answer) → (b.number ≡ 0 → ⊥) → in_turn (accepted vs) b ≡ refused b.number
unfolding in_turn
turn-then vs b h = chosen _ refl ∙ other _ (ne_eqb b.number 0 h)

-- values taken so far join those that come first in the rest
pub turn_more : (vs ws : List ℕ) (b : Answer) → in_turn (accepted vs) (in_turn (accepted ws) b) ≡ in_turn (accepted (vs ++ ws)) b
turn_more vs ws b =
    ⊎_elim
    (λ e.
    ap (in_turn (accepted vs)) (turn-accepted ws b e)
    ∙ turn-accepted vs (accepted (ws ++ b.values)) refl
    ∙ ap accepted (sym (append_assoc vs ws b.values))
    ∙ sym (turn-accepted (vs ++ ws) b e))
    (λ e.
    ap (in_turn (accepted vs)) (turn-then ws b e)
    ∙ turn-then vs (refused b.number) e
    ∙ sym (turn-then (vs ++ ws) b e))
    (equal b.number 0)
