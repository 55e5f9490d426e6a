-- What a frame answers: it fits and is played, or not; or it is only counted. Assumes nothing.
use mathlib.Core.Bool.{true, false, not}
use mathlib.Core.Path.{◌≡◌, refl, sym, ap, ◌∙◌}
use mathlib.Core.Logic.{⊎_elim}
use mathlib.Core.List.{List}
use Prim.Native.Nat.{ℕ, ◌+◌, ◌≤◌, ◌<◌}
use native.Mathlib.Omega.{arith}
use borrow.Author.Tests.{lt-ltb, le-ltb, le-leb, lt-leb, leb-true}
use lib.Dec.{leb}
use lib.ListN.{length}
use Rattle.lists.specs.Choice.{choose}
use Rattle.lists.proofs.Cases.{less, clash, chosen, other, and_true, and_left, and_right}
use Rattle.lines.specs.Lines.{place_after}
use Rattle.group.specs.declared.State.{State}
use Rattle.group.specs.Frame.{advanced, frame_lines}
use Rattle.places.specs.Words.{servers_of, Keeps}
use Rattle.places.proofs.Canonical.{keeps-all, becomes}
use Rattle.frame.specs.Answers.{has_next, frame_fits, Plays, Counts}
use Rattle.frame.specs.Steps.{Out, clamped}
use Rattle.frame.proofs.Writing.{after-fits, after-not}

pub plays-so :
    (c : State) {w d : List ℕ} {at n : ℕ} {w' d' : List ℕ} → c.frame < 4294967295 → at ≤ length d → leb (at + length (frame_lines c)) (length d) ≡ true →
    Keeps w w' → servers_of w' ≡ (advanced c).servers → Out true d at (frame_lines c) n d' → Plays c w d at (record { at = n; full = false }) w' d'
plays-so c {w} {d} {at} {n} {w'} {d'} next place h k e o =
    let fit : frame_fits c d at ≡ true = and_true (lt-ltb c.frame 4294967295 next) h in
    let room : at + length (frame_lines c) ≤ length d = leb-true _ _ h in
    record {
      full = sym (ap not fit);
      words = becomes k (e ∙ sym (chosen _ fit));
      place = o.end (omega arith) ∙ after-fits d at (frame_lines c) room ∙ sym (chosen _ fit);
      slice = o.is refl room ∙ sym (chosen _ fit);
      same = λ z. absurd (clash z refl);
    }

-- where its lines do not fit, or there is no next frame
module _ (c : State) {w d : List ℕ} {at : ℕ} (e : servers_of w ≡ c.servers) where
  plays-none : frame_fits c d at ≡ false → Plays c w d at (record { at = at; full = true }) w d
  plays-none fit =
      record {
        full = sym (ap not fit);
        words = becomes keeps-all (e ∙ sym (other _ fit));
        place = sym (other _ fit);
        slice = sym (other _ fit);
        same = λ z. refl;
      }

  pub plays-over : 4294967295 ≤ c.frame → Plays c w d at (record { at = at; full = true }) w d
  plays-over h = plays-none (and_left _ (le-ltb c.frame 4294967295 h))

  pub plays-not : leb (at + length (frame_lines c)) (length d) ≡ false → Plays c w d at (record { at = at; full = true }) w d
  plays-not h = plays-none (and_right (has_next c) h)

  pub plays-beyond : length d < at → Plays c w d at (record { at = at; full = true }) w d
  plays-beyond h = plays-not (lt-leb (at + length (frame_lines c)) (length d) (omega arith))

-- ---- counted

clamped-small : (room at : ℕ) → clamped room at ≤ room + 1
unfolding clamped
clamped-small room at =
    ⊎_elim
    (λ l. let e : choose (leb at room) at (room + 1) ≡ room + 1 = other at (lt-leb at room l) in omega arith)
    (λ l. let e : choose (leb at room) at (room + 1) ≡ at = chosen (room + 1) (le-leb at room l) in omega arith)
    (less room at)

after-clamped : (d : List ℕ) (at : ℕ) (w : List ℕ) → place_after d (clamped (length d) at) w ≡ place_after d at w
unfolding clamped
after-clamped d at w =
    ⊎_elim
    (λ l. let e : choose (leb at (length d)) at (length d + 1) ≡ length d + 1 = other at (lt-leb at (length d) l) in after-not d _ w (omega arith) ∙ sym (after-not d at w (omega arith)))
    (λ l. ap (λ (n : ℕ). place_after d n w) (chosen (length d + 1) (le-leb at (length d) l)))
    (less (length d) at)

module _ (c : State) {w d : List ℕ} {at : ℕ} where
  pub counts-so :
      {n start : ℕ} {w' d' : List ℕ} → c.frame < 4294967295 → start ≡ clamped (length d) at → Keeps w w' → servers_of w' ≡ (advanced c).servers →
      Out false d start (frame_lines c) n d' → Counts c w d at n w' d'
  counts-so {n} {start} {w'} {d'} next s k e o =
      let has : has_next c ≡ true = lt-ltb c.frame 4294967295 next in
      record {
        words = becomes k (e ∙ sym (chosen _ has));
        place = o.end (omega (arith, s, clamped-small (length d) at)) ∙ ap (λ (k : ℕ). place_after d k (frame_lines c)) s ∙ after-clamped d at (frame_lines c) ∙ sym (chosen _ has);
        slice = o.dry refl;
        same = λ z. absurd (clash has z);
      }

  pub counts-over : servers_of w ≡ c.servers → 4294967295 ≤ c.frame → Counts c w d at at w d
  counts-over e h =
      let none : has_next c ≡ false = le-ltb c.frame 4294967295 h in
      record { words = becomes keeps-all (e ∙ sym (other _ none)); place = sym (other _ none); slice = refl; same = λ z. refl }
