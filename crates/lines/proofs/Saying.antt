-- Lines that fit are said, others not. Assumes nothing.
use Rattle.std.specs.Prelude.{Ok}
use mathlib.Core.Bool.{true, false}
use mathlib.Core.Path.{◌≡◌, refl, sym, ap, ◌∙◌}
use mathlib.Core.List.{List, []}
use Prim.Native.Nat.{ℕ, ◌+◌, ◌≤◌, ◌<◌}
use borrow.Author.Tests.{le-leb, lt-leb}
use lib.ListN.{length}
use Rattle.lists.specs.Choice.{choose}
use Rattle.lists.specs.Splice.{fits}
use Rattle.lists.proofs.Cases.{chosen, other, same_choice}
use Rattle.lists.proofs.Splicing.{splice-none}
use Rattle.text.specs.Write.{room_for, Writes}
use Rattle.text.proofs.Writing.{written-end, written-slice}
use Rattle.lines.specs.Lines.{place_after, Says}

-- written
pub says : {d : List ℕ} {at : ℕ} {w : List ℕ} {r : ℕ} {d' : List ℕ} → at + length w ≤ length d → Writes d at w (Ok r) d' → Says true d at w r d'
unfolding place_after
says h p =
    record {
      place = written-end h p ∙ sym (chosen _ (le-leb _ _ h));
      slice = written-slice h p ∙ sym (chosen _ (le-leb _ _ h));
    }

-- too long
pub says-not : {d : List ℕ} {at : ℕ} {w : List ℕ} → length d < at + length w → Says true d at w (length d + 1) d
unfolding place_after
says-not h = record { place = sym (other _ (lt-leb _ _ h)); slice = sym (other _ (lt-leb _ _ h)) }

-- n bytes counted, and none written
module _ (d : List ℕ) (at : ℕ) {n r : ℕ} (p : r ≡ choose (room_for (length d) at n) (at + n) (length d + 1)) where
  counts : (w : List ℕ) → n ≡ length w → r ≡ place_after d at w
  unfolding place_after
  counts w e = p ∙ ap (λ (k : ℕ). choose (room_for (length d) at k) (at + k) (length d + 1)) e

  pub says-dry : {w : List ℕ} → n ≡ length w → Says false d at w r d
  says-dry {w} e = record { place = counts w e; slice = sym (other _ refl) }

  pub says_nothing : n ≡ 0 → Says true d at [] r d
  says_nothing e =
      record {
        place = counts [] e;
        slice = sym (ap (λ (l : List ℕ). choose (fits d at []) l d) (splice-none d at) ∙ same_choice (fits d at []) d);
      }
