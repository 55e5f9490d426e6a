-- The laws of departing. Assumes nothing.
use mathlib.Core.Bool.{Bool, true, false}
use mathlib.Core.Path.{◌≡◌, refl, sym, ap, ap₂, subst, ◌∙◌}
use mathlib.Core.List.{List, [], ◌∷◌, ◌++◌, append-nil}
use Prim.Native.Nat.{ℕ, suc, ◌+◌}
use native.Mathlib.Omega.{arith}
use lib.ListN.{length}
use Rattle.lists.specs.Lists.{same}
use Rattle.lists.proofs.Cases.{tested, on, clash, refuted}
use Rattle.lists.proofs.SameLoop.{same_refl, same-equal}
use Rattle.day.specs.Read.{lines_in}
use Rattle.departure.specs.declared.Departure.{Departure}
use Rattle.departure.specs.declared.Departure.TheVariants.{Same, At}
use Rattle.departure.specs.Departure.{departs_from, departure}
use Rattle.departure.specs.Compare.{line_ends, compared}
use Rattle.departure.specs.Laws.{EqualIsSame, SameIsEqual, Apart, missing, surplus, differ, FirstApart, DepartsAtTheFirst, TheFirstDeparts, Laws}
use Rattle.departure.proofs.Lines.{at-end, at-surplus, at-missing, at_other}
use Rattle.departure.proofs.Comparing.{Way, apart, ends, stops, way}

pub not_at : {n : ℕ} → At n ≡ Same → ⊥
not_at {n} e = clash (sym (ap is_at e)) refl
  where
    is_at : Departure → Bool
    is_at Same = false
    is_at (At n) = true

abbrev number_of : Departure → ℕ
number_of Same = 0
number_of (At n) = n

equal_is_same : EqualIsSame
equal_is_same s = ap (λ (t : List ℕ). departure t t) (sym (append-nil s)) ∙ at-end s

by_way : (due found : List ℕ) → Way due found (compared due found) → departure due found ≡ Same → due ≡ found
by_way due found (apart t x y a b h ea eb d n l) e = absurd (not_at (sym (ap₂ departure ea eb ∙ at_other t x y a b h) ∙ e))
by_way due found (ends [] eb d n l) e = sym (eb ∙ append-nil due)
by_way due found (ends (y ∷ b) eb d n l) e = absurd (not_at (sym (ap₂ departure (sym (append-nil due)) eb ∙ at-surplus due y b) ∙ e))
by_way due found (stops x a ea d n l) e = absurd (not_at (sym (ap₂ departure ea (sym (append-nil found)) ∙ at-missing found x a) ∙ e))

same_is_equal : SameIsEqual
same_is_equal due found = by_way due found (way due found)

-- ---- the first line

-- lists of lines that are apart first at line n, the first of them being line k
record FirstOf (k : ℕ) (ds gs : List (List ℕ)) (n : ℕ) : Type 0 where
  before : List (List ℕ)
  ds_after : List (List ℕ)
  gs_after : List (List ℕ)
  due : ds ≡ before ++ ds_after
  found : gs ≡ before ++ gs_after
  number : n ≡ k + length before
  apart : Apart ds_after gs_after

here : {k n : ℕ} (ds gs : List (List ℕ)) → Apart ds gs → At k ≡ At n → FirstOf k ds gs n
here {k} {n} ds gs a e =
    record { before = []; ds_after = ds; gs_after = gs; due = refl; found = refl; number = let z : k ≡ n = ap number_of e in omega arith; apart = a }

further : {k n : ℕ} (l : List ℕ) (ds gs : List (List ℕ)) → FirstOf (suc k) ds gs n → FirstOf k (l ∷ ds) (l ∷ gs) n
further {k} {n} l ds gs f =
    record {
      before = l ∷ f.before;
      ds_after = f.ds_after;
      gs_after = f.gs_after;
      due = ap (λ (ls : List (List ℕ)). l ∷ ls) f.due;
      found = ap (λ (ls : List (List ℕ)). l ∷ ls) f.found;
      number = let z = f.number in omega arith;
      apart = f.apart;
    }

line_same : (k : ℕ) (d g : List ℕ) (ds gs : List (List ℕ)) → same d g ≡ true → departs_from k (d ∷ ds) (g ∷ gs) ≡ departs_from (suc k) ds gs
unfolding departs_from
line_same k d g ds gs e = rw (e, departs_from) refl

line_other : (k : ℕ) (d g : List ℕ) (ds gs : List (List ℕ)) → same d g ≡ false → departs_from k (d ∷ ds) (g ∷ gs) ≡ At k
unfolding departs_from
line_other k d g ds gs e = rw (e, departs_from) refl

first_of : (k n : ℕ) (ds gs : List (List ℕ)) → departs_from k ds gs ≡ At n → FirstOf k ds gs n
unfolding departs_from
first_of k n [] [] e = absurd (not_at (sym e))
first_of k n [] (g ∷ gs) e = here [] (g ∷ gs) surplus e
first_of k n (d ∷ ds) [] e = here (d ∷ ds) [] missing e
first_of k n (d ∷ ds) (g ∷ gs) e =
    on (tested (same d g))
    (λ t.
    subst (λ (l : List ℕ). FirstOf k (d ∷ ds) (l ∷ gs) n) (same-equal d g t)
    (further d ds gs (first_of (suc k) n ds gs (sym (line_same k d g ds gs t) ∙ e))))
    (λ t.
    here (d ∷ ds) (g ∷ gs)
    (differ (λ z. clash (ap (same d) (sym z) ∙ same_refl d) t))
    (sym (line_other k d g ds gs t) ∙ e))

departs_at_the_first : DepartsAtTheFirst
unfolding departure
departs_at_the_first due found n e =
    let f = first_of 1 n (lines_in due) (lines_in found) e in
    record {
      before = f.before;
      due-after = f.ds_after;
      found_after = f.gs_after;
      due-lines = f.due;
      found-lines = f.found;
      number = let z = f.number in omega arith;
      apart = f.apart;
    }

at-apart : (k : ℕ) (ds gs : List (List ℕ)) → Apart ds gs → departs_from k ds gs ≡ At k
unfolding departs_from
at-apart k (d ∷ ds) [] missing = refl
at-apart k [] (g ∷ gs) surplus = refl
at-apart k [] [] x'' = elim x'' [ ]
at-apart k (d ∷ ds) (g ∷ gs) (differ h) = line_other k d g ds gs (refuted (same d g) (λ e. h (same-equal d g e)))

at_before : (k : ℕ) (ls ds gs : List (List ℕ)) → Apart ds gs → departs_from k (ls ++ ds) (ls ++ gs) ≡ At (k + length ls)
at_before k [] ds gs a = at-apart k ds gs a ∙ ap At (let z : k ≡ k + 0 = omega arith in z)
at_before k (l ∷ ls) ds gs a =
    line_same k l l (ls ++ ds) (ls ++ gs) (same_refl l)
    ∙ at_before (suc k) ls ds gs a
    ∙ ap At (let z : suc k + length ls ≡ k + suc (length ls) = omega arith in z)

the_first_departs : TheFirstDeparts
unfolding departure
the_first_departs due found n f =
    ap₂ (departs_from 1) f.due-lines f.found-lines
    ∙ at_before 1 f.before f.due-after f.found_after f.apart
    ∙ ap At (let z = f.number in let w : 1 + length f.before ≡ n = omega arith in w)

pub laws : Laws
laws = record { equal = equal_is_same; same = same_is_equal; first = departs_at_the_first; apart = the_first_departs }
