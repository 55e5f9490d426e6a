-- What is found of a sheet. Assumes nothing.
use Rattle.std.proofs.Common.{◌≡◌, ℕ, ◌+◌, ◌≤◌, Bool, true, false, not, ◌||◌, eqb, List, length, take, drop, sym, refl, ap, ◌∙◌, ap₂, arith, length-take, take_at, eq-eqb, ne_eqb, leb-true, Result, Ok, Err}
use Rattle.lists.specs.Lists.{same}
use Rattle.lists.specs.Splice.{fits}
use Rattle.lists.proofs.Cases.{chosen, other}
use Rattle.refusal.specs.declared.Refusal.{Refusal}
use Rattle.refusal.proofs.Answers.{took, declined}
use Rattle.text.specs.Write.{of_written, writing}
use Rattle.text.specs.Steps.{Pieces}
use Rattle.day.specs.Sheet.{sheet}
use Rattle.vectors.specs.Check.{check_of}
use Rattle.vectors.specs.Found.{Found}
use Rattle.vectors.specs.declared.Differs.TheVariants.{Length, Bytes, Check, TooLong}
use Rattle.vectors.specs.declared.Line.{Line}
use Rattle.vectors.specs.Days.{compared, sheet_compared, part, day_of, day_at, shown_at, found_at}

pub not_so : (t : Bool) → not t ≡ true → t ≡ false
not_so true e = sym e
not_so false e = refl

pub so : (t : Bool) → not t ≡ false → t ≡ true
so true e = refl
so false e = sym e

module _ (s : List ℕ) (n : ℕ) (shown : List ℕ) (k : ℕ) where
  pub length_differs : (length s ≡ n → ⊥) → Err Length ≡ compared s n shown k
  unfolding compared
  length_differs h = sym (other _ (ne_eqb _ _ h))

  module _ (l : length s ≡ n) {t : Bool} (e : t ≡ same s shown) where
    pub bytes-differ : not (eqb (length shown) 0 || t) ≡ true → Err Bytes ≡ compared s n shown k
    unfolding compared
    bytes-differ h = sym (chosen _ (eq-eqb _ _ l) ∙ other _ (not_so _ (rw e at h)))

    module _ (h : not (eqb (length shown) 0 || t) ≡ false) {m : ℕ} (f : m ≡ check_of s) where
      pub all_same : m ≡ k → Ok tt ≡ compared s n shown k
      unfolding compared
      all_same g = sym (chosen _ (eq-eqb _ _ l) ∙ chosen _ (so _ (rw e at h)) ∙ chosen _ (eq-eqb _ _ (sym f ∙ g)))

      pub check_differs : (m ≡ k → ⊥) → Err Check ≡ compared s n shown k
      unfolding compared
      check_differs g = sym (chosen _ (eq-eqb _ _ l) ∙ chosen _ (so _ (rw e at h)) ∙ other _ (ne_eqb _ _ (λ x. g (f ∙ x))))

-- a slice that w was written into
module _ {d w : List ℕ} {r : Result ℕ Refusal} {d' : List ℕ} (v : Pieces d 0 w r d') where
  module _ (n : ℕ) (e : r ≡ Ok n) where
    fitted : (fits d 0 w ≡ true) × (0 + length w ≡ n)
    unfolding writing
    fitted = took (fits d 0 w) (0 + length w) 9 (sym v.answer ∙ ap of_written e)

    front : take n d' ≡ w
    front = ap (take n) (v.slice (leb-true _ _ fitted.0)) ∙ take_at w (drop (0 + length w) d) n (omega (arith, fitted.1))

    pub within : n ≤ length d'
    within = omega (arith, ap length front, length-take n d', fitted.1)

  unfitted : (k : Refusal) → r ≡ Err k → fits d 0 w ≡ false
  unfolding writing
  unfitted k e = (declined (fits d 0 w) (0 + length w) 9 (sym v.answer ∙ ap of_written e)).0

module _ {d : List ℕ} (day : List ℕ) {r : Result ℕ Refusal} {d' : List ℕ} (v : Pieces d 0 (sheet day) r d') (n : ℕ) (shown : List ℕ) (k : ℕ) where
  pub sheet-there : (m : ℕ) → r ≡ Ok m → {q : Found} → q ≡ compared (take m d') n shown k → q ≡ sheet_compared d day n shown k
  unfolding sheet_compared
  sheet-there m e f = f ∙ ap (λ (s : List ℕ). compared s n shown k) (front v m e) ∙ sym (chosen _ (fitted v m e).0)

  pub no_room : (j : Refusal) → r ≡ Err j → Err Length ≡ sheet_compared d day n shown k
  unfolding sheet_compared
  no_room j e = sym (other _ (unfitted v j e))

-- a day of the file
pub built :
    (s : List ℕ) (l : Line) {d h b t : List ℕ} {r : Result ℕ Refusal} {d' : List ℕ} → h ≡ part s l.at l.head → b ≡ part s (l.at + l.head) l.body →
    t ≡ part s (l.at + l.head + l.body) l.tail → Pieces d 0 (day_of h l.times b t) r d' → Pieces d 0 (day_at s l) r d'
built s l p q u v = rw (← p, ← q, ← u) v

module _ (s : List ℕ) (l : Line) {d : List ℕ} {r : Result ℕ Refusal} {d' : List ℕ} (v : Pieces d 0 (day_at s l) r d') (o : List ℕ) where
  pub day-there :
      (m : ℕ) → r ≡ Ok m → {q : Found} {x : List ℕ} → x ≡ shown_at s l → q ≡ sheet_compared o (take m d') l.sheet x l.check →
      q ≡ found_at s l d o
  unfolding found_at
  day-there m e g f =
      f
      ∙ ap₂ (λ (day x : List ℕ). sheet_compared o day l.sheet x l.check) (front v m e) g
      ∙ sym (chosen _ (fitted v m e).0)

  pub no_day : (j : Refusal) → r ≡ Err j → Err TooLong ≡ found_at s l d o
  unfolding found_at
  no_day j e = sym (other _ (unfitted v j e))
