-- What is still to be printed. Assumes nothing.
use mathlib.Core.Bool.{Bool, true, false, ◌||◌}
use mathlib.Core.Path.{◌≡◌, refl, sym, ap, ◌∙◌}
use mathlib.Core.List.{List, [], ◌∷◌, ◌++◌, append-nil}
use Prim.Native.Nat.{ℕ, suc, ◌+◌, ◌≤◌}
use native.Mathlib.Omega.{arith}
use borrow.Author.Tests.{eq-eqb, ne_eqb, lt-leb, le-leb}
use lib.Dec.{leb}
use lib.ListN.{length, drop}
use Rattle.lists.proofs.Cases.{equal, less, tested, on, or_false}
use Rattle.text.specs.Line.{line_limit}
use Rattle.day.specs.Read.{wrong, lines_in, line_read}
use Rattle.day.specs.Day.{Day, stop, go, effect_of, last_line}
use Rattle.day.specs.Sheet.{input_refusal, sheet_from}
use Rattle.feeding.specs.Fed.{Fed, enough, whole_line, closed, with_byte, taken, taken_bytes, before, lines_left, remaining}
use Rattle.feeding.proofs.Taking.{or_so, or_not, whole-last, taken_more, count-more, taken_none, count_none}
use Rattle.day.proofs.Lines.{lines-feed, lines_byte}
use Rattle.feeding.proofs.Lines.{before-line, before-none, before_more, too_long}

module _ (f : Fed) (s : List ℕ) where
  pub left_over : f.over ≡ true → remaining f s ≡ []
  unfolding remaining
  left_over e = rw (e, remaining)

  pub left-on : f.over ≡ false → remaining f s ≡ sheet_from f.number f.day (lines_left f.line s)
  unfolding remaining
  left-on e = rw (e, remaining)

module _ (l s : List ℕ) where
  pub left-whole : whole_line l ≡ true → lines_left l s ≡ l ∷ lines_in s
  unfolding lines_left
  left-whole e = rw (e, lines_left)

  pub left-part : whole_line l ≡ false → lines_left l s ≡ before l (lines_in s)
  unfolding lines_left
  left-part e = rw (e, lines_left)

-- a line that stops the sheet, and one that goes on
module _ (k : ℕ) (d : Day) (l : List ℕ) (ls : List (List ℕ)) where
  pub sheet-stop : {n : ℕ} → effect_of k d (line_read l) ≡ stop n → sheet_from k d (l ∷ ls) ≡ input_refusal k n
  unfolding sheet_from
  sheet-stop e = rw (e, sheet_from)

  pub sheet-go : {w : List ℕ} {e : Day} → effect_of k d (line_read l) ≡ go w e → sheet_from k d (l ∷ ls) ≡ w ++ sheet_from (suc k) e ls
  unfolding sheet_from
  sheet-go e = rw (e, sheet_from)

wrong-stops : (k : ℕ) (d : Day) (n : ℕ) → effect_of k d (wrong n) ≡ stop n
unfolding effect_of
wrong-stops k d n = on (tested (leb k last_line)) (λ t. rw (t, effect_of)) (λ t. rw (t, effect_of))

-- a line that is none stops the sheet with 1
pub sheet-wrong : (k : ℕ) (d : Day) (l : List ℕ) (ls : List (List ℕ)) → line_read l ≡ wrong 1 → sheet_from k d (l ∷ ls) ≡ input_refusal k 1
sheet-wrong k d l ls e = sheet-stop k d l ls (ap (effect_of k d) e ∙ wrong-stops k d 1)

-- the lines left after one byte more
module _ (k : ℕ) (d : Day) (l : List ℕ) (x : ℕ) (part : whole_line l ≡ false) where
  -- of a line that is too long only that is looked at
  long-left : (ls : List (List ℕ)) → line_limit ≤ length l → (x ≡ 10 → ⊥) → sheet_from k d (before (l ++ (x ∷ [])) ls) ≡ input_refusal k 1
  long-left [] h n =
      ap (sheet_from k d) (nothing-before l) ∙ sheet-wrong k d (l ++ (x ∷ [])) [] (ap line_read (sym (append-nil (l ++ (x ∷ [])))) ∙ too_long l x [] h n)
    where
      nothing-before : (m : List ℕ) → before (m ++ (x ∷ [])) [] ≡ (m ++ (x ∷ [])) ∷ []
      nothing-before [] = before-none x []
      nothing-before (y ∷ m) = before-none y (m ++ (x ∷ []))
  long-left (m ∷ ms) h n = ap (sheet_from k d) (before-line (l ++ (x ∷ [])) m ms) ∙ sheet-wrong k d ((l ++ (x ∷ [])) ++ m) ms (too_long l x m h n)

  one_more_lem : (s : List ℕ) → sheet_from k d (lines_left (l ++ (x ∷ [])) s) ≡ sheet_from k d (lines_left l (x ∷ s))
  one_more_lem s =
      on (equal x 10)
      (λ e.
      ap (sheet_from k d)
      (left-whole (l ++ (x ∷ [])) s (whole-last l x ∙ feed-whole (leb enough (length l + 1)) (eq-eqb x 10 e))
      ∙ sym (left-part l (x ∷ s) part ∙ ap (λ (y : ℕ). before l (lines_in (y ∷ s))) e ∙ ap (before l) (lines-feed s) ∙ before-line l (10 ∷ []) (lines_in s) ∙ ap (λ (y : ℕ). (l ++ (y ∷ [])) ∷ lines_in s) (sym e))))
      (λ n.
      let right : lines_left l (x ∷ s) ≡ before (l ++ (x ∷ [])) (lines_in s) = left-part l (x ∷ s) part ∙ ap (before l) (lines_byte x s n) ∙ sym (before_more l x (lines_in s)) in
      on (less (length l + 1) enough)
      (λ h. ap (sheet_from k d) (left-part (l ++ (x ∷ [])) s (whole-last l x ∙ or_not _ (lt-leb enough (length l + 1) h) ∙ ne_eqb x 10 n) ∙ sym right))
      (λ h.
      ap (sheet_from k d) (left-whole (l ++ (x ∷ [])) s (whole-last l x ∙ or_so _ (le-leb enough (length l + 1) h)))
      ∙ sheet-wrong k d (l ++ (x ∷ [])) (lines_in s) (ap line_read (sym (append-nil (l ++ (x ∷ [])))) ∙ too_long l x [] (omega arith) n)
      ∙ sym (ap (sheet_from k d) right ∙ long-left (lines_in s) (omega arith) n)))
    where
      feed-whole : (a : Bool) {b : Bool} → b ≡ true → (a || b) ≡ true
      feed-whole true h = refl
      feed-whole false h = h

-- a byte that is taken
pub byte_left : (f : Fed) (x : ℕ) (s : List ℕ) → closed f ≡ false → remaining (with_byte f x) s ≡ remaining f (x ∷ s)
byte_left f x s e =
    let p = or_false f.over (whole_line f.line) e in
    left-on (with_byte f x) s p.0 ∙ one_more_lem f.number f.day f.line x p.1 s ∙ sym (left-on f (x ∷ s) p.0)

-- a piece, of which some bytes are taken
pub piece-left : (f : Fed) (s t : List ℕ) → remaining (taken f s) (drop (taken_bytes f s) s ++ t) ≡ remaining f (s ++ t)
unfolding taken taken_bytes
piece-left f [] t = refl
piece-left f (x ∷ s) t =
    on (tested (closed f))
    (λ e. rw (taken_none f (x ∷ s) e, count_none f (x ∷ s) e) refl)
    (λ e. rw (taken_more f x s e, count-more f x s e) (piece-left (with_byte f x) s t ∙ byte_left f x (s ++ t) e))
