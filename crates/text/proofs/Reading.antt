-- Laws of `read_number`, a branch of the code each. Assumes nothing.
use mathlib.Core.Bool.{Bool, true, false, ◌&&◌}
use mathlib.Core.Path.{◌≡◌, refl, sym, ap, ◌∙◌}
use mathlib.Core.List.{List, [], ◌∷◌}
use mathlib.Core.Logic.{⊎_elim}
use Prim.Native.Nat.{ℕ, suc, ◌+◌, ◌-◌, ◌*◌, ◌≤◌, ◌<◌}
use native.Mathlib.Numerals.{add-one}
use native.Mathlib.Omega.{arith}
use borrow.Author.Tests.{le-leb, lt-leb, leb-true, leb-false}
use lib.Dec.{leb, eqb}
use lib.ListN.{length, get_or, drop, drop_of_length-le}
use lib.Seq.{drop-cons}
use Rattle.lists.specs.Choice.{choose}
use Rattle.lists.specs.Lists.{every}
use Rattle.lists.proofs.Cases.{tested, chosen, other, and_true, and_left, and_right, fst_true, snd_true, clash}
use Rattle.refusal.specs.Answer.{Answer, accepted, refused}
use Rattle.refusal.proofs.Answers.{took, declined}
use Rattle.text.specs.Number.{is_digit, value_from, value, well_written, read_number}
use Rattle.text.specs.Steps.{bad_start, read_from, read_digit, at_least}

-- ---- the first byte

pub start-empty : (s : List ℕ) → length s ≡ 0 → true ≡ bad_start s
unfolding bad_start
start-empty [] e = refl
start-empty (x ∷ s) e = absurd (omega arith)

pub start-one : (s : List ℕ) → length s ≡ 1 → false ≡ bad_start s
unfolding bad_start
start-one [] e = absurd (omega arith)
start-one (x ∷ []) e = refl
start-one (x ∷ y ∷ s) e = absurd (omega arith)

pub start-more : (s : List ℕ) → (length s ≡ 0 → ⊥) → (length s ≡ 1 → ⊥) → eqb (get_or s 0 0) 48 ≡ bad_start s
unfolding bad_start
start-more [] z o = absurd (z refl)
start-more (x ∷ []) z o = absurd (o refl)
start-more (x ∷ y ∷ s) z o = refl

-- a bad start is not well written; after another, digits are
bad-written : (s : List ℕ) → bad_start s ≡ true → well_written s ≡ false
unfolding bad_start well_written
bad-written [] e = refl
bad-written (x ∷ []) e = absurd (clash e refl)
bad-written (x ∷ y ∷ s) e = rw e

good-written : (s : List ℕ) → bad_start s ≡ false → well_written s ≡ every is_digit s
unfolding bad_start well_written
good-written [] e = absurd (clash refl e)
good-written (x ∷ []) e = one (is_digit x)
  where
    one : (t : Bool) → t ≡ (t && true)
    one true = refl
    one false = refl
good-written (x ∷ y ∷ s) e = rw e

-- ---- one digit more

module _ (hi n x : ℕ) where
  digit_not : (is_digit x && leb (n * 10 + (x - 48)) hi) ≡ false → refused 2 ≡ read_digit hi n x
  unfolding read_digit
  digit_not e = sym (other _ e)

  pub digit_low : x < 48 → refused 2 ≡ read_digit hi n x
  digit_low h = digit_not (and_left _ (and_left _ (lt-leb 48 x h)))

  pub digit-high : 57 < x → refused 2 ≡ read_digit hi n x
  digit-high h = digit_not (and_left _ (and_right (leb 48 x) (lt-leb x 57 h)))

  pub digit_large : hi < n * 10 + (x - 48) → refused 2 ≡ read_digit hi n x
  digit_large h = digit_not (and_right (is_digit x) (lt-leb _ _ h))

  pub digit-is : 48 ≤ x → x ≤ 57 → n * 10 + (x - 48) ≤ hi → accepted ((n * 10 + (x - 48)) ∷ []) ≡ read_digit hi n x
  unfolding read_digit
  digit-is lo up h = sym (chosen _ (and_true (and_true (le-leb 48 x lo) (le-leb x 57 up)) (le-leb _ _ h)))

-- ---- the digits, one a turn

value_grows : (n : ℕ) (s : List ℕ) → n ≤ value_from n s
value_grows n [] = omega arith
value_grows n (x ∷ s) = omega (arith, value_grows (n * 10 + (x - 48)) s)

from-not : (hi n x : ℕ) (s : List ℕ) → (is_digit x && leb (n * 10 + (x - 48)) hi) ≡ false → read_from hi n (x ∷ s) ≡ refused 2
unfolding read_from
from-not hi n x s e =
    ⊎_elim
    (λ d.
    let over : hi < n * 10 + (x - 48) = leb-false (n * 10 + (x - 48)) hi (rw d at e) in
    other _ (and_right (every is_digit (x ∷ s)) (lt-leb (value_from n (x ∷ s)) hi (omega (arith, over, value_grows (n * 10 + (x - 48)) s)))))
    (λ d. other _ (and_left _ (and_left _ d)))
    (tested (is_digit x))

from_next : (hi n x : ℕ) (s : List ℕ) → is_digit x ≡ true → read_from hi n (x ∷ s) ≡ read_from hi (n * 10 + (x - 48)) s
unfolding read_from
from_next hi n x s e = rw (e, read_from)

-- n is what the first i bytes write: what is read of the whole is what is read of the rest
pub record Begun (hi : ℕ) (s : List ℕ) (n i : ℕ) : Type 0 where
  pub within : i ≤ length s
  pub small : n ≤ hi
  pub so_far : read_from hi 0 s ≡ read_from hi n (drop i s)

pub begin : {hi : ℕ} {s : List ℕ} → Begun hi s 0 0
begin = record { within = omega arith; small = omega arith; so_far = refl }

module _ {hi : ℕ} {s : List ℕ} {n i : ℕ} (v : Begun hi s n i) where
  opened : i < length s → read_from hi 0 s ≡ read_from hi n (get_or s i 0 ∷ drop (suc i) s)
  opened h = v.so_far ∙ ap (read_from hi n) (drop-cons s i 0 h)

  pub turn : (m : ℕ) → i < length s → accepted (m ∷ []) ≡ read_digit hi n (get_or s i 0) → Begun hi s m (i + 1)
  unfolding read_digit
  turn m h e =
      let x = get_or s i 0 in
      let t = took (is_digit x && leb (n * 10 + (x - 48)) hi) (n * 10 + (x - 48)) 2 (sym e) in
      record {
        within = omega arith;
        small = omega (arith, t.1, leb-true (n * 10 + (x - 48)) hi (snd_true (is_digit x) _ t.0));
        so_far =
            rw add-one
            (opened h
            ∙ from_next hi n x (drop (suc i) s) (fst_true _ _ t.0)
            ∙ ap (λ (k : ℕ). read_from hi k (drop (suc i) s)) t.1);
      }

  pub stop : (k : ℕ) → i < length s → refused k ≡ read_digit hi n (get_or s i 0) → refused k ≡ read_from hi 0 s
  unfolding read_digit
  stop k h e =
      let x = get_or s i 0 in
      let t = declined (is_digit x && leb (n * 10 + (x - 48)) hi) (n * 10 + (x - 48)) 2 (sym e) in
      ap refused (sym t.1) ∙ sym (opened h ∙ from-not hi n x (drop (suc i) s) t.0)

  pub end : length s ≤ i → accepted (n ∷ []) ≡ read_from hi 0 s
  unfolding read_from
  end h = sym (v.so_far ∙ ap (read_from hi n) (drop_of_length-le s h) ∙ chosen _ (le-leb n hi v.small))

-- ---- the whole field

pub number-bad : (lo hi : ℕ) (s : List ℕ) → true ≡ bad_start s → refused 2 ≡ read_number lo hi s
unfolding read_number
number-bad lo hi s e = sym (other _ (and_left _ (bad-written s (sym e))))

module _ (lo hi : ℕ) (s : List ℕ) (good : false ≡ bad_start s) where
  -- what the whole test comes to, from its parts
  fails : (a b d : Bool) → well_written s ≡ a → (a && d) ≡ false → (well_written s && (b && d)) ≡ false
  fails true b d w e = rw (w, e) (and_right b refl)
  fails false b d w e = rw w

  lasts : (b : Bool) (x y : Answer) → choose b x y ≡ choose (b && true) x y
  unfolding choose
  lasts true x y = refl
  lasts false x y = refl

  pub number-refused : (k : ℕ) → refused k ≡ read_from hi 0 s → refused k ≡ read_number lo hi s
  unfolding read_number read_from value
  number-refused k e =
      let t = declined (every is_digit s && leb (value_from 0 s) hi) (value_from 0 s) 2 (sym e) in
      ap refused (sym t.1) ∙ sym (other _ (fails (every is_digit s) (leb lo (value_from 0 s)) (leb (value_from 0 s) hi) (good-written s (sym good)) t.0))

  pub number_read : (n : ℕ) → accepted (n ∷ []) ≡ read_from hi 0 s → at_least lo n ≡ read_number lo hi s
  unfolding read_number read_from at_least value
  number_read n e =
      let t = took (every is_digit s && leb (value_from 0 s) hi) (value_from 0 s) 2 (sym e) in
      rw (good-written s (sym good), fst_true (every is_digit s) (leb (value_from 0 s) hi) t.0, snd_true (every is_digit s) (leb (value_from 0 s) hi) t.0, ← t.1) (lasts (leb lo (value_from 0 s)) _ _)

-- an accepted number is one that keeps the bounds
pub number-within : (lo hi : ℕ) (s : List ℕ) (n : ℕ) → accepted (n ∷ []) ≡ read_number lo hi s → (lo ≤ n) × (n ≤ hi)
unfolding read_number
number-within lo hi s n e =
    let t = took (well_written s && (leb lo (value s) && leb (value s) hi)) (value s) 2 (sym e) in
    let range = snd_true (well_written s) _ t.0 in (
      omega (arith, t.1, leb-true lo (value s) (fst_true _ _ range)),
      omega (arith, t.1, leb-true (value s) hi (snd_true (leb lo (value s)) _ range)),
    )
