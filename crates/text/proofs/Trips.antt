-- Writing a number and reading one undo each other. Assumes nothing.
use mathlib.Core.Bool.{true, not, ◌&&◌}
use mathlib.Core.Path.{◌≡◌, refl, sym, ap, ◌∙◌}
use mathlib.Core.List.{List, [], ◌∷◌, ◌++◌, append_assoc, append-nil}
use mathlib.Core.Logic.{⊎_elim}
use Prim.Native.Nat.{ℕ, zero, suc, ◌+◌, ◌-◌, ◌*◌, ◌/◌, ◌%◌, ◌≤◌, ◌<◌}
use native.Mathlib.Omega.{arith}
use borrow.Author.Tests.{le-leb, eqb-false, ne_eqb, not-true}
use lib.Dec.{leb, eqb}
use Rattle.lists.specs.Lists.{every}
use Rattle.lists.proofs.Cases.{less, chosen, and_true, fst_true, snd_true, clash}
use Rattle.lists.proofs.Clear.{every_append}
use Rattle.refusal.specs.Answer.{accepted}
use Rattle.refusal.proofs.Answers.{took}
use Rattle.text.specs.Digits.{last_digit, digits}
use Rattle.text.specs.Number.{is_digit, value_from, value, well_written, read_number}
use Rattle.text.specs.Trips.{NumberReadsBack, NumberWritesBack, Trips}
use Rattle.text.proofs.Digits.{digits-one, digits_more, digit-passes, digit-least, digit-most}

-- ---- written, then read

-- a law that holds of one digit, and of more from the tenth, holds of every number
by_tenths : (P : ℕ → Type 0) → ((n : ℕ) → n < 10 → P n) → ((n : ℕ) → 10 ≤ n → P (n / 10) → P n) → (n : ℕ) → P n
by_tenths P one more n = up_to n n (omega arith)
  where
    up_to : (k n : ℕ) → n ≤ k → P n
    up_to zero n h = one n (omega arith)
    up_to (suc k) n h = ⊎_elim (λ s. one n s) (λ s. more n s (up_to k (n / 10) (omega arith))) (less n 10)

digit-of : (n : ℕ) → is_digit (last_digit n) ≡ true
digit-of n = digit-passes (n % 10) (omega arith)

pub every-digits : (n : ℕ) → every is_digit (digits n) ≡ true
every-digits =
    by_tenths
    (λ n. every is_digit (digits n) ≡ true)
    (λ n h. ap (every is_digit) (digits-one n h) ∙ and_true (digit-of n) refl)
    (λ n h p. ap (every is_digit) (digits_more n h) ∙ every_append is_digit (digits (n / 10)) (last_digit n ∷ []) p (and_true (digit-of n) refl))

value-append : (m : ℕ) (a b : List ℕ) → value_from m (a ++ b) ≡ value_from (value_from m a) b
value-append m [] b = refl
value-append m (x ∷ a) b = value-append (m * 10 + (x - 48)) a b

value-digits : (n : ℕ) → value_from 0 (digits n) ≡ n
value-digits =
    by_tenths
    (λ n. value_from 0 (digits n) ≡ n)
    (λ n h. ap (value_from 0) (digits-one n h) ∙ omega arith)
    (λ n h p. ap (value_from 0) (digits_more n h) ∙ value-append 0 (digits (n / 10)) (last_digit n ∷ []) ∙ last n (value_from 0 (digits (n / 10))) p)
  where
    last : (n m : ℕ) → m ≡ n / 10 → m * 10 + (last_digit n - 48) ≡ n
    last n m e = omega arith

-- the first byte is a 0 only where there is no other
data Leads : List ℕ → Type 0 where
  leads : (x : ℕ) (s : List ℕ) → 48 < x → Leads (x ∷ s)

leads-append : {a : List ℕ} (b : List ℕ) → Leads a → Leads (a ++ b)
leads-append b (leads x s h) = leads x (s ++ b) h

leading : (n : ℕ) → 0 < n → Leads (digits n)
leading =
    by_tenths
    (λ n. 0 < n → Leads (digits n))
    (λ n h p. rw (digits-one n h) (leads (last_digit n) [] (omega arith)))
    (λ n h q p. rw (digits_more n h) (leads-append (last_digit n ∷ []) (q (omega arith))))

well_led : {s : List ℕ} → Leads s → every is_digit s ≡ true → well_written s ≡ true
unfolding well_written
well_led (leads x [] h) e = fst_true (is_digit x) true e
well_led (leads x (y ∷ s) h) e = rw (ne_eqb x 48 (λ z. omega arith)) e

well_digits : (n : ℕ) → well_written (digits n) ≡ true
unfolding well_written digits
well_digits zero = refl
well_digits (suc n) = well_led (leading (suc n) (omega arith)) (every-digits (suc n))

pub number_reads_back : NumberReadsBack
unfolding read_number value
number_reads_back lo hi n l h =
    let v = value-digits n in
    let low : leb lo (value_from 0 (digits n)) ≡ true = rw v (le-leb lo n l) in
    let high : leb (value_from 0 (digits n)) hi ≡ true = rw v (le-leb n hi h) in
    chosen _ (and_true (well_digits n) (and_true low high)) ∙ ap (λ (k : ℕ). accepted (k ∷ [])) v

-- ---- read, then written

-- a digit more at the end
digits-next : (n x : ℕ) → 0 < n → is_digit x ≡ true → digits (n * 10 + (x - 48)) ≡ digits n ++ (x ∷ [])
digits-next n x p e =
    let lo = digit-least x e in
    let up = digit-most x e in
    let tenth : (n * 10 + (x - 48)) / 10 ≡ n = omega arith in
    let last : last_digit (n * 10 + (x - 48)) ≡ x = omega arith in
    digits_more (n * 10 + (x - 48)) (omega arith) ∙ rw (tenth, last)

digits_value : (n : ℕ) (s : List ℕ) → 0 < n → every is_digit s ≡ true → digits (value_from n s) ≡ digits n ++ s
digits_value n [] p e = sym (append-nil (digits n))
digits_value n (x ∷ s) p e =
    let d = fst_true (is_digit x) (every is_digit s) e in
    digits_value (n * 10 + (x - 48)) s (omega arith) (snd_true (is_digit x) (every is_digit s) e)
    ∙ ap (λ (l : List ℕ). l ++ s) (digits-next n x p d)
    ∙ append_assoc (digits n) (x ∷ []) s

one-digit : (x : ℕ) → is_digit x ≡ true → digits (x - 48) ≡ x ∷ []
one-digit x e =
    let lo = digit-least x e in
    let up = digit-most x e in
    let is : last_digit (x - 48) ≡ x = omega arith in
    digits-one (x - 48) (omega arith) ∙ rw is

no_tens : (x : ℕ) → 0 * 10 + (x - 48) ≡ x - 48
no_tens x = omega arith

written-value : (s : List ℕ) → well_written s ≡ true → digits (value_from 0 s) ≡ s
unfolding well_written
written-value [] e = absurd (clash e refl)
written-value (x ∷ []) e = ap digits (no_tens x) ∙ one-digit x e
written-value (x ∷ y ∷ s) e =
    let other-first = eqb-false x 48 (not-true (eqb x 48) (fst_true (not (eqb x 48)) (every is_digit (x ∷ y ∷ s)) e)) in
    let ds = snd_true (not (eqb x 48)) (every is_digit (x ∷ y ∷ s)) e in
    let d = fst_true (is_digit x) (every is_digit (y ∷ s)) ds in
    let lo = digit-least x d in
    let above : 0 < x - 48 = omega arith in
    ap (λ (k : ℕ). digits (value_from k (y ∷ s))) (no_tens x)
    ∙ digits_value (x - 48) (y ∷ s) above (snd_true (is_digit x) (every is_digit (y ∷ s)) ds)
    ∙ ap (λ (l : List ℕ). l ++ (y ∷ s)) (one-digit x d)

pub number_writes_back : NumberWritesBack
unfolding read_number value
number_writes_back lo hi n s e =
    let t = took (well_written s && (leb lo (value_from 0 s) && leb (value_from 0 s) hi)) (value_from 0 s) 2 e in
    ap digits (sym t.1) ∙ written-value s (fst_true _ _ t.0)

-- ---- both

pub trips : Trips
trips = record { read = number_reads_back; written = number_writes_back }
