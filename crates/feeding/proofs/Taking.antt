-- The line under way, and bytes taken to it. Assumes nothing.
use mathlib.Core.Bool.{Bool, true, false, not, ◌&&◌, ◌||◌}
use mathlib.Core.Path.{◌≡◌, refl, sym, ap, ap₂, ◌∙◌}
use mathlib.Core.List.{List, [], ◌∷◌, ◌++◌}
use mathlib.Core.Logic.{◌⊎◌, inl, inr}
use Prim.Native.Nat.{ℕ, suc, ◌+◌, ◌-◌, ◌≤◌, ◌<◌}
use native.Mathlib.Omega.{arith}
use native.Mathlib.Numerals.{add-one}
use borrow.Author.Tests.{ltb-true, leb-false, le-leb, lt-leb, lt-ltb, not-true}
use lib.Dec.{ltb, leb, eqb}
use lib.ListN.{length, take, drop, get_or, set, length-append, length-set, drop_of_length-le}
use lib.Seq.{take_all, length-take-le, get_or-take, get_or-append_seam, take-suc-set, drop-cons}
use Rattle.lists.proofs.Cases.{tested, on, less, clash, or_false, fst_true, snd_true, and_true}
use Rattle.feeding.specs.Fed.{Fed, enough, whole_line, closed, with_byte, taken, taken_bytes}

-- a test joined with one that is known
pub or_so : {a : Bool} (b : Bool) → a ≡ true → (a || b) ≡ true
or_so b e = rw e

pub or_not : {a : Bool} (b : Bool) → a ≡ false → (a || b) ≡ b
or_not b e = rw e

-- ---- whole or not

-- a line of enough bytes
pub whole_long : (l : List ℕ) → enough ≤ length l → whole_line l ≡ true
unfolding whole_line
whole_long l h = or_so _ (le-leb enough (length l) h)

-- of others the last byte tells
pub whole-last : (l : List ℕ) (x : ℕ) → whole_line (l ++ (x ∷ [])) ≡ (leb enough (length l + 1) || eqb x 10)
unfolding whole_line
whole-last l x =
    let e : length (l ++ (x ∷ [])) ≡ length l + 1 = length-append l (x ∷ []) in
    let k : length (l ++ (x ∷ [])) - 1 ≡ length l = omega (arith, e) in
    ap₂ (λ (m y : ℕ). leb enough m || eqb y 10) e (ap (λ (m : ℕ). get_or (l ++ (x ∷ [])) m 0) k ∙ get_or-append_seam l x [] 0)

pub whole-none : whole_line [] ≡ false
unfolding whole_line
whole-none = refl

-- a line that is not whole has room
pub not-long : (l : List ℕ) → whole_line l ≡ false → length l < enough
unfolding whole_line
not-long l e = leb-false enough (length l) (or_false _ _ e).0

pub whole-empty : (l : List ℕ) → length l ≡ 0 → whole_line l ≡ false
whole-empty [] e = whole-none
whole-empty (x ∷ l) e = absurd (omega arith)

-- so many bytes of a slice are the line: n of them, or all
module _ (l : List ℕ) (n : ℕ) {m : ℕ} (e : m ≡ length (take n l)) where
  pub held-take : (m ≤ length l) × (m ≤ n) × (take m l ≡ take n l)
  held-take =
      on (less n (length l))
      (λ h. let z : m ≡ n = e ∙ length-take-le n l (omega arith) in (omega arith, omega arith, ap (λ (i : ℕ). take i l) z))
      (λ h. let z : m ≡ length l = e ∙ ap length (take_all n l h) in (omega arith, omega arith, take_all m l (omega arith) ∙ sym (take_all n l h)))

  pub whole-at : 0 < m → m < enough → whole_line (take n l) ≡ eqb (get_or l (m - 1) 0) 10
  unfolding whole_line
  whole-at p h =
      or_not _ (lt-leb enough (length (take n l)) (omega arith))
      ∙ ap (λ (x : ℕ). eqb x 10) (ap (λ (i : ℕ). get_or (take n l) (i - 1) 0) (sym e) ∙ get_or-take n l (m - 1) 0 (omega (arith, held-take.1)))

-- a line that is not whole has room in an array
few : (l : List ℕ) (n : ℕ) → length l ≡ enough → whole_line (take n l) ≡ false → n < enough
few l n long e = on (less n enough) (λ h. h) (λ h. absurd (clash (whole_long (take n l) (omega (arith, ap length (take_all n l (omega arith))))) e))

-- ---- taking

abbrev pub line_of : Fed → List ℕ → ℕ → Fed
line_of f l n = record { over = f.over; number = f.number; line = take n l; day = f.day }

module _ (f : Fed) where
  pub taken_more : (x : ℕ) (s : List ℕ) → closed f ≡ false → taken f (x ∷ s) ≡ taken (with_byte f x) s
  unfolding taken
  taken_more x s e = rw (e, taken)

  pub count-more : (x : ℕ) (s : List ℕ) → closed f ≡ false → taken_bytes f (x ∷ s) ≡ suc (taken_bytes (with_byte f x) s)
  unfolding taken_bytes
  count-more x s e = rw (e, taken_bytes)

  pub taken_none : (s : List ℕ) → closed f ≡ true → taken f s ≡ f
  unfolding taken
  taken_none [] e = refl
  taken_none (x ∷ s) e = rw (e, taken)

  pub count_none : (s : List ℕ) → closed f ≡ true → taken_bytes f s ≡ 0
  unfolding taken_bytes
  count_none [] e = refl
  count_none (x ∷ s) e = rw (e, taken_bytes)

-- i bytes of s are taken: what is left is the rest of all
pub record Taking (f : Fed) (s l : List ℕ) (n i : ℕ) (shut : Bool) : Type 0 where
  pub long : length l ≡ enough
  pub rest : taken (line_of f l n) (drop i s) ≡ taken f s
  pub count : i + taken_bytes (line_of f l n) (drop i s) ≡ taken_bytes f s
  pub test : shut ≡ closed (line_of f l n)

pub begins : (f : Fed) (s : List ℕ) {l : List ℕ} {n : ℕ} {shut : Bool} → length l ≡ enough → line_of f l n ≡ f → shut ≡ closed f → Taking f s l n 0 shut
begins f s long e t =
    record {
      long = long;
      rest = ap (λ (g : Fed). taken g s) e;
      count = omega (arith, ap (λ (g : Fed). taken_bytes g s) e);
      test = t ∙ sym (ap closed e);
    }

module _ {f : Fed} {s l : List ℕ} {n i : ℕ} {shut : Bool} (v : Taking f s l n i shut) where
  module _ (t : (ltb i (length s) && not shut) ≡ true) where
    pub within : i < length s
    within = ltb-true i (length s) (fst_true _ (not shut) t)

    open_now : closed (line_of f l n) ≡ false
    open_now = sym v.test ∙ not-true shut (snd_true (ltb i (length s)) (not shut) t)

    pub room : n < enough
    room = few l n v.long (or_false f.over _ open_now).1

    pub turn : {x : ℕ} → x ≡ get_or s i 0 → Taking f s (set l n x) (n + 1) (i + 1) (leb enough (n + 1) || eqb x 10)
    turn {x} q =
        let has : n < length l = omega (arith, room, v.long) in
        let long : length (take n l) ≡ n = length-take-le n l (omega arith) in
        let more : line_of f (set l n x) (n + 1) ≡ with_byte (line_of f l n) x = rw add-one (ap (λ (y : List ℕ). record { over = f.over; number = f.number; line = y; day = f.day }) (take-suc-set l n x has)) in
        let next : drop i s ≡ x ∷ drop (i + 1) s = rw add-one (drop-cons s i 0 within ∙ ap (λ (y : ℕ). y ∷ drop (suc i) s) (sym q)) in
        record {
          long = length-set l n x ∙ v.long;
          rest = ap (λ (g : Fed). taken g (drop (i + 1) s)) more ∙ sym (taken_more (line_of f l n) x (drop (i + 1) s) open_now) ∙ sym (ap (taken (line_of f l n)) next) ∙ v.rest;
          count =
              omega
              (arith, ap (λ (g : Fed). taken_bytes g (drop (i + 1) s)) more, count-more (line_of f l n) x (drop (i + 1) s) open_now, ap (taken_bytes (line_of f l n)) next, v.count);
          test =
              sym
              (ap closed more
              ∙ or_not _ (or_false f.over _ open_now).0
              ∙ whole-last (take n l) x
              ∙ ap (λ (m : ℕ). leb enough (m + 1) || eqb x 10) long);
        }

  -- no byte is left, or none is taken
  pub ends : (ltb i (length s) && not shut) ≡ false → (i ≡ taken_bytes f s) × (line_of f l n ≡ taken f s)
  unfolding taken taken_bytes
  ends t = by (less i (length s))
    where
      by : (i < length s) ⊎ (length s ≤ i) → (i ≡ taken_bytes f s) × (line_of f l n ≡ taken f s)
      by (inl h) =
          let shuts : closed (line_of f l n) ≡ true = sym v.test ∙ on (tested shut) (λ e. e) (λ e. absurd (clash (and_true (lt-ltb i (length s) h) (ap not e)) t)) in
          (omega (arith, v.count, count_none (line_of f l n) (drop i s) shuts), sym (taken_none (line_of f l n) (drop i s) shuts) ∙ v.rest)
      by (inr h) =
          let none = drop_of_length-le s h in
          (omega (arith, v.count, ap (taken_bytes (line_of f l n)) none), sym (ap (taken (line_of f l n)) none) ∙ v.rest)
