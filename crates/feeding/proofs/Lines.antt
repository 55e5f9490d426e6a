-- The lines that are left. Assumes nothing.
use mathlib.Core.Bool.{Bool, true, false, ◌&&◌, ◌||◌}
use mathlib.Core.Path.{◌≡◌, refl, sym, ap, ◌∙◌}
use mathlib.Core.List.{List, [], ◌∷◌, ◌++◌}
use Prim.Native.Nat.{ℕ, suc, ◌+◌, ◌-◌, ◌≤◌, ◌<◌}
use native.Mathlib.Omega.{arith}
use borrow.Author.Tests.{leb-true, eqb-true, eq-eqb}
use lib.Dec.{leb, eqb}
use lib.ListN.{length, get_or, length-append, get_or-append}
use lib.Seq.{get_or-append_seam}
use Rattle.lists.specs.Lists.{on_first, up_to}
use Rattle.lists.proofs.Cases.{equal, on, clash, refuted, other, fst_true, snd_true}
use Rattle.lists.proofs.Parts.{here, later}
use Rattle.refusal.specs.Answer.{Answer}
use Rattle.text.specs.Line.{line_limit, read_line}
use Rattle.day.specs.Read.{wrong, line_read}
use Rattle.feeding.specs.Fed.{enough, whole_line, before}

-- ---- bytes put before a line

pub before-line : (l m : List ℕ) (ms : List (List ℕ)) → before l (m ∷ ms) ≡ (l ++ m) ∷ ms
unfolding before
before-line [] m ms = refl
before-line (x ∷ l) m ms = ap (on_first x) (before-line l m ms)

pub before-none : (x : ℕ) (l : List ℕ) → before (x ∷ l) [] ≡ (x ∷ l) ∷ []
unfolding before
before-none x [] = refl
before-none x (y ∷ l) = ap (on_first x) (before-none y l)

pub before_more : (l : List ℕ) (x : ℕ) (ls : List (List ℕ)) → before (l ++ (x ∷ [])) ls ≡ before l (on_first x ls)
unfolding before
before_more [] x ls = refl
before_more (y ∷ l) x ls = ap (on_first y) (before_more l x ls)

-- ---- lines that are none

-- where there is a c, it stands at its place
hit : (c : ℕ) (s : List ℕ) → up_to c s < length s → get_or s (up_to c s) 0 ≡ c
hit c [] h = absurd (omega arith)
hit c (x ∷ s) h =
    on (equal x c)
    (λ e. ap (λ (n : ℕ). get_or (x ∷ s) n 0) (here c x s e) ∙ e)
    (λ e. ap (λ (n : ℕ). get_or (x ∷ s) n 0) (later c x s e) ∙ hit c s (omega (arith, later c x s e)))

pub no_line : (s : List ℕ) → (up_to 10 s ≤ line_limit → suc (up_to 10 s) ≡ length s → ⊥) → line_read s ≡ wrong 1
unfolding line_read read_line
no_line s h =
    let test = leb (up_to 10 s) line_limit && eqb (suc (up_to 10 s)) (length s) in
    let fails : test ≡ false = refuted test (λ e. h (leb-true _ _ (fst_true (leb (up_to 10 s) line_limit) _ e)) (eqb-true _ _ (snd_true (leb (up_to 10 s) line_limit) _ e))) in
    let number : eqb (read_line s).number 0 ≡ false = ap (λ (a : Answer). eqb a.number 0) (other _ fails) in
    rw (number, line_read)

-- "no line feed"
pub no_feed : (l : List ℕ) → whole_line l ≡ false → line_read l ≡ wrong 1
unfolding whole_line
no_feed l e =
    no_line l
    (λ a b.
    let last : get_or l (length l - 1) 0 ≡ 10 = ap (λ (n : ℕ). get_or l n 0) (let z : length l - 1 ≡ up_to 10 l = omega arith in z) ∙ hit 10 l (omega arith) in
    clash (or_so_right (leb enough (length l)) (eq-eqb _ 10 last)) e)
  where
    or_so_right : (a : Bool) {b : Bool} → b ≡ true → (a || b) ≡ true
    or_so_right true h = refl
    or_so_right false h = h

-- "too long": a byte too many that is no line feed, whatever follows
pub too_long : (l : List ℕ) (x : ℕ) (m : List ℕ) → line_limit ≤ length l → (x ≡ 10 → ⊥) → line_read ((l ++ (x ∷ [])) ++ m) ≡ wrong 1
too_long l x m h n =
    let s = (l ++ (x ∷ [])) ++ m in
    let long : length (l ++ (x ∷ [])) ≡ length l + 1 = length-append l (x ∷ []) in
    let all : length s ≡ length l + 1 + length m = omega (arith, length-append (l ++ (x ∷ [])) m, long) in
    no_line s
    (λ a b.
    let at : up_to 10 s ≡ length l = omega (arith, all) in
    n
    (sym
    (ap (λ (k : ℕ). get_or s k 0) at
    ∙ get_or-append (l ++ (x ∷ [])) m 0 (length l) (omega (arith, long))
    ∙ get_or-append_seam l x [] 0)
    ∙ hit 10 s (omega arith)))
