-- The lines of bytes, and where two lists of lines depart. Assumes nothing.
use mathlib.Core.Bool.{true, false}
use mathlib.Core.Path.{◌≡◌, refl, sym, ap, ◌∙◌}
use mathlib.Core.List.{List, [], ◌∷◌, ◌++◌}
use Prim.Native.Nat.{ℕ, suc, ◌+◌}
use native.Mathlib.Omega.{arith}
use borrow.Author.Tests.{eq-eqb, ne_eqb}
use Rattle.lists.specs.Lists.{same, on_first}
use Rattle.lists.proofs.Cases.{equal, on, chosen, other, and_left}
use Rattle.lists.proofs.SameLoop.{same_refl}
use Rattle.day.specs.Read.{lines_in}
use Rattle.day.proofs.Lines.{lines-feed, lines_byte}
use Rattle.departure.specs.declared.Departure.{Departure}
use Rattle.departure.specs.declared.Departure.TheVariants.{Same, At}
use Rattle.departure.specs.Departure.{departs_from, departure}
use Rattle.departure.specs.Compare.{line_end, line_ends}

-- bytes that are not none have a first line, which begins with the first of them
record First (x : ℕ) (s : List ℕ) : Type 0 where
  rest : List ℕ
  others : List (List ℕ)
  so : lines_in (x ∷ s) ≡ (x ∷ rest) ∷ others

put-before : (x : ℕ) (s : List ℕ) (ls : List (List ℕ)) → lines_in (x ∷ s) ≡ on_first x ls → First x s
put-before x s [] e = record { rest = []; others = []; so = e }
put-before x s (l ∷ ls) e = record { rest = l; others = ls; so = e }

first-line : (x : ℕ) (s : List ℕ) → First x s
first-line x s =
    on (equal x 10)
    (λ e. record { rest = []; others = lines_in s; so = ap (λ (n : ℕ). lines_in (n ∷ s)) e ∙ lines-feed s ∙ ap (λ (n : ℕ). (n ∷ []) ∷ lines_in s) (sym e) })
    (λ e. put-before x s (lines_in s) (lines_byte x s e))

-- ---- the same first byte

departs-same : (k : ℕ) (d : List ℕ) (ds gs : List (List ℕ)) → departs_from k (d ∷ ds) (d ∷ gs) ≡ departs_from (suc k) ds gs
unfolding departs_from
departs-same k d ds gs = rw (same_refl d, departs_from)

departs-other : (k : ℕ) (d g : List ℕ) (ds gs : List (List ℕ)) → same d g ≡ false → departs_from k (d ∷ ds) (g ∷ gs) ≡ At k
unfolding departs_from
departs-other k d g ds gs e = rw (e, departs_from)

same_byte : (x : ℕ) (l m : List ℕ) → same (x ∷ l) (x ∷ m) ≡ same l m
unfolding same
same_byte x l m = rw (eq-eqb x x refl) refl

departs_byte : (k x : ℕ) (d g : List ℕ) (ds gs : List (List ℕ)) → departs_from k ((x ∷ d) ∷ ds) ((x ∷ g) ∷ gs) ≡ departs_from k (d ∷ ds) (g ∷ gs)
unfolding departs_from
departs_byte k x d g ds gs = rw (same_byte x d g, departs_from) refl

unlike-none : (x : ℕ) (l : List ℕ) → same [] (x ∷ l) ≡ false
unfolding same
unlike-none x l = refl

unlike-some : (x : ℕ) (l : List ℕ) → same (x ∷ l) [] ≡ false
unfolding same
unlike-some x l = refl

unlike-first : (x y : ℕ) (l m : List ℕ) → (x ≡ y → ⊥) → same (x ∷ l) (y ∷ m) ≡ false
unfolding same
unlike-first x y l m h = and_left (same l m) (ne_eqb x y h)

no_lines : lines_in [] ≡ []
unfolding lines_in
no_lines = refl

departs-missing : (k : ℕ) (d : List ℕ) (ds : List (List ℕ)) → departs_from k (d ∷ ds) [] ≡ At k
unfolding departs_from
departs-missing k d ds = refl

departs-surplus : (k : ℕ) (g : List ℕ) (gs : List (List ℕ)) → departs_from k [] (g ∷ gs) ≡ At k
unfolding departs_from
departs-surplus k g gs = refl

departs-none : (k : ℕ) → departs_from k [] [] ≡ Same
unfolding departs_from
departs-none k = refl

none-none : (k : ℕ) → departs_from k (lines_in []) (lines_in []) ≡ Same
none-none k = rw no_lines (departs-none k)

none-some : (k y : ℕ) (s : List ℕ) → departs_from k (lines_in []) (lines_in (y ∷ s)) ≡ At k
none-some k y s = let b = first-line y s in rw (no_lines, b.so) (departs-surplus k (y ∷ b.rest) b.others)

some-none : (k x : ℕ) (s : List ℕ) → departs_from k (lines_in (x ∷ s)) (lines_in []) ≡ At k
some-none k x s = let a = first-line x s in rw (no_lines, a.so) (departs-missing k (x ∷ a.rest) a.others)

some-some : (k x y : ℕ) (s t : List ℕ) → (x ≡ y → ⊥) → departs_from k (lines_in (x ∷ s)) (lines_in (y ∷ t)) ≡ At k
some-some k x y s t h =
    let a = first-line x s in
    let b = first-line y t in
    rw (a.so, b.so) (departs-other k (x ∷ a.rest) (y ∷ b.rest) a.others b.others (unlike-first x y a.rest b.rest h))

feed-both : (k : ℕ) (s t : List ℕ) → departs_from k (lines_in (10 ∷ s)) (lines_in (10 ∷ t)) ≡ departs_from (suc k) (lines_in s) (lines_in t)
feed-both k s t = rw (lines-feed s, lines-feed t) (departs-same k (10 ∷ []) (lines_in s) (lines_in t))

byte_lines : (k x : ℕ) (s t : List ℕ) → departs_from k (on_first x (lines_in s)) (on_first x (lines_in t)) ≡ departs_from k (lines_in s) (lines_in t)
byte_lines k x [] [] = rw no_lines (departs-same k (x ∷ []) [] [] ∙ departs-none (suc k) ∙ sym (departs-none k))
byte_lines k x [] (z ∷ t) =
    let b = first-line z t in
    rw (no_lines, b.so)
    (departs-other k (x ∷ []) (x ∷ (z ∷ b.rest)) [] b.others (same_byte x [] (z ∷ b.rest) ∙ unlike-none z b.rest)
    ∙ sym (departs-surplus k (z ∷ b.rest) b.others))
byte_lines k x (y ∷ s) [] =
    let a = first-line y s in
    rw (no_lines, a.so)
    (departs-other k (x ∷ (y ∷ a.rest)) (x ∷ []) a.others [] (same_byte x (y ∷ a.rest) [] ∙ unlike-some y a.rest)
    ∙ sym (departs-missing k (y ∷ a.rest) a.others))
byte_lines k x (y ∷ s) (z ∷ t) =
    let a = first-line y s in
    let b = first-line z t in
    rw (a.so, b.so) (departs_byte k x (y ∷ a.rest) (z ∷ b.rest) a.others b.others)

byte_both : (k x : ℕ) (s t : List ℕ) → (x ≡ 10 → ⊥) → departs_from k (lines_in (x ∷ s)) (lines_in (x ∷ t)) ≡ departs_from k (lines_in s) (lines_in t)
byte_both k x s t h = rw (lines_byte x s h, lines_byte x t h) (byte_lines k x s t)

pub end_line_lem : (x : ℕ) → x ≡ 10 → line_end x ≡ 1
end_line_lem x e = ap line_end e ∙ chosen 0 refl

pub end_none : (x : ℕ) → (x ≡ 10 → ⊥) → line_end x ≡ 0
end_none x h = other 1 (ne_eqb x 10 h)

-- the same bytes t first: as many lines later as they end
pub after : (k : ℕ) (t a b : List ℕ) → departs_from k (lines_in (t ++ a)) (lines_in (t ++ b)) ≡ departs_from (line_ends t + k) (lines_in a) (lines_in b)
unfolding line_ends
after k [] a b = ap (λ (m : ℕ). departs_from m (lines_in a) (lines_in b)) (let z : k ≡ 0 + k = omega arith in z)
after k (x ∷ t) a b =
    on (equal x 10)
    (λ e.
    let is : line_end x ≡ 1 = end_line_lem x e in
    let n : line_ends t + suc k ≡ line_ends (x ∷ t) + k = omega (arith, is) in
    ap (λ (y : ℕ). departs_from k (lines_in (y ∷ (t ++ a))) (lines_in (y ∷ (t ++ b)))) e
    ∙ feed-both k (t ++ a) (t ++ b)
    ∙ after (suc k) t a b
    ∙ ap (λ (m : ℕ). departs_from m (lines_in a) (lines_in b)) n)
    (λ h.
    let is : line_end x ≡ 0 = end_none x h in
    let n : line_ends t + k ≡ line_ends (x ∷ t) + k = omega (arith, is) in
    byte_both k x (t ++ a) (t ++ b) h ∙ after k t a b ∙ ap (λ (m : ℕ). departs_from m (lines_in a) (lines_in b)) n)

-- ---- the four ways in which two lists of bytes go on after the same ones

pub at-end : (t : List ℕ) → departure (t ++ []) (t ++ []) ≡ Same
unfolding departure
at-end t = after 1 t [] [] ∙ none-none (line_ends t + 1)

pub at-surplus : (t : List ℕ) (y : ℕ) (b : List ℕ) → departure (t ++ []) (t ++ (y ∷ b)) ≡ At (suc (line_ends t))
unfolding departure
at-surplus t y b = after 1 t [] (y ∷ b) ∙ none-some (line_ends t + 1) y b ∙ ap At (let z : line_ends t + 1 ≡ suc (line_ends t) = omega arith in z)

pub at-missing : (t : List ℕ) (x : ℕ) (a : List ℕ) → departure (t ++ (x ∷ a)) (t ++ []) ≡ At (suc (line_ends t))
unfolding departure
at-missing t x a = after 1 t (x ∷ a) [] ∙ some-none (line_ends t + 1) x a ∙ ap At (let z : line_ends t + 1 ≡ suc (line_ends t) = omega arith in z)

pub at_other : (t : List ℕ) (x y : ℕ) (a b : List ℕ) → (x ≡ y → ⊥) → departure (t ++ (x ∷ a)) (t ++ (y ∷ b)) ≡ At (suc (line_ends t))
unfolding departure
at_other t x y a b h = after 1 t (x ∷ a) (y ∷ b) ∙ some-some (line_ends t + 1) x y a b h ∙ ap At (let z : line_ends t + 1 ≡ suc (line_ends t) = omega arith in z)
