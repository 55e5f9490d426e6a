-- What a comparison finds, and the loop that makes it. Assumes nothing. begin: no turn made; turn:
-- equal at i; differ: not equal at i; end: the loop is over
use mathlib.Core.Bool.{true, false}
use mathlib.Core.Path.{◌≡◌, refl, sym, ap, ap₂, subst, ◌∙◌}
use mathlib.Core.List.{List, [], ◌∷◌, ◌++◌}
use Prim.Native.Nat.{ℕ, suc, ◌+◌, ◌≤◌, ◌<◌}
use native.Mathlib.Omega.{arith}
use native.Mathlib.Numerals.{add-one}
use borrow.Author.Tests.{eq-eqb, ne_eqb}
use lib.Dec.{eqb}
use lib.ListN.{length, get_or, drop, drop_of_length-le}
use lib.Seq.{drop-cons}
use Rattle.lists.proofs.Cases.{equal, less, on, chosen, other, bit-small}
use Rattle.departure.specs.declared.Compared.{Compared}
use Rattle.departure.specs.Steps.{alike, Comparing, Counts}
use Rattle.departure.specs.Compare.{line_end, line_ends, differing, ending, onwards, compared}

-- the ways in which the bytes a and b go on after the same ones: with bytes that differ; with none
-- in a; with none in b, but some in a
pub data Way (a b : List ℕ) (c : Compared) : Type 0 where
  apart : (t : List ℕ) (x y : ℕ) (a' b' : List ℕ) → (x ≡ y → ⊥) → a ≡ t ++ (x ∷ a') → b ≡ t ++ (y ∷ b') → c.departed ≡ true → c.bytes ≡ length t → c.lines ≡ line_ends t → Way a b c
  ends : (b' : List ℕ) → b ≡ a ++ b' → c.departed ≡ false → c.bytes ≡ length a → c.lines ≡ line_ends a → Way a b c
  stops : (x : ℕ) (a' : List ℕ) → a ≡ b ++ (x ∷ a') → c.departed ≡ false → c.bytes ≡ length b → c.lines ≡ line_ends b → Way a b c

further : {a b : List ℕ} {c : Compared} (z : ℕ) → Way a b c → Way (z ∷ a) (z ∷ b) (onwards 1 (line_end z) c)
unfolding line_ends
further z (apart t x y a' b' h ea eb d n l) = apart (z ∷ t) x y a' b' h (ap (λ (s : List ℕ). z ∷ s) ea) (ap (λ (s : List ℕ). z ∷ s) eb) d (omega (arith, n)) (ap (λ (m : ℕ). line_end z + m) l)
further z (ends b' e d n l) = ends b' (ap (λ (s : List ℕ). z ∷ s) e) d (omega (arith, n)) (ap (λ (m : ℕ). line_end z + m) l)
further z (stops x a' e d n l) = stops x a' (ap (λ (s : List ℕ). z ∷ s) e) d (omega (arith, n)) (ap (λ (m : ℕ). line_end z + m) l)

same_first : (x y : ℕ) (a b : List ℕ) → x ≡ y → compared (x ∷ a) (y ∷ b) ≡ onwards 1 (line_end x) (compared a b)
unfolding compared
same_first x y a b e = rw (eq-eqb x y e, compared) refl

other-first : (x y : ℕ) (a b : List ℕ) → (x ≡ y → ⊥) → compared (x ∷ a) (y ∷ b) ≡ differing
unfolding compared
other-first x y a b h = rw (ne_eqb x y h, compared) refl

none-due : (b : List ℕ) → compared [] b ≡ ending
unfolding compared
none-due b = refl

none_found : (a : List ℕ) → compared a [] ≡ ending
unfolding compared
none_found [] = refl
none_found (x ∷ a) = refl

-- every comparison goes one of these ways
pub way : (a b : List ℕ) → Way a b (compared a b)
unfolding line_ends
way [] b = subst (Way [] b) (sym (none-due b)) (ends b refl refl refl refl)
way (x ∷ a) [] = subst (Way (x ∷ a) []) (sym (none_found (x ∷ a))) (stops x a refl refl refl refl)
way (x ∷ a) (y ∷ b) =
    on (equal x y)
    (λ e.
    subst (λ (z : ℕ). Way (x ∷ a) (z ∷ b) (compared (x ∷ a) (z ∷ b))) e
    (subst (Way (x ∷ a) (x ∷ b)) (sym (same_first x x a b refl)) (further x (way a b))))
    (λ h. subst (Way (x ∷ a) (y ∷ b)) (sym (other-first x y a b h)) (apart [] x y a b h refl refl refl refl refl))

-- ---- the loop

pub begin : (a b : List ℕ) → Comparing a b 0 0
begin a b = record { due = omega arith; found = omega arith; few = omega arith; so_far = still (compared a b) }
  where
    still : (c : Compared) → c ≡ onwards 0 0 c
    still c = ap₂ (λ (p q : ℕ). record { departed = c.departed; bytes = p; lines = q }) (let e : c.bytes ≡ 0 + c.bytes = omega arith in e) (let e : c.lines ≡ 0 + c.lines = omega arith in e)

joined : (i l n m : ℕ) (c : Compared) → onwards i l (onwards n m c) ≡ onwards (i + n) (l + m) c
joined i l n m c =
    ap₂ (λ (p q : ℕ). record { departed = c.departed; bytes = p; lines = q })
    (let e : i + (n + c.bytes) ≡ i + n + c.bytes = omega arith in e)
    (let e : l + (m + c.lines) ≡ l + m + c.lines = omega arith in e)

module _ {a b : List ℕ} {l i : ℕ} (v : Comparing a b l i) where
  pub turn : {m : ℕ} → i < length a → i < length b → get_or a i 0 ≡ get_or b i 0 → m ≡ line_end (get_or a i 0) → Comparing a b (l + m) (i + 1)
  turn {m} h k e f =
      record {
        due = omega arith;
        found = omega arith;
        few = let s = bit-small (eqb (get_or a i 0) 10) in let w = v.few in omega arith;
        so_far =
            v.so_far
            ∙ ap (onwards i l) (ap₂ compared (drop-cons a i 0 h) (drop-cons b i 0 k) ∙ same_first (get_or a i 0) (get_or b i 0) (drop (suc i) a) (drop (suc i) b) e)
            ∙ joined i l 1 (line_end (get_or a i 0)) (compared (drop (suc i) a) (drop (suc i) b))
            ∙ rw (f, add-one) refl;
      }

  pub differ : i < length a → i < length b → (get_or a i 0 ≡ get_or b i 0 → ⊥) → record { departed = true; bytes = i; lines = l } ≡ compared a b
  differ h k e =
      sym
      (v.so_far
      ∙ ap (onwards i l) (ap₂ compared (drop-cons a i 0 h) (drop-cons b i 0 k) ∙ other-first (get_or a i 0) (get_or b i 0) (drop (suc i) a) (drop (suc i) b) e)
      ∙ ap₂ (λ (p q : ℕ). record { departed = true; bytes = p; lines = q }) (let e : i + 0 ≡ i = omega arith in e) (let e : l + 0 ≡ l = omega arith in e))

  over : compared (drop i a) (drop i b) ≡ ending → record { departed = false; bytes = i; lines = l } ≡ compared a b
  over e =
      sym
      (v.so_far
      ∙ ap (onwards i l) e
      ∙ ap₂ (λ (p q : ℕ). record { departed = false; bytes = p; lines = q }) (let e : i + 0 ≡ i = omega arith in e) (let e : l + 0 ≡ l = omega arith in e))

  pub end : (i < length a → length b ≤ i) → record { departed = false; bytes = i; lines = l } ≡ compared a b
  end h =
      on (less i (length a))
      (λ k. over (ap (compared (drop i a)) (drop_of_length-le b (h k)) ∙ none_found (drop i a)))
      (λ k. over (ap (λ (s : List ℕ). compared s (drop i b)) (drop_of_length-le a k) ∙ none-due (drop i b)))

-- ---- line feeds

pub ends-few : (t : List ℕ) → line_ends t ≤ length t
unfolding line_ends
ends-few [] = omega arith
ends-few (x ∷ t) = let a = bit-small (eqb x 10) in let b = ends-few t in omega arith

pub ends-append : (a b : List ℕ) → line_ends (a ++ b) ≡ line_ends a + line_ends b
unfolding line_ends
ends-append [] b = omega arith
ends-append (x ∷ a) b = let e = ends-append a b in omega arith

-- ---- a block

pub alike-so : (x y : ℕ) → x ≡ y → alike x y ≡ 1
alike-so x y e = chosen 0 (eq-eqb x y e)

pub alike-not : (x y : ℕ) → (x ≡ y → ⊥) → alike x y ≡ 0
alike-not x y h = other 1 (ne_eqb x y h)

alike-one : (x y : ℕ) → alike x y ≡ 1 → x ≡ y
alike-one x y e = on (equal x y) (λ h. h) (λ h. absurd (let z = alike-not x y h in omega arith))

pub alike-small : {m : ℕ} (x y : ℕ) → m ≡ alike x y → m ≤ 1
alike-small x y e = let b = bit-small (eqb x y) in omega arith

-- e of the first k bytes of the block at `at` are equal, and they end l lines
pub record Counting (a b : List ℕ) (at e l k : ℕ) : Type 0 where
  pub size : k ≤ 128
  pub equal : e ≤ k
  pub lines : l ≤ k
  pub all : (n : ℕ) → Comparing a b n at → e ≡ k → Comparing a b (n + l) (at + k)

pub count-begin : (a b : List ℕ) (at : ℕ) → Counting a b at 0 0 0
count-begin a b at =
    record {
      size = omega arith;
      equal = omega arith;
      lines = omega arith;
      all = λ n v e. subst (λ (m : ℕ). Comparing a b m (at + 0)) (let z : n ≡ n + 0 = omega arith in z) (subst (Comparing a b n) (let z : at ≡ at + 0 = omega arith in z) v);
    }

pub count_turn :
    {a b : List ℕ} {at e l k : ℕ} {m q : ℕ} → Counting a b at e l k → k < 128 → at + 128 ≤ length a → at + 128 ≤ length b →
    m ≡ alike (get_or a (at + k) 0) (get_or b (at + k) 0) → q ≡ line_end (get_or a (at + k) 0) → Counting a b at (e + m) (l + q) (k + 1)
count_turn {a} {b} {at} {e} {l} {k} {m} {q} v h ha hb em eq =
    let x = get_or a (at + k) 0 in
    let y = get_or b (at + k) 0 in
    let one = bit-small (eqb x y) in
    let one' = bit-small (eqb x 10) in
    let s = v.equal in
    let t = v.lines in
    record {
      size = omega arith;
      equal = omega arith;
      lines = omega arith;
      all =
          λ n w z.
          let before : e ≡ k = omega arith in
          let same : x ≡ y = alike-one x y (omega arith) in
          subst (λ (i : ℕ). Comparing a b i (at + (k + 1))) (let y : n + l + q ≡ n + (l + q) = omega arith in y)
          (subst (Comparing a b (n + l + q)) (let y : at + k + 1 ≡ at + (k + 1) = omega arith in y) (turn (v.all n w before) (omega arith) (omega arith) same eq));
    }

pub count-end : {a b : List ℕ} {at e l k : ℕ} → Counting a b at e l k → 128 ≤ k → Counts a b at (record { equal = e; lines = l })
count-end {a} {b} {at} {e} {l} {k} v h =
    let size = v.size in
    let few = v.lines in
    record { few = omega arith; all = λ n w z. subst (λ (i : ℕ). Comparing a b (n + l) (at + i)) (let y : k ≡ 128 = omega arith in y) (v.all n w (omega arith)) }
