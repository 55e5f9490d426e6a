-- Where the bytes held lie. Assumes nothing.
use Rattle.std.specs.Prelude.{min, Option, None, Some, is_some}
use mathlib.Core.Bool.{Bool, false, not, ◌&&◌, ◌||◌}
use mathlib.Core.Path.{◌≡◌, refl, sym, ap, ap₂, ◌∙◌}
use mathlib.Core.List.{List, []}
use Prim.Native.Nat.{ℕ, suc, ◌+◌, ◌-◌, ◌≤◌, ◌<◌}
use native.Mathlib.Omega.{arith}
use borrow.Author.Tests.{lt-ltb, le-ltb, leb-false}
use lib.Dec.{leb, ltb, eqb}
use lib.ListN.{length, take, drop, length-drop}
use lib.Seq.{length-take-le, take-append_seam, take-add, drop_at, drop-drop}
use Rattle.lists.specs.Splice.{splice}
use Rattle.lists.proofs.Cases.{less, on, chosen, other, or_false}
use Rattle.lists.proofs.Splicing.{splice-length}
use Rattle.departure.specs.declared.Compared.{Compared}
use Rattle.judge.specs.declared.Judge.{Judge}
use Rattle.judging.specs.Bounds.{sheet_limit}
use Rattle.judging.specs.Judging.{is_decided, closed, decision}
use Rattle.judge.specs.Answers.{least, end_in, start_in, held_in, with_found}
use Rattle.departure.specs.declared.Departure.{Departure}

pub least_first : (a b : ℕ) → a < b → least a b ≡ a
unfolding least
least_first a b h = chosen b (lt-ltb a b h)

pub least_other : (a b : ℕ) → b ≤ a → least a b ≡ b
unfolding least
least_other a b h = other a (le-ltb a b h)

pub min_least : (a b : ℕ) → min a b ≡ least a b
min_least a b =
    on (less a b)
    (λ h. let e = least_first a b h in omega arith)
    (λ h. let e = least_other a b h in omega arith)

pub least-within : (a b : ℕ) → (least a b ≤ a) × (least a b ≤ b)
least-within a b =
    on (less a b)
    (λ h. let e = least_first a b h in (omega arith, omega arith))
    (λ h. let e = least_other a b h in (omega arith, omega arith))

pub in_order : (x : Judge) (n : ℕ) → (start_in x n ≤ end_in x n) × (end_in x n ≤ n)
in_order x n = ((least-within x.from (end_in x n)).1, (least-within x.to n).1)

-- how many bytes are held
pub held-length : (x : Judge) (d : List ℕ) → length (held_in x d) ≡ end_in x (length d) - start_in x (length d)
held-length x d =
    let n = length d in
    let o = in_order x n in
    let a = o.0 in
    let b = o.1 in
    length-take-le (end_in x n - start_in x n) (drop (start_in x n) d) (let l = length-drop (start_in x n) d in omega arith)

-- ---- tests

pub some_decided : (v : Option Departure) → is_some v ≡ is_decided v
some_decided None = refl
some_decided (Some d) = refl

pub closed-by : {b : Bool} (v : Option Departure) (n : ℕ) → b ≡ is_decided v → (b || leb sheet_limit n) ≡ closed v n
unfolding closed
closed-by v n e = ap (λ (z : Bool). z || leb sheet_limit n) e

pub open_few : (v : Option Departure) (n : ℕ) → closed v n ≡ false → n < sheet_limit
unfolding closed
open_few v n e = leb-false sheet_limit n (or_false (is_decided v) (leb sheet_limit n) e).1

pub asks-by : (x : Judge) (d : List ℕ) {n h : ℕ} {over : Bool} → n ≡ length d → over ≡ x.feed.over → h ≡ end_in x n - start_in x n → (not over && eqb h 0) ≡ (not x.feed.over && eqb (length (held_in x d)) 0)
asks-by x d all o e = ap₂ (λ (a : Bool) (m : ℕ). not a && eqb m 0) o (e ∙ ap (λ (n : ℕ). end_in x n - start_in x n) all ∙ sym (held-length x d))

pub sated-by : (x : Judge) (d : List ℕ) {n h : ℕ} {b : Bool} → n ≡ length d → b ≡ closed x.judgement x.lines → h ≡ end_in x n - start_in x n → (b || ltb 0 h) ≡ (closed x.judgement x.lines || ltb 0 (length (held_in x d)))
sated-by x d all o e = ap₂ (λ (a : Bool) (m : ℕ). a || ltb 0 m) o (e ∙ ap (λ (n : ℕ). end_in x n - start_in x n) all ∙ sym (held-length x d))

-- ---- what was found

pub found-by :
    (x : Judge) (at n m : ℕ) (last : Bool) (c : Compared) {over : Bool} {v : Option Departure} → over ≡ x.feed.over →
    v ≡ decision (c.departed || ((ltb c.bytes n && last) || (ltb c.bytes m && over))) (last && over) (x.lines + c.lines + 1) →
    record { feed = x.feed; from = at + c.bytes; to = x.to; lines = x.lines + c.lines; judgement = v } ≡ with_found x at n m last c
found-by x at n m last c {over} {v} o e =
    ap (λ (z : Option Departure). record { feed = x.feed; from = at + c.bytes; to = x.to; lines = x.lines + c.lines; judgement = z })
    (e
    ∙ ap₂ (λ (b : Bool) (k : ℕ). decision (c.departed || ((ltb c.bytes n && last) || (ltb c.bytes m && b))) (last && b) k) o
    (let z : x.lines + c.lines + 1 ≡ suc (x.lines + c.lines) = omega arith in z))

-- ---- what is held after a call

-- bytes written at the start of what is lent
pub held-written : (x : Judge) (d w : List ℕ) → x.from ≡ 0 → x.to ≡ length w → length w ≤ length d → held_in x (splice d 0 w) ≡ w
held-written x d w from to h =
    let long = splice-length d 0 w (omega arith) in
    let n = length (splice d 0 w) in
    let end : end_in x n ≡ length w = on (less x.to n) (λ k. least_first x.to n k ∙ to) (λ k. let e = least_other x.to n k in omega arith) in
    let start : start_in x n ≡ 0 = let l = (least-within x.from (end_in x n)).0 in omega arith in
    let many : end_in x n - start_in x n ≡ length w = omega arith in
    ap₂ (λ (m k : ℕ). take m (drop k (splice d 0 w))) many start ∙ take-append_seam w (drop (0 + length w) d)

drop-part : (b n : ℕ) (l : List ℕ) → b ≤ n → b ≤ length l → drop b (take n l) ≡ take (n - b) (drop b l)
drop-part b n l h k =
    ap (λ (m : ℕ). drop b (take m l)) (let z : n ≡ b + (n - b) = omega arith in z)
    ∙ ap (drop b) (take-add b (n - b) l)
    ∙ drop_at (take b l) (take (n - b) (drop b l)) b (length-take-le b l k)

-- b of the bytes held were found
pub held_after : (x y : Judge) (d : List ℕ) (b : ℕ) → y.from ≡ start_in x (length d) + b → y.to ≡ x.to → b ≤ length (held_in x d) → held_in y d ≡ drop b (held_in x d)
held_after x y d b from to h =
    let n = length d in
    let long = held-length x d in
    let o = in_order x n in
    let o₀ = o.0 in
    let o₁ = o.1 in
    let end : end_in y n ≡ end_in x n = ap (λ (m : ℕ). least m n) to in
    let start : start_in y n ≡ start_in x n + b =
    on (less y.from (end_in y n))
    (λ k. least_first y.from (end_in y n) k ∙ from)
    (λ k. let e = least_other y.from (end_in y n) k in omega arith) in
    let s = start_in x n in
    let m = end_in x n - s in
    let many : end_in y n - start_in y n ≡ m - b = omega arith in
    ap₂ (λ (i k : ℕ). take i (drop k d)) many start
    ∙ ap (take (m - b)) (sym (drop-drop b s d))
    ∙ sym (drop-part b m (drop s d) (omega arith) (let l = length-drop s d in omega arith))
