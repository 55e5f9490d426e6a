-- Servers of a table counted, entered and in order. Assumes nothing.
use mathlib.Core.Bool.{Bool, true, false, ◌&&◌}
use mathlib.Core.Path.{◌≡◌, refl, sym, ap, ap₂, ◌∙◌}
use mathlib.Core.List.{List, [], ◌∷◌, ◌++◌, append_assoc, append-nil}
use Prim.Native.Nat.{ℕ, zero, suc, ◌+◌, ◌<◌, ◌≤◌}
use native.Mathlib.Omega.{arith}
use native.Mathlib.Numerals.{add-one}
use lib.ListN.{length, take, drop, set, get_or, length-set, drop_of_length-le}
use lib.Seq.{drop-cons, take-suc-set, take_all}
use Rattle.std.specs.List.{sum_by, IsAllAdjacentAnswer}
use Rattle.std.proofs.lemmas.List.{drop-set-lt}
use Rattle.std.proofs.lemmas.List.Sums.{sum_by-cons}
use Rattle.lists.specs.Choice.{choose}
use Rattle.lists.proofs.Cases.{and_left}
use Rattle.server.specs.declared.Server.{Server}
use Rattle.server.specs.Server.{absent}
use Rattle.group.specs.Table.{is_empty, counted, stands_before, enter, follows, rises}

-- ---- counting the servers, one a place

abbrev pub one_of : Server → ℕ
one_of s = choose (is_empty s) 0 1

pub sum_counts : (l : List Server) → sum_by one_of l ≡ counted l
unfolding choose
sum_counts [] = refl
sum_counts (s ∷ l) = sum_by-cons one_of s l ∙ ap (λ (n : ℕ). one_of s + n) (sum_counts l) ∙ step (is_empty s) (counted l)
  where
    step : (b : Bool) (n : ℕ) → choose b 0 1 + n ≡ choose b n (suc n)
    step true n = omega arith
    step false n = omega arith

pub counted-few : (l : List Server) → counted l ≤ length l
unfolding choose
counted-few [] = omega arith
counted-few (s ∷ l) = small (is_empty s) (counted l) (length l) (counted-few l)
  where
    small : (b : Bool) (n k : ℕ) → n ≤ k → choose b n (suc n) ≤ suc k
    small true n k h = omega arith
    small false n k h = omega arith

-- ---- a server entered: the places before i are done, and x is to be entered into the rest

pub record Entering (new : Server) (l next : List Server) (x : Server) (i : ℕ) : Type 0 where
  pub long : length next ≡ 16
  pub so_far : take i next ++ enter x (drop i next) ≡ enter new l

module _ {new : Server} {l : List Server} where
  pub enter-begin : length l ≡ 16 → Entering new l l new 0
  enter-begin e = record { long = e; so_far = refl }

  pub enter-turn :
      {next : List Server} {x y z : Server} {b : Bool} {i : ℕ} → Entering new l next x i → i < 16 → b ≡ stands_before x (get_or next i absent) →
      y ≡ choose b x (get_or next i absent) → z ≡ choose b (get_or next i absent) x → Entering new l (set next i y) z (i + 1)
  unfolding enter
  enter-turn {next} {x} {y} {z} {b} {i} v h e p q =
      let s = get_or next i absent in
      let opened : enter x (drop i next) ≡ choose (stands_before x s) x s ∷ enter (choose (stands_before x s) s x) (drop (suc i) next) =
      ap (enter x) (drop-cons next i absent (omega (arith, v.long)))
      in
      let first : y ≡ choose (stands_before x s) x s = p ∙ ap (λ (t : Bool). choose t x s) e in
      let second : z ≡ choose (stands_before x s) s x = q ∙ ap (λ (t : Bool). choose t s x) e in
      let rest : drop (suc i) (set next i y) ≡ drop (suc i) next = drop-set-lt (suc i) next i y (omega arith) in
      record {
        long = length-set next i y ∙ v.long;
        so_far =
            rw add-one
            (ap₂ (λ (t m : List Server). t ++ enter z m) (take-suc-set next i y (omega (arith, v.long))) rest
            ∙ append_assoc (take i next) (y ∷ []) (enter z (drop (suc i) next))
            ∙ ap (λ (t : List Server). take i next ++ t)
            (ap₂ (λ (a c : Server). a ∷ enter c (drop (suc i) next)) first second ∙ sym opened)
            ∙ v.so_far);
      }

  pub enter-end : {next : List Server} {x : Server} {i : ℕ} → Entering new l next x i → 16 ≤ i → next ≡ enter new l
  unfolding enter
  enter-end {next} {x} {i} v h =
      let past : length next ≤ i = omega (arith, v.long) in
      sym (take_all i next past)
      ∙ sym (append-nil (take i next))
      ∙ ap (λ (t : List Server). take i next ++ enter x t) (sym (drop_of_length-le next past))
      ∙ v.so_far

-- ---- identities that rise: each server may stand after the one before it

all-rise : (l : List Server) → ((k : ℕ) (d : Server) → suc k < length l → true ≡ follows (get_or l k d) (get_or l (suc k) d)) → true ≡ rises l
unfolding rises
all-rise [] h = refl
all-rise (s ∷ []) h = refl
all-rise (s ∷ x ∷ l) h =
    ap₂ (λ (a b : Bool). a && b) (h 0 absent (omega arith)) (all-rise (x ∷ l) (λ k d g. h (suc k) d (omega arith)))

some-fall :
    (l : List Server) (k : ℕ) → suc k < length l → ((d : Server) → false ≡ follows (get_or l k d) (get_or l (suc k) d)) → false ≡ rises l
unfolding rises
some-fall [] k g h = absurd (omega arith)
some-fall (s ∷ []) k g h = absurd (omega arith)
some-fall (s ∷ x ∷ l) zero g h = sym (and_left _ (sym (h absent)))
some-fall (s ∷ x ∷ l) (suc k) g h = and_false (follows s x) (some-fall (x ∷ l) k (omega arith) h)
  where
    and_false : (a : Bool) {b : Bool} → false ≡ b → false ≡ (a && b)
    and_false true e = e
    and_false false e = refl

pub rise-answer : (l : List Server) (r : Bool) → IsAllAdjacentAnswer (λ x y b. b ≡ follows x y) l r → r ≡ rises l
rise-answer l true h = all-rise l (λ k d g. simp add-one at (h k d (omega arith)))
rise-answer l false h = some-fall l h.0 (let g = h.1 in omega arith) (λ d. simp add-one at (h.2 d))
