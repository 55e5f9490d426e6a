-- A digit for each server. Assumes nothing.
use mathlib.Core.Bool.{true, false}
use mathlib.Core.Path.{◌≡◌, refl, sym, ap, ◌∙◌}
use mathlib.Core.Logic.{◌⊎◌, inl, inr}
use mathlib.Core.List.{List, [], ◌∷◌, ◌++◌, append_assoc, append-nil}
use Prim.Native.Nat.{ℕ, suc, ◌+◌, ◌<◌, ◌≤◌}
use native.Mathlib.Omega.{arith}
use native.Mathlib.Numerals.{add-one}
use lib.ListN.{length, take, drop, set, get_or, length-set, drop_of_length-le}
use lib.Seq.{drop-cons, take-suc-set, take-set-le}
use Rattle.lists.specs.Choice.{choose}
use Rattle.lists.proofs.Cases.{tested, chosen, other}
use Rattle.text.specs.Words.{bytes}
use Rattle.text.specs.Digits.{digits}
use Rattle.server.specs.declared.Server.{Server}
use Rattle.server.specs.Server.{absent}
use Rattle.roles.specs.Roles.{role_number}
use Rattle.group.specs.Table.{is_empty, counted}
use Rattle.cases.specs.Cases.{roles_in, Shows, two, counts, call_line}

-- the first n bytes show the first i places
pub record Showing (l : List Server) (d : List ℕ) (n i : ℕ) : Type 0 where
  pub long : length l ≡ 16
  pub room : length d ≡ 16
  pub within : i ≤ 16
  pub few : n ≤ i
  pub many : counted l ≡ n + counted (drop i l)
  pub so_far : take n d ++ roles_in (drop i l) ≡ roles_in l

module _ {l : List Server} where
  pub show_begin : {d : List ℕ} → length l ≡ 16 → length d ≡ 16 → Showing l d 0 0
  show_begin e f = record { long = e; room = f; within = omega arith; few = omega arith; many = omega arith; so_far = refl }

  pub show_turn :
      {d : List ℕ} {n i x k : ℕ} → Showing l d n i → i < 16 → x ≡ 48 + role_number (get_or l i absent).role → k ≡ choose (is_empty (get_or l i absent)) 0 1 →
      Showing l (set d n x) (n + k) (i + 1)
  show_turn {d} {n} {i} {x} {k} v h a e =
      by (tested (is_empty s))
    where
      s : Server
      s = get_or l i absent

      opened : drop i l ≡ s ∷ drop (suc i) l
      opened = drop-cons l i absent (omega (arith, v.long))

      none : is_empty s ≡ true → Showing l (set d n x) (n + k) (i + 1)
      none t =
          let zero : k ≡ 0 = e ∙ chosen _ t in
          let stays : n + 0 ≡ n = omega arith in
          let m : counted (drop i l) ≡ counted (drop (suc i) l) = ap counted opened ∙ chosen _ t in
          rw (zero, stays, add-one)
          (record {
            long = v.long;
            room = length-set d n x ∙ v.room;
            within = omega arith;
            few = omega (arith, v.few);
            many = omega (arith, v.many, m);
            so_far =
                ap (λ (y : List ℕ). y ++ roles_in (drop (suc i) l)) (take-set-le n d n x (omega arith))
                ∙ ap (λ (y : List ℕ). take n d ++ y) (sym (ap roles_in opened ∙ chosen _ t))
                ∙ v.so_far;
          })

      some : is_empty s ≡ false → Showing l (set d n x) (n + k) (i + 1)
      some t =
          let one : k ≡ 1 = e ∙ other _ t in
          let m : counted (drop i l) ≡ suc (counted (drop (suc i) l)) = ap counted opened ∙ other _ t in
          rw (one, add-one, add-one)
          (record {
            long = v.long;
            room = length-set d n x ∙ v.room;
            within = omega arith;
            few = omega (arith, v.few);
            many = omega (arith, v.many, m);
            so_far =
                ap (λ (y : List ℕ). y ++ roles_in (drop (suc i) l)) (take-suc-set d n x (omega (arith, v.few, v.room)))
                ∙ append_assoc (take n d) (x ∷ []) (roles_in (drop (suc i) l))
                ∙ ap (λ (y : ℕ). take n d ++ (y ∷ roles_in (drop (suc i) l))) a
                ∙ ap (λ (y : List ℕ). take n d ++ y) (sym (ap roles_in opened ∙ other _ t))
                ∙ v.so_far;
          })

      by : (is_empty s ≡ true) ⊎ (is_empty s ≡ false) → Showing l (set d n x) (n + k) (i + 1)
      by (inl t) = none t
      by (inr t) = some t

  pub show_end : {d : List ℕ} {n i : ℕ} → Showing l d n i → 16 ≤ i → Shows l (record { digits = d; count = n })
  show_end {d} {n} {i} v h =
      let all : drop i l ≡ [] = drop_of_length-le l (let g : length l ≤ i = omega (arith, v.long) in g) in
      record {
        few = omega (arith, v.few, v.within, v.room);
        many = omega (arith, v.many, ap counted all);
        digits = sym (append-nil (take n d)) ∙ ap (λ (y : List Server). take n d ++ roles_in y) (sym all) ∙ v.so_far;
      }

-- ---- the pieces of lines

pub two-pieces : (m n : ℕ) → (digits m ++ bytes "\t") ++ digits n ≡ two m n
two-pieces m n = append_assoc (digits m) (bytes "\t") (digits n)

pub counts-pieces : (n w k t : ℕ) → ((((two n w ++ bytes "\t") ++ digits k) ++ bytes "\t") ++ digits t) ++ bytes "\t" ≡ counts n w k t
counts-pieces n w k t = simp append_assoc refl

pub call-pieces : (n w k t : ℕ) (l : List Server) → (counts n w k t ++ roles_in l) ++ bytes "\n" ≡ call_line n w k t l
call-pieces n w k t l = append_assoc (counts n w k t) (roles_in l) (bytes "\n")
