-- Servers one after the other. Assumes nothing.
use mathlib.Core.Path.{◌≡◌, refl, sym, ap, ◌∙◌}
use mathlib.Core.List.{List, [], ◌∷◌, ◌++◌}
use Prim.Native.Nat.{ℕ, ◌%◌, ◌<◌}
use native.Mathlib.Omega.{arith}
use lib.ListN.{length, get_or}
use Rattle.group.specs.declared.Table.{Table}
use Rattle.group.specs.Table.{added}
use Rattle.bench.specs.Bench.{table_from}

-- no server is left
pub few : (t : Table) (l : List ℕ) → length l < 2 → table_from t l ≡ t
unfolding table_from
few t [] h = refl
few t (i ∷ []) h = refl
few t (i ∷ p ∷ l) h = absurd (omega arith)

-- the next server of the list is added to the table
by_two : (t : Table) {t' : Table} (x r : List ℕ) → length x ≡ 2 → t' ≡ added t (get_or x 0 0 % 65536) (get_or x 1 0 % 256) → table_from t' r ≡ table_from t (x ++ r)
unfolding table_from
by_two t [] r h is = absurd (omega arith)
by_two t (i ∷ []) r h is = absurd (omega arith)
by_two t (i ∷ p ∷ []) r h is = ap (λ (y : Table). table_from y r) is
by_two t (i ∷ p ∷ q ∷ s) r h is = absurd (omega arith)

pub list_turn : (t : Table) {t' : Table} {l : List ℕ} (x r : List ℕ) → l ≡ x ++ r → length x ≡ 2 → t' ≡ added t (get_or x 0 0 % 65536) (get_or x 1 0 % 256) → table_from t' r ≡ table_from t l
list_turn t x r e h is = by_two t x r h is ∙ sym (ap (table_from t) e)
