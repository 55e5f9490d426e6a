-- No more servers are added than a table has places for. Assumes nothing.
use mathlib.Core.Bool.{Bool, true, false, not, ◌||◌}
use mathlib.Core.Path.{◌≡◌, refl, sym, ap, ap₂, ◌∙◌}
use mathlib.Core.List.{List, [], ◌∷◌}
use Prim.Native.Nat.{ℕ, suc, ◌+◌, ◌<◌, ◌≤◌}
use native.Mathlib.Omega.{arith}
use borrow.Author.Tests.{eq-eqb, ne_eqb, eqb-true, leb-false}
use lib.Dec.{ltb, leb}
use lib.ListN.{length}
use Rattle.lists.specs.Choice.{choose}
use Rattle.lists.proofs.Cases.{tested, chosen, other, not_first, and_true, on}
use Rattle.server.specs.declared.Server.{Server}
use Rattle.server.specs.Server.{idle}
use Rattle.group.specs.declared.Table.{Table}
use Rattle.group.specs.Table.{most, is_empty, counted, is_in, stands_before, enter, is_table, add_refusal, added}
use Rattle.group.proofs.Made.{Every, none, more, every_map, Rising, After, is-neat, to-table, table-added}
use Rattle.wiring.specs.Days as days
use Rattle.wiring.specs.Days.{AddsAll}

-- a place without a server
abbrev Empty : Server → Type 0
Empty s = s.identity ≡ 0

counted-some : (s : Server) (l : List Server) → is_empty s ≡ false → counted (s ∷ l) ≡ suc (counted l)
counted-some s l e = other (counted l) e

counted-empty : (s : Server) (l : List Server) → is_empty s ≡ true → counted (s ∷ l) ≡ counted l
counted-empty s l e = chosen (suc (counted l)) e

counted-all : (l : List Server) → counted l ≤ length l
counted-all [] = omega arith
counted-all (s ∷ l) =
    let h = counted-all l in
    on (tested (is_empty s)) (λ e. omega (arith, counted-empty s l e, h)) (λ e. omega (arith, counted-some s l e, h))

enter-before : (n s : Server) (l : List Server) → stands_before n s ≡ true → enter n (s ∷ l) ≡ n ∷ enter s l
unfolding enter
enter-before n s l e = ap₂ (λ (x y : Server). x ∷ enter y l) (chosen s e) (chosen n e)

enter_behind : (n s : Server) (l : List Server) → stands_before n s ≡ false → enter n (s ∷ l) ≡ s ∷ enter n l
unfolding enter
enter_behind n s l e = ap₂ (λ (x y : Server). x ∷ enter y l) (other n e) (other s e)

before-empty : (n s : Server) → Empty s → stands_before n s ≡ true
unfolding stands_before
before-empty n s z = ap (λ (t : Bool). t || ltb n.identity s.identity) (eq-eqb s.identity 0 z)

-- among empty places there is none, also after one more is put to them
none-counted : (l : List Server) → Every Empty l → counted l ≡ 0
none-counted [] none = refl
none-counted (s ∷ l) (more z h) = counted-empty s l (eq-eqb s.identity 0 z) ∙ none-counted l h

none-entered : (n : Server) (l : List Server) → Empty n → Every Empty l → counted (enter n l) ≡ 0
unfolding enter
none-entered n [] z none = refl
none-entered n (s ∷ l) z (more y h) =
    ap counted (enter-before n s l (before-empty n s y)) ∙ counted-empty n (enter s l) (eq-eqb n.identity 0 z) ∙ none-entered s l y h

-- behind an empty place there are only empty ones
empty-behind : (s x : Server) → Empty s → After s x → Empty x
unfolding After
empty-behind s x z a = on a (λ e. e) (λ r. absurd (r.0 z))

-- a server that finds a place makes one more
one_more_lem : (n : Server) (l : List Server) → Rising l → is_empty n ≡ false → counted l < length l → counted (enter n l) ≡ suc (counted l)
one_more_lem n [] none e room = absurd (omega (arith, room))
one_more_lem n (s ∷ l) (more a r) e room =
    on (tested (is_empty s))
    (λ q.
    let z = eqb-true s.identity 0 q in
    let h = every_map (λ x. empty-behind s x z) a in
    ap counted (enter-before n s l (before-empty n s z))
    ∙ counted-some n (enter s l) e
    ∙ ap suc (none-entered s l z h ∙ sym (counted-empty s l q ∙ none-counted l h)))
    (λ q.
    let room' : counted l < length l = omega (arith, room, counted-some s l q) in
    on (tested (stands_before n s))
    (λ b. ap counted (enter-before n s l b) ∙ counted-some n (enter s l) e ∙ ap suc (one_more_lem s l r q room' ∙ sym (counted-some s l q)))
    (λ b. ap counted (enter_behind n s l b) ∙ counted-some s (enter n l) q ∙ ap suc (one_more_lem n l r e room' ∙ sym (counted-some s l q))))

-- a server is added where a place is left
place-left : (t : Table) (i : ℕ) → add_refusal t i ≡ 0 → counted t.servers < most
unfolding add_refusal
place-left t i e =
    let d = to-table t i e in
    let b = and_true d.0 (ap not (ne_eqb i 0 d.1)) in
    let first = sym (chosen {a = choose (is_in t.servers i) 5 (choose (leb most (counted t.servers)) 6 0)} 2 b) ∙ e in
    let second = not_first (λ (k : ℕ). k ≡ 0) (is_in t.servers i) first (λ z. omega (arith, z)) in
    let third = not_first (λ (k : ℕ). k ≡ 0) (leb most (counted t.servers)) second.1 (λ z. omega (arith, z)) in
    leb-false most (counted t.servers) third.0

counted-added : (t : Table) (i p : ℕ) → add_refusal t i ≡ 0 → counted (added t i p).servers ≡ suc (counted t.servers)
unfolding added
counted-added t i p e =
    let d = to-table t i e in
    let n = is-neat t d.0 in
    ap (λ (u : Table). counted u.servers) (chosen t (eq-eqb (add_refusal t i) 0 e))
    ∙ one_more_lem (idle i p) t.servers n.rising (ne_eqb i 0 d.1) (omega (arith, place-left t i e, n.long))

pub few-added : (t u : Table) (ls : List (List ℕ)) → is_table t.servers ≡ true → AddsAll t ls u → length ls + counted t.servers ≤ most
few-added t u ls ok days.none = omega (arith, counted-all t.servers, (is-neat t ok).long)
few-added t u ls ok (days.next {i = i} {p = p} {ls = ls'} r e rest) =
    let h = few-added (added t i p) u ls' (table-added t i p e) rest in
    omega (arith, h, counted-added t i p e)
