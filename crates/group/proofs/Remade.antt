-- The servers of a table, added one after the other as they stand, make that table. Assumes
-- nothing.
use mathlib.Core.Bool.{Bool, true, false, not, ◌&&◌, ◌||◌}
use mathlib.Core.Path.{◌≡◌, refl, sym, ap, ap₂, subst, ◌∙◌}
use mathlib.Core.Logic.{◌⊎◌, inl, inr}
use mathlib.Core.List.{List, [], ◌∷◌, ◌++◌, map, append_assoc, append-nil}
use Prim.Native.Nat.{ℕ, zero, suc, ◌+◌, ◌<◌, ◌≤◌}
use native.Mathlib.Omega.{arith}
use borrow.Author.Tests.{eq-eqb, ne_eqb, le-ltb, lt-leb}
use lib.Dec.{ltb, leb, eqb}
use lib.ListN.{length, replicate, length-append, length-replicate}
use Rattle.lists.specs.Choice.{choose}
use Rattle.lists.specs.Lists.{index_where}
use Rattle.lists.proofs.Cases.{chosen, other, on, by_choice, and_true, and_right}
use Rattle.heartbeat.specs.declared.Rank.{Rank}
use Rattle.server.specs.declared.Server.{Server}
use Rattle.server.specs.Server.{absent, idle, rank_of}
use Rattle.group.specs.declared.Table.{Table}
use Rattle.group.specs.Table.{most, empty, is_empty, counted, named, place_in, is_in, stands_before, enter, is_table, add_refusal, added, with_servers, table_of}
use Rattle.group.specs.Laws.{AddingMakes}
use Rattle.group.proofs.Made.{Every, none, more, every_map, every-empty, After, Rising, rising-empty, New, Neat, neat-table, neat-is, is-neat, to-table}

-- the table of the servers d, and n empty places behind them
abbrev up_to : List Server → ℕ → Table
up_to d n = record { servers = d ++ replicate n absent }

-- ---- parts of lists

every_first : {P : Server → Type 0} (d l : List Server) → Every P (d ++ l) → Every P d
every_first [] l h = none
every_first (s ∷ d) l (more x h) = more x (every_first d l h)

every_rest : {P : Server → Type 0} (d l : List Server) → Every P (d ++ l) → Every P l
every_rest [] l h = h
every_rest (s ∷ d) l (more x h) = every_rest d l h

every_both_parts : {P : Server → Type 0} (d l : List Server) → Every P d → Every P l → Every P (d ++ l)
every_both_parts [] l none h = h
every_both_parts (s ∷ d) l (more x k) h = more x (every_both_parts d l k h)

first_of : {P : Server → Type 0} {s : Server} {l : List Server} → Every P (s ∷ l) → P s
first_of (more x h) = x

-- ---- rising lists

-- those before s in a rising list
before-one : (d : List Server) (s : Server) (l : List Server) → Rising (d ++ (s ∷ l)) → Every (λ x. After x s) d
before-one [] s l r = none
before-one (x ∷ d) s l (more a r) = more (first_of (every_rest d (s ∷ l) a)) (before-one d s l r)

rising-first : (d l : List Server) → Rising (d ++ l) → Rising d
rising-first [] l r = none
rising-first (s ∷ d) l (more a r) = more (every_first d l a) (rising-first d l r)

rising_then_empty : (d : List Server) (n : ℕ) → Rising d → Rising (d ++ replicate n absent)
unfolding After
rising_then_empty [] n none = rising-empty n
rising_then_empty (s ∷ d) n (more a r) = more (every_both_parts d (replicate n absent) a (every-empty n (after-empty s))) (rising_then_empty d n r)
  where
    after-empty : (s : Server) → After s absent
    after-empty s = inl refl

-- ---- a table of the first servers

neat-first : (d l : List Server) (n : ℕ) → Neat (record { servers = d ++ l }) → length l ≡ n → Neat (up_to d n)
unfolding New
neat-first d l n h e =
    record {
      long = length-append d (replicate n absent) ∙ ap (λ (k : ℕ). length d + k) (length-replicate n absent ∙ sym e) ∙ sym (length-append d l) ∙ h.long;
      new = every_both_parts d (replicate n absent) (every_first d l h.new) (every-empty n (inl refl));
      rising = rising_then_empty d n (rising-first d l h.rising);
    }

-- those of d all stand before the server s, which is none of them
Under : ℕ → Server → Type 0
Under i x = (x.identity ≡ 0 → ⊥) × (x.identity < i)

under_of : (i : ℕ) (s : Server) → s.identity ≡ i → (i ≡ 0 → ⊥) → (x : Server) → After x s → Under i x
unfolding After Under
under_of i s e z x a = on a (λ q. absurd (z (sym e ∙ q))) (λ r. (r.0, let h = r.1 in omega arith))

-- who enters behind servers of lesser identity and before empty places
enter-empty : (n : ℕ) → enter absent (replicate n absent) ≡ replicate n absent
unfolding enter stands_before choose
enter-empty zero = refl
enter-empty (suc n) = ap (λ (l : List Server). absent ∷ l) (enter-empty n)

before-empty : (i p : ℕ) → stands_before (idle i p) absent ≡ true
unfolding stands_before
before-empty i p = refl

behind-lesser : (i p : ℕ) (x : Server) → Under i x → stands_before (idle i p) x ≡ false
unfolding stands_before Under
behind-lesser i p x u =
    let h = u.1 in
    ap (λ (t : Bool). t || ltb i x.identity) (ne_eqb x.identity 0 u.0) ∙ le-ltb i x.identity (omega arith)

enter_behind :
    (i p : ℕ) (d : List Server) (n : ℕ) → Every (Under i) d → enter (idle i p) (d ++ replicate (suc n) absent) ≡ d ++ (idle i p ∷ replicate n absent)
unfolding enter Under
enter_behind i p [] n none = ap₂ (λ (a : Server) (l : List Server). a ∷ l) (chosen _ (before-empty i p)) (ap (λ (a : Server). enter a (replicate n absent)) (chosen _ (before-empty i p)) ∙ enter-empty n)
enter_behind i p (x ∷ d) n (more u h) =
    ap₂ (λ (a : Server) (l : List Server). a ∷ l) (other _ (behind-lesser i p x u))
    (ap (λ (a : Server). enter a (d ++ replicate (suc n) absent)) (other _ (behind-lesser i p x u)) ∙ enter_behind i p d n h)

-- none of them has the identity i, nor has an empty place
not-among : (i : ℕ) (d : List Server) (n : ℕ) → (i ≡ 0 → ⊥) → Every (Under i) d → index_where (named i) (d ++ replicate n absent) ≡ length (d ++ replicate n absent)
unfolding Under
not-among i [] zero z none = refl
not-among i [] (suc n) z none = other _ (and_right (not (eqb i 0)) (ne_eqb 0 i (λ e. z (sym e)))) ∙ ap suc (not-among i [] n z none)
not-among i (x ∷ d) n z (more u h) =
    let k = u.1 in
    other _ (and_right (not (eqb i 0)) (ne_eqb x.identity i (λ e. omega arith))) ∙ ap suc (not-among i d n z h)

counted-few : (d : List Server) (n : ℕ) → counted (d ++ replicate n absent) ≤ length d
unfolding choose
counted-few [] zero = omega arith
counted-few [] (suc n) = let h = counted-few [] n in omega (arith, h)
counted-few (s ∷ d) n =
    let h = counted-few d n in
    by_choice (λ (k : ℕ). k ≤ suc (length d)) (is_empty s) (λ e. omega (arith, h)) (λ e. omega (arith, h))

-- ---- one server more

-- an empty place adds nothing
adds-nobody : (t : Table) (p : ℕ) → added t 0 p ≡ t
unfolding added
adds-nobody t p = other _ (ne_eqb (add_refusal t 0) 0 (refuses t))
  where
    refuses : (t : Table) → add_refusal t 0 ≡ 0 → ⊥
    refuses t e = (to-table t 0 e).1 refl

adds_one :
    (i p : ℕ) (d : List Server) (n : ℕ) → Neat (up_to d (suc n)) → (i ≡ 0 → ⊥) → Every (Under i) d →
    added (up_to d (suc n)) i p ≡ record { servers = d ++ (idle i p ∷ replicate n absent) }
unfolding added add_refusal place_in
adds_one i p d n h z u =
    let l = d ++ replicate (suc n) absent in
    let long : length d + suc n ≡ most = sym (length-append d (replicate (suc n) absent) ∙ ap (λ (k : ℕ). length d + k) (length-replicate (suc n) absent)) ∙ h.long in
    let out : is_in l i ≡ false = le-ltb (place_in l i) most (omega (arith, not-among i d (suc n) z u, h.long)) in
    let few : leb most (counted l) ≡ false = lt-leb most (counted l) (omega (arith, counted-few d (suc n), long)) in
    let free : add_refusal (up_to d (suc n)) i ≡ 0 = chosen 2 (and_true (neat-is (up_to d (suc n)) h) (ap not (ne_eqb i 0 z))) ∙ other 5 out ∙ other 6 few in
    chosen _ (eq-eqb _ 0 free) ∙ ap (λ (m : List Server). record { servers = m }) (enter_behind i p d n u)

-- ---- all of them

longer : (d : List Server) (s : Server) (l : List Server) → (d ++ (s ∷ [])) ++ l ≡ d ++ (s ∷ l)
longer d s l = append_assoc d (s ∷ []) l

-- s, added to those before it
step :
    (d : List Server) (s : Server) (l : List Server) → Neat (record { servers = d ++ (s ∷ l) }) → New s →
    added (up_to d (suc (length l))) s.identity s.priority ≡ up_to (d ++ (s ∷ [])) (length l)
unfolding New
step d s l h x =
    let t = up_to d (suc (length l)) in
    let adds : (y : Server) → s ≡ y → added t y.identity y.priority ≡ record { servers = d ++ (y ∷ replicate (length l) absent) } → added t s.identity s.priority ≡ up_to (d ++ (s ∷ [])) (length l) =
    λ y e q.
    ap (λ (z : Server). added t z.identity z.priority) e ∙ q ∙ ap (λ (m : List Server). record { servers = m }) (sym (longer d y (replicate (length l) absent)))
    ∙ ap (λ (z : Server). up_to (d ++ (z ∷ [])) (length l)) (sym e)
    in
    on x
    (λ e. adds absent e (adds-nobody t 0))
    (λ r.
    let i = ap (λ (z : Server). z.identity) r.3 in
    adds (idle r.0 r.1) r.3
    (adds_one r.0 r.1 d (length l) (neat-first d (s ∷ l) (suc (length l)) h refl) r.2
    (every_map (under_of r.0 s i r.2) (before-one d s l h.rising))))

remade : (d l : List Server) → Neat (record { servers = d ++ l }) → with_servers (up_to d (length l)) (map rank_of l) ≡ record { servers = d ++ l }
unfolding with_servers
remade d [] h = refl
remade d (s ∷ l) h =
    let n = length l in
    let next = remade (d ++ (s ∷ [])) l (subst (λ (m : List Server). Neat (record { servers = m })) (sym (longer d s l)) h) in
    ap (λ (t : Table). with_servers t (map rank_of l)) (step d s l h (first_of (every_rest d (s ∷ l) h.new))) ∙ next ∙ ap (λ (m : List Server). record { servers = m }) (longer d s l)

pub adding-makes : AddingMakes
adding-makes =
    record {
      each = λ rs. neat-is (table_of rs) (neat-table rs);
      only = λ l e.
          let h = is-neat (record { servers = l }) e in
          record { ranks = map rank_of l; made = ap (λ (k : ℕ). with_servers (record { servers = replicate k absent }) (map rank_of l)) (sym h.long) ∙ remade [] l h };
    }
