-- Tables made by adding servers: in rising identity, all idle. Assumes nothing.
use mathlib.Core.Bool.{Bool, true, false, not, ◌&&◌, ◌||◌}
use mathlib.Core.Path.{◌≡◌, refl, sym, ap, ap₂, subst, ◌∙◌}
use mathlib.Core.Logic.{◌⊎◌, inl, inr}
use mathlib.Core.List.{List, [], ◌∷◌, map}
use Prim.Native.Nat.{ℕ, zero, suc, ◌<◌, ◌≤◌}
use native.Mathlib.Omega.{arith}
use borrow.Author.Tests.{eq-eqb, ne_eqb, eqb-true, eqb-false, ltb-true, ltb-false, lt-ltb}
use lib.Dec.{ltb, leb, eqb}
use lib.ListN.{length, get_or, replicate, length-replicate}
use Rattle.lists.specs.Choice.{choose}
use Rattle.lists.specs.Lists.{every, index_where}
use Rattle.lists.proofs.Cases.{tested, less, equal, chosen, other, on, by_choice, not_first, clash, and_true, and_right, fst_true, snd_true, or-true, or_false}
use Rattle.heartbeat.specs.declared.Rank.{Rank}
use Rattle.roles.specs.declared.Role.{Role}
use Rattle.roles.specs.declared.Role.TheVariants.{Down}
use Rattle.server.specs.declared.Server.{Server}
use Rattle.server.specs.Server.{absent, idle}
use Rattle.periods.specs.Period.{take_period}
use Rattle.roles.specs.Roles.{role_number, in_role_of}
use Rattle.roles.proofs.Table.{roles, role-at}
use Rattle.group.specs.declared.Table.{Table}
use Rattle.group.specs.Table.{most, empty, is_empty, counted, named, place_in, is_in, stands_before, enter, anew, is_new, follows, rises, is_table, add_refusal, added, with_servers, table_of, fresh_refusal}
use Rattle.group.specs.Laws.{server_at, TablesInOrder, FreshHasItsTable}

-- of every server of a list
pub data Every (P : Server → Type 0) : List Server → Type 0 where
  none : Every P []
  more : {s : Server} {l : List Server} → P s → Every P l → Every P (s ∷ l)

pub every-at : {P : Server → Type 0} {l : List Server} → Every P l → P absent → (i : ℕ) → P (get_or l i absent)
every-at none d i = d
every-at (more x h) d zero = x
every-at (more x h) d (suc i) = every-at h d i

pub every_map : {P Q : Server → Type 0} {l : List Server} → ((s : Server) → P s → Q s) → Every P l → Every Q l
every_map f none = none
every_map f (more {s} x h) = more (f s x) (every_map f h)

every-both : {P Q R : Server → Type 0} {l : List Server} → ((s : Server) → P s → Q s → R s) → Every P l → Every Q l → Every R l
every-both f none none = none
every-both f (more {s} x h) (more y k) = more (f s x y) (every-both f h k)

-- whoever enters, the servers are those of before and the new one
every-enter : {P : Server → Type 0} (n : Server) (l : List Server) → P n → Every P l → Every P (enter n l)
unfolding enter
every-enter n [] x none = none
every-enter {P} n (s ∷ l) x (more y h) =
    more (by_choice P (stands_before n s) (λ _. x) (λ _. y))
    (every-enter (choose (stands_before n s) s n) l (by_choice P (stands_before n s) (λ _. y) (λ _. x)) h)

-- ---- rising identities

-- x may stand after s: x is an empty place, or both have servers, of rising identity
unfoldable pub After : Server → Server → Type 0
After s x = (x.identity ≡ 0) ⊎ ((s.identity ≡ 0 → ⊥) × (s.identity < x.identity))

pub data Rising : List Server → Type 0 where
  none : Rising []
  more : {s : Server} {l : List Server} → Every (After s) l → Rising l → Rising (s ∷ l)

-- n is not in the list; if n is an empty place, the list is of empty places
pub Apart : Server → Server → Type 0
Apart n x = (x.identity ≡ 0) ⊎ ((n.identity ≡ 0 → ⊥) × (x.identity ≡ n.identity → ⊥))

before : (n s : Server) → stands_before n s ≡ true → (s.identity ≡ 0) ⊎ (n.identity < s.identity)
unfolding stands_before
before n s e =
    on (or-true (eqb s.identity 0) (ltb n.identity s.identity) e)
    (λ q. inl (eqb-true s.identity 0 q))
    (λ q. inr (ltb-true n.identity s.identity q))

behind : (n s : Server) → stands_before n s ≡ false → (s.identity ≡ 0 → ⊥) × (s.identity ≤ n.identity)
unfolding stands_before
behind n s e =
    let r = or_false (eqb s.identity 0) (ltb n.identity s.identity) e in
    (eqb-false s.identity 0 r.0, ltb-false n.identity s.identity r.1)

-- the one that stood after n's place stands after n
after-new : (n s x : Server) → stands_before n s ≡ true → After s x → Apart n x → After n x
unfolding After Apart
after-new n s x e a d =
    on a
    (λ z. inl z)
    (λ r. on d (λ z. inl z) (λ q. on (before n s e) (λ z. absurd (r.0 z)) (λ l. inr (q.0, omega (arith, l, r.1)))))

first-new : (n s : Server) → stands_before n s ≡ true → Apart n s → After n s
unfolding After Apart
first-new n s e d = on d (λ z. inl z) (λ q. on (before n s e) (λ z. inl z) (λ l. inr (q.0, l)))

after_old : (n s : Server) → stands_before n s ≡ false → Apart n s → After s n
unfolding After Apart
after_old n s e d =
    let r = behind n s e in
    on d (λ z. absurd (r.0 z)) (λ q. let m = r.1 in let o = q.1 in inr (r.0, omega (arith, m, below s.identity n.identity m o)))
  where
    below : (a b : ℕ) → a ≤ b → (a ≡ b → ⊥) → a < b
    below a b l d = on (less a b) (λ h. h) (λ h. absurd (d (omega arith)))

-- whoever stands after s is not s
after-apart : (s x : Server) → After s x → Apart s x
unfolding After Apart
after-apart s x a = on a (λ z. inl z) (λ r. inr (r.0, λ e. let l = r.1 in omega arith))

pub rising-enter : (n : Server) (l : List Server) → Rising l → Every (Apart n) l → Rising (enter n l)
unfolding enter choose
rising-enter n [] none none = none
rising-enter n (s ∷ l) (more a r) (more d h) =
    on (tested (stands_before n s))
    (λ e.
    rw e (more (every-enter s l (first-new n s e d) (every-both (λ x. after-new n s x e) a h)) (rising-enter s l r (every_map (after-apart s) a))))
    (λ e.
    rw e (more (every-enter n l (after_old n s e d) a) (rising-enter n l r h)))

-- two places of a rising list have different identities
pub rising-apart :
    (l : List Server) → Rising l → (i j : ℕ) → i < length l → j < length l → (i ≡ j → ⊥) → ((get_or l i absent).identity ≡ 0 → ⊥) →
    (get_or l i absent).identity ≡ (get_or l j absent).identity → ⊥
unfolding After
rising-apart [] none i j h k d z e = omega arith
rising-apart (s ∷ l) (more a r) zero zero h k d z e = d refl
rising-apart (s ∷ l) (more a r) zero (suc j) h k d z e =
    on (every-at a (inl refl) j) (λ q. z (e ∙ q)) (λ q. let m = q.1 in omega arith)
rising-apart (s ∷ l) (more a r) (suc i) zero h k d z e =
    on (every-at a (inl refl) i) (λ q. z q) (λ q. let m = q.1 in omega arith)
rising-apart (s ∷ l) (more a r) (suc i) (suc j) h k d z e =
    rising-apart l r i j (omega arith) (omega arith) (λ q. d (ap suc q)) z e

-- ---- tables

-- a server of a table: an empty place, or idle
unfoldable pub New : Server → Type 0
New s = (s ≡ absent) ⊎ ((i : ℕ) × (p : ℕ) × (i ≡ 0 → ⊥) × (s ≡ idle i p))

pub record Neat (t : Table) : Type 0 where
  pub long : length t.servers ≡ 16
  pub new : Every New t.servers
  pub rising : Rising t.servers

pub every-empty : (n : ℕ) {P : Server → Type 0} → P absent → Every P (replicate n absent)
every-empty zero d = none
every-empty (suc n) d = more d (every-empty n d)

pub rising-empty : (n : ℕ) → Rising (replicate n absent)
unfolding After
rising-empty zero = none
rising-empty (suc n) = more (every-empty n (inl refl)) (rising-empty n)

pub neat-empty : Neat empty
unfolding New
neat-empty = record { long = length-replicate most absent; new = every-empty most (inl refl); rising = rising-empty most }

pub length-enter : (n : Server) (l : List Server) → length (enter n l) ≡ length l
unfolding enter
length-enter n [] = refl
length-enter n (s ∷ l) = ap suc (length-enter (choose (stands_before n s) s n) l)

-- an identity that is looked up in vain is that of none
not_found : (i : ℕ) (l : List Server) → (i ≡ 0 → ⊥) → length l ≤ index_where (named i) l → Every (λ s. s.identity ≡ i → ⊥) l
unfolding choose
not_found i [] d h = none
not_found i (s ∷ l) d h =
    on (equal s.identity i)
    (λ e.
    let z = chosen {t = named i s} {a = 0} (suc (index_where (named i) l)) (and_true (ap not (ne_eqb i 0 d)) (eq-eqb s.identity i e)) in
    absurd (omega arith))
    (λ e.
    let z = other {t = named i s} {b = suc (index_where (named i) l)} 0 (and_right (not (eqb i 0)) (ne_eqb s.identity i e)) in
    more e (not_found i l d (omega arith)))

-- what may be added to is a table
pub to-table : (t : Table) (i : ℕ) → add_refusal t i ≡ 0 → (is_table t.servers ≡ true) × (i ≡ 0 → ⊥)
unfolding add_refusal
to-table t i e =
    on (tested (is_table t.servers && not (eqb i 0)))
    (λ h. (fst_true _ (not (eqb i 0)) h, λ z. clash (snd_true (is_table t.servers) _ h) (ap not (eq-eqb i 0 z))))
    (λ h. absurd (omega (arith, sym (other {b = 2} _ h) ∙ e)))

-- a server that may be added has an identity, and none has the same
may_add : (t : Table) (i : ℕ) → Neat t → add_refusal t i ≡ 0 → (i ≡ 0 → ⊥) × Every (λ s. s.identity ≡ i → ⊥) t.servers
unfolding add_refusal place_in
may_add t i n e =
    let d = (to-table t i e).1 in
    let b₀ = and_true (to-table t i e).0 (ap not (ne_eqb i 0 d)) in
    let first = sym (chosen {a = choose (is_in t.servers i) 5 (choose (leb most (counted t.servers)) 6 0)} 2 b₀) ∙ e in
    let b = not_first (λ (k : ℕ). k ≡ 0) (is_in t.servers i) first (λ z. omega arith) in
    let l = ltb-false (index_where (named i) t.servers) most b.0 in
    let g = n.long in
    (d, not_found i t.servers d (omega arith))

neat-enter : (t : Table) (i p : ℕ) → Neat t → add_refusal t i ≡ 0 → Neat (record { servers = enter (idle i p) t.servers })
unfolding New Apart
neat-enter t i p n e =
    let m = may_add t i n e in
    record {
      long = length-enter (idle i p) t.servers ∙ n.long;
      new = every-enter (idle i p) t.servers (inr (i, p, m.0, refl)) n.new;
      rising = rising-enter (idle i p) t.servers n.rising (every_map (λ s d. inr (m.0, d)) m.1);
    }

pub neat-added : (t : Table) (i p : ℕ) → Neat t → Neat (added t i p)
unfolding added
neat-added t i p n =
    on (equal (add_refusal t i) 0)
    (λ e.
    subst Neat (sym (chosen {a = record { servers = enter (idle i p) t.servers }} t (eq-eqb (add_refusal t i) 0 e))) (neat-enter t i p n e))
    (λ e. subst Neat (sym (other {b = t} (record { servers = enter (idle i p) t.servers }) (ne_eqb (add_refusal t i) 0 e))) n)

pub neat_with : (t : Table) (rs : List Rank) → Neat t → Neat (with_servers t rs)
unfolding with_servers
neat_with t [] n = n
neat_with t (r ∷ rs) n = neat_with (added t r.identity r.priority) rs (neat-added t r.identity r.priority n)

pub neat-table : (rs : List Rank) → Neat (table_of rs)
neat-table rs = neat_with empty rs neat-empty

-- ---- the law

above_zero : (n : ℕ) → (n ≡ 0 → ⊥) → 0 < n
above_zero n h = on (less 0 n) (λ l. l) (λ l. absurd (h (omega arith)))

-- whoever stands before a server in a rising list is a server of lesser identity
rising-at :
    (l : List Server) → Rising l → (i j : ℕ) → i < j → j < length l → 0 < (get_or l j absent).identity →
    (0 < (get_or l i absent).identity) × ((get_or l i absent).identity < (get_or l j absent).identity)
unfolding After
rising-at [] none i j b h z = absurd (omega arith)
rising-at (s ∷ l) (more a r) zero zero b h z = absurd (omega arith)
rising-at (s ∷ l) (more a r) zero (suc j) b h z =
    on (every-at a (inl refl) j) (λ q. absurd (omega (arith, q))) (λ q. (above_zero s.identity q.0, q.1))
rising-at (s ∷ l) (more a r) (suc i) zero b h z = absurd (omega arith)
rising-at (s ∷ l) (more a r) (suc i) (suc j) b h z = rising-at l r i j (omega arith) (omega arith) z

pub anew-new : (s : Server) → New s → anew s ≡ s
unfolding New anew
anew-new s h =
    on h
    (λ e. chosen _ (eq-eqb s.identity 0 (ap (λ (x : Server). x.identity) e)) ∙ sym e)
    (λ r.
    let e = r.3 in
    let i = ap (λ (x : Server). x.identity) e in
    other _ (ne_eqb s.identity 0 (λ z. r.2 (sym i ∙ z))) ∙ ap₂ idle i (ap (λ (x : Server). x.priority) e) ∙ sym e)

-- ---- the test of a table says what it should

role-is : (a b : Role) → in_role_of a b ≡ true → a ≡ b
role-is a b e = sym (role-at a) ∙ ap (λ (n : ℕ). get_or roles n Down) (eqb-true (role_number a) (role_number b) e) ∙ role-at b

-- a server whose fields are those of one that is as it was added
new-fields :
    (s n : Server) → s.identity ≡ n.identity → s.priority ≡ n.priority → s.role ≡ n.role → s.silence ≡ n.silence → s.beat ≡ n.beat →
    s.prospect ≡ n.prospect → s.beats ≡ n.beats → s.reveal ≡ n.reveal → s.pass ≡ n.pass → s ≡ n
new-fields s n a b c d e f g h i = rw (a, b, c, d, e, f, g, h, i)

-- tests that hold
three : (a b c : Bool) → (a && (b && c)) ≡ true → (a ≡ true) × (b ≡ true) × (c ≡ true)
three a b c q = (fst_true a (b && c) q, fst_true b c (snd_true a (b && c) q), snd_true b c (snd_true a (b && c) q))

is-new : (s : Server) → is_new s ≡ true → New s
unfolding is_new New anew
is-new s h =
    let unset = eqb s.silence 0 && (eqb s.beat 0 && eqb s.prospect 0) in
    let unsent = eqb s.beats 0 && (not s.reveal && eqb s.pass 0) in
    let f = three (in_role_of s.role (anew s).role) (eqb s.priority (anew s).priority) (unset && unsent) h in
    let g = three (eqb s.silence 0) (eqb s.beat 0) (eqb s.prospect 0) (fst_true unset unsent f.2) in
    let k = three (eqb s.beats 0) (not s.reveal) (eqb s.pass 0) (snd_true unset unsent f.2) in
    let same : (n : Server) → anew s ≡ n → s.identity ≡ n.identity → n.silence ≡ 0 → n.beat ≡ 0 → n.prospect ≡ 0 → n.beats ≡ 0 → n.reveal ≡ false → n.pass ≡ 0 → s ≡ n =
    λ n q i a b c d e m.
    new-fields s n i (eqb-true _ _ f.1 ∙ ap (λ (x : Server). x.priority) q) (role-is _ _ f.0 ∙ ap (λ (x : Server). x.role) q) (eqb-true _ _ g.0 ∙ sym a)
    (eqb-true _ _ g.1 ∙ sym b) (eqb-true _ _ g.2 ∙ sym c) (eqb-true _ _ k.0 ∙ sym d) (fails s.reveal k.1 ∙ sym e) (eqb-true _ _ k.2 ∙ sym m)
    in
    on (equal s.identity 0)
    (λ z. inl (same absent (chosen _ (eq-eqb _ 0 z)) z refl refl refl refl refl refl))
    (λ z. inr (s.identity, s.priority, z, same (idle s.identity s.priority) (other _ (ne_eqb _ 0 z)) refl refl refl refl refl refl refl))
  where
    fails : (t : Bool) → not t ≡ true → t ≡ false
    fails true e = sym e
    fails false e = refl

nobody-new : is_new absent ≡ true
unfolding is_new anew choose
nobody-new = refl

idle-new : (i p : ℕ) → (i ≡ 0 → ⊥) → is_new (idle i p) ≡ true
unfolding is_new anew
idle-new i p d =
    let n : anew (idle i p) ≡ idle i p = other _ (ne_eqb i 0 d) in
    and_true (ap (λ (x : Server). in_role_of (idle i p).role x.role) n) (and_true (eq-eqb p _ (sym (ap (λ (x : Server). x.priority) n))) refl)

new_is : (s : Server) → New s → is_new s ≡ true
unfolding New
new_is s h = on h (λ e. ap is_new e ∙ nobody-new) (λ r. ap is_new r.3 ∙ idle-new r.0 r.1 r.2)

all_new : (l : List Server) → every is_new l ≡ true → Every New l
all_new [] h = none
all_new (s ∷ l) h = more (is-new s (fst_true _ _ h)) (all_new l (snd_true (is_new s) _ h))

new-all : (l : List Server) → Every New l → every is_new l ≡ true
new-all [] none = refl
new-all (s ∷ l) (more x h) = and_true (new_is s x) (new-all l h)

-- who may stand after s
may_follow : (s x : Server) → follows s x ≡ true → After s x
unfolding follows After
may_follow s x e =
    on (or-true (is_empty x) _ e)
    (λ z. inl (eqb-true x.identity 0 z))
    (λ h. inr (λ z. clash (fst_true _ _ h) (ap not (eq-eqb s.identity 0 z)), ltb-true s.identity x.identity (snd_true (not (is_empty s)) _ h)))

follows_may : (s x : Server) → After s x → follows s x ≡ true
unfolding follows After
follows_may s x a =
    on a
    (λ z. ap (λ (t : Bool). t || (not (is_empty s) && ltb s.identity x.identity)) (eq-eqb x.identity 0 z))
    (λ r. or_second (is_empty x) (and_true (ap not (ne_eqb s.identity 0 r.0)) (lt-ltb s.identity x.identity r.1)))
  where
    or_second : (a : Bool) {b : Bool} → b ≡ true → (a || b) ≡ true
    or_second true e = refl
    or_second false e = e

-- whoever may stand after x, which may stand after s, may stand after s
after-after : (s x y : Server) → After s x → After x y → After s y
unfolding After
after-after s x y a b =
    on b (λ z. inl z) (λ q. on a (λ z. absurd (q.0 z)) (λ r. inr (r.0, let h = r.1 in let k = q.1 in omega arith)))

all-rise : (l : List Server) → rises l ≡ true → Rising l
unfolding rises
all-rise [] h = none
all-rise (s ∷ []) h = more none none
all-rise (s ∷ x ∷ l) h =
    let a = may_follow s x (fst_true _ _ h) in
    let r = all-rise (x ∷ l) (snd_true (follows s x) _ h) in
    more (behind-first s x a r) r
  where
    behind-first : (s x : Server) {l : List Server} → After s x → Rising (x ∷ l) → Every (After s) (x ∷ l)
    behind-first s x a (more b r) = more a (every_map (λ y. after-after s x y a) b)

rise-all : (l : List Server) → Rising l → rises l ≡ true
unfolding rises
rise-all [] none = refl
rise-all (s ∷ []) (more a r) = refl
rise-all (s ∷ x ∷ l) (more (more a b) r) = and_true (follows_may s x a) (rise-all (x ∷ l) r)

pub neat-is : (t : Table) → Neat t → is_table t.servers ≡ true
unfolding is_table
neat-is t n = and_true (eq-eqb _ most n.long) (and_true (new-all t.servers n.new) (rise-all t.servers n.rising))

pub is-neat : (t : Table) → is_table t.servers ≡ true → Neat t
unfolding is_table
is-neat t h =
    let g = snd_true (eqb (length t.servers) most) _ h in
    record { long = eqb-true _ most (fst_true _ _ h); new = all_new t.servers (fst_true _ _ g); rising = all-rise t.servers (snd_true (every is_new t.servers) _ g) }

-- tables that calls make

pub table_empty : is_table empty.servers ≡ true
table_empty = neat-is empty neat-empty

pub table-added : (t : Table) (i p : ℕ) → add_refusal t i ≡ 0 → is_table (added t i p).servers ≡ true
table-added t i p e = neat-is (added t i p) (neat-added t i p (is-neat t (to-table t i e).0))

-- ---- a fresh channel has the servers of its table

pub anew-all : (l : List Server) → Every New l → map anew l ≡ l
anew-all [] none = refl
anew-all (s ∷ l) (more x h) = ap₂ (λ (y : Server) (m : List Server). y ∷ m) (anew-new s x) (anew-all l h)

pub same-servers : (l : List Server) → is_table l ≡ true → map anew l ≡ l
same-servers l h = anew-all l (is-neat (record { servers = l }) h).new

pub table-opened : (t : Table) (n : ℕ) → fresh_refusal t n ≡ 0 → is_table t.servers ≡ true
unfolding fresh_refusal
table-opened t n e =
    on (tested (is_table t.servers && eqb (take_period n).number 0))
    (λ h. fst_true _ (eqb (take_period n).number 0) h)
    (λ h. absurd (omega (arith, sym (other {b = 2} _ h) ∙ e)))

pub fresh_has_its_table : FreshHasItsTable
fresh_has_its_table t n e = let h = table-opened t n e in (h, same-servers t.servers h)

pub tables_in_order : TablesInOrder
unfolding New
tables_in_order rs =
    let n = neat-table rs in
    record {
      places = n.long;
      rising = λ i j b h z. rising-at (table_of rs).servers n.rising i j b (omega (arith, n.long)) z;
      idles = λ i h. sym (anew-new (server_at (table_of rs) i) (every-at n.new (inl refl) i));
    }
