-- What adding a server and opening a channel answer. Assumes nothing.
use Rattle.std.specs.Prelude.{Ok, Err}
use mathlib.Core.Bool.{true, false, not, ◌&&◌}
use mathlib.Core.Path.{◌≡◌, sym, ap, ◌∙◌}
use mathlib.Core.List.{List, [], ◌∷◌}
use Prim.Native.Nat.{ℕ, ◌*◌, ◌<◌, ◌≤◌}
use native.Mathlib.Omega.{arith}
use borrow.Author.Tests.{eq-eqb, ne_eqb, lt-ltb, le-ltb, le-leb, lt-leb, leb-true}
use lib.Dec.{eqb, leb}
use lib.ListN.{replicate}
use Rattle.lists.specs.Choice.{choose}
use Rattle.lists.proofs.Cases.{chosen, other, and_true, and_left, and_right, fst_true, snd_true, not_so}
use Rattle.refusal.specs.declared.Refusal.{Refusal}
use Rattle.refusal.specs.declared.Refusal.TheVariants.{Number}
use Rattle.refusal.specs.Answer.{Answer, accepted, refused, number_of}
use Rattle.refusal.proofs.Answers.{number-some, took, declined}
use Rattle.server.specs.declared.Server.{Server}
use Rattle.periods.specs.declared.Period.{Period}
use Rattle.server.specs.Server.{idle}
use Rattle.periods.specs.Period.{take_period}
use Rattle.group.specs.declared.Table.{Table}
use Rattle.group.specs.declared.State.{State}
use Rattle.group.specs.declared.Added.{Added}
use Rattle.group.specs.declared.Opened.{Opened}
use Rattle.group.specs.Table.{most, empty, counted, place_in, enter, is_table, table_with, add_refusal, added, fresh_refusal, fresh}
use Rattle.group.specs.Answers.{Adds, Takes, no_channel, Opens}
use Rattle.group.proofs.Made.{fresh_has_its_table}
use Rattle.group.proofs.Laws.{laws}

-- a number that is not 0 refuses
not_zero : (k : Refusal) {n : ℕ} → n ≡ number_of k → eqb n 0 ≡ false
not_zero k {n} e = ne_eqb n 0 (λ z. omega (arith, number-some k))

-- ---- the period

pub period-known : {n : ℕ} → 2 ≤ n → n ≤ 250 → (take_period n).number ≡ 0
unfolding take_period
period-known {n} h g = ap (λ (a : Answer). a.number) (chosen (refused 2) (and_true (le-leb 2 n h) (le-leb n 250 g)))

pub period-is : (n : ℕ) {p : Period} → accepted (p.frames ∷ []) ≡ take_period n → (p.frames ≡ n) × ((2 ≤ p.frames) × (p.frames ≤ 250))
unfolding take_period
period-is n {p} e =
    let q = took _ n 2 (sym e) in
    let same : n ≡ p.frames = q.1 in
    let low : 2 ≤ n = leb-true 2 n (fst_true _ _ q.0) in
    let high : n ≤ 250 = leb-true n 250 (snd_true (leb 2 n) _ q.0) in
    (sym same, (omega arith, omega arith))

pub period-not : (n : ℕ) {k : ℕ} → refused k ≡ take_period n → k ≡ 2
unfolding take_period
period-not n e = sym (declined _ n 2 (sym e)).1

-- ---- the fresh channel

module _ (t : Table) (n : ℕ) where
  pub opens_not : (k : Refusal) {r : Opened} → fresh_refusal t n ≡ number_of k → r ≡ record { verdict = Err k; state = no_channel } → Opens t n r
  opens_not k e q = rw q (record { number = sym e; state = sym (other _ (not_zero k e)); laws = laws })

  -- 2
  pub badly : {k : ℕ} → refused k ≡ take_period n → fresh_refusal t n ≡ k
  unfolding fresh_refusal
  badly {k} e =
      let two : k ≡ 2 = period-not n e in
      let number : (take_period n).number ≡ k = ap (λ (a : Answer). a.number) (sym e) in
      other _ (and_right (is_table t.servers) (ne_eqb (take_period n).number 0 (λ z. omega arith))) ∙ sym two

  pub no_table : is_table t.servers ≡ false → fresh_refusal t n ≡ 2
  unfolding fresh_refusal
  no_table e = other _ (and_left _ e)

  module _ (low : 2 ≤ n) (high : n ≤ 250) (made : is_table t.servers ≡ true) where
    ranged : fresh_refusal t n ≡ choose (eqb (counted t.servers) 0) 6 (choose (lib.Dec.ltb n (counted t.servers)) 7 0)
    unfolding fresh_refusal
    ranged = chosen _ (and_true made (eq-eqb _ 0 (period-known low high)))

    -- 6, 7, or none
    pub nobody : counted t.servers ≡ 0 → fresh_refusal t n ≡ 6
    nobody e = ranged ∙ chosen _ (eq-eqb _ 0 e)

    pub too_many : (counted t.servers ≡ 0 → ⊥) → n < counted t.servers → fresh_refusal t n ≡ 7
    too_many e h = ranged ∙ other _ (ne_eqb _ 0 e) ∙ chosen _ (lt-ltb _ _ h)

    pub enough : (counted t.servers ≡ 0 → ⊥) → counted t.servers ≤ n → fresh_refusal t n ≡ 0
    enough e h = ranged ∙ other _ (ne_eqb _ 0 e) ∙ other _ (le-ltb _ _ h)

  -- the servers of a table are as a fresh channel has them
  pub opens :
      {x : State} → fresh_refusal t n ≡ 0 → x ≡ record { frame = 0; period = record { frames = n }; servers = t.servers; whole = replicate (most * most) true } →
      Opens t n (record { verdict = (Ok tt); state = x })
  opens e q =
      record {
        number = sym e;
        state =
            q
            ∙ ap (λ (l : List Server). record { frame = 0; period = record { frames = n }; servers = l; whole = replicate (most * most) true }) (sym (fresh_has_its_table t n e).1)
            ∙ sym (chosen _ (eq-eqb _ 0 e));
        laws = laws;
      }

-- ---- the table of some servers

module _ (l : List Server) where
  pub takes : is_table l ≡ true → Takes l (record { verdict = (Ok tt); table = record { servers = l } })
  unfolding table_with
  takes e = record { number = sym (chosen _ e); table = sym (chosen _ e) }

  pub takes-not : {t : Table} {r : Added} → is_table l ≡ false → t ≡ empty → r ≡ record { verdict = Err Number; table = t } → Takes l r
  unfolding table_with
  takes-not e q o = rw (o, q) (record { number = sym (other _ e); table = sym (other _ e) })

-- ---- a server added

module _ (t : Table) (i p : ℕ) where
  pub adds-not : (k : Refusal) {r : Added} → add_refusal t i ≡ number_of k → r ≡ record { verdict = Err k; table = t } → Adds t i p r
  unfolding added
  adds-not k e q = rw q (record { number = sym e; table = sym (other _ (not_zero k e)) })

  -- 2, 5, 6, or none
  pub not_to_add : (is_table t.servers && not (eqb i 0)) ≡ false → add_refusal t i ≡ 2
  unfolding add_refusal
  not_to_add e = other _ e

  module _ (may : (is_table t.servers && not (eqb i 0)) ≡ true) where
    pub has-identity : eqb i 0 ≡ false
    has-identity = not_so _ (snd_true (is_table t.servers) _ may)

    pub is-taken : place_in t.servers i < most → add_refusal t i ≡ 5
    unfolding add_refusal
    is-taken h = chosen _ may ∙ chosen _ (lt-ltb _ _ h)

    pub is-full : most ≤ place_in t.servers i → most ≤ counted t.servers → add_refusal t i ≡ 6
    unfolding add_refusal
    is-full h g = chosen _ may ∙ other _ (le-ltb _ _ h) ∙ chosen _ (le-leb _ _ g)

    pub is-new : most ≤ place_in t.servers i → counted t.servers < most → add_refusal t i ≡ 0
    unfolding add_refusal
    is-new h g = chosen _ may ∙ other _ (le-ltb _ _ h) ∙ other _ (lt-leb _ _ g)

  pub adds :
      {s : Server} {r : Added} → add_refusal t i ≡ 0 → s ≡ idle i p → r ≡ record { verdict = (Ok tt); table = record { servers = enter s t.servers } } →
      Adds t i p r
  unfolding added
  adds e q o =
      rw (o, q)
      (record { number = sym e; table = sym (chosen _ (eq-eqb _ 0 e)) })
