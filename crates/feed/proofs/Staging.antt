-- A feed by its stage, and what its functions make together. Assumes nothing.
use Rattle.std.specs.Prelude.{Result, Ok, Err}
use mathlib.Core.Bool.{Bool, true, false}
use mathlib.Core.Path.{◌≡◌, refl, sym, ap, subst, ◌∙◌}
use mathlib.Core.List.{List, [], ◌∷◌}
use Prim.Native.Nat.{ℕ, ◌≤◌}
use native.Mathlib.Omega.{arith}
use borrow.Author.Tests.{eq-eqb, ne_eqb, le-leb}
use lib.Dec.{eqb}
use lib.ListN.{get_or}
use Rattle.lists.proofs.Cases.{tested, equal, on, chosen, other, and_true, and_left}
use Rattle.refusal.specs.declared.Refusal.{Refusal}
use Rattle.refusal.specs.Answer.{Answer, accepted, of_verdict, number_of}
use Rattle.refusal.proofs.Answers.{number-some}
use Rattle.periods.specs.declared.Period.{Period}
use Rattle.server.specs.declared.Server.{Server}
use Rattle.roles.specs.declared.Verb.{Verb}
use Rattle.periods.specs.Period.{least_period, greatest_period, of_period, take_period}
use Rattle.group.specs.declared.State.{State}
use Rattle.group.specs.declared.Table.{Table}
use Rattle.group.specs.declared.Added.{Added}
use Rattle.group.specs.Table.{is_table, table_with, add_refusal, fresh}
use Rattle.group.specs.Answers.{Adds, Takes, Gives}
use Rattle.group.specs.Verbs.{verb_outcome}
use Rattle.group.proofs.Made.{table-added}
use Rattle.places.specs.Words.{servers_of, Canonical}
use Rattle.frame.specs.Answers.{state_of}
use Rattle.day.specs.Day.{Day, on as during, atServers, atEntries, table_of, add_effect, call_effect}
use Rattle.feeding.specs.Fed.{Fed}
use Rattle.feeding.specs.Moves.{Move, next_line, stopping, going, effect_move, place_refusal}
use Rattle.feeding.proofs.Calling.{writes-not, gives-written, gives-channel, gives_same, call-allowed, call-short, call-refused}
use Rattle.feed.specs.declared.Stage.{Stage}
use Rattle.feed.specs.declared.Stage.TheVariants.{AtPeriod, AtServers, AtEntries, AtClose}
use Rattle.feed.specs.declared.Feed.{Feed}
use Rattle.feed.specs.declared.Step.{Step}
use Rattle.feed.specs.Answers.{day_of, channel_of, fed_of}
use Rattle.feed.specs.Steps.{Made, MakesAll, turned, refusing, RefusesCall}
use Rattle.feed.proofs.Leaving.{not-refused, made-servers, made-entries, made_close, passes_same, passes-turned}
use Rattle.feed.proofs.Making.{makes-written, makes-refused, makes_as, does_as}

-- ---- stages

-- what holds of the day in its stage holds of the feed's day
module _ (x : Feed) {g : Stage} (e : x.stage ≡ g) where
  pub does_at :
      (l w : List ℕ) (k : List Bool) {d : List ℕ} {p : Result ℕ Refusal} {y : Feed} {w' : List ℕ} {k' : List Bool} {d' : List ℕ} (m : Day → Move) → MakesAll x l w k (m (day_of g (channel_of x w k))) d p y w' k' d' →
      MakesAll x l w k (m (fed_of x l w k).day) d p y w' k' d'
  does_at l w k m q = does_as (ap (λ (s : Stage). m (day_of s (channel_of x w k))) (sym e)) q

  pub place_at : (c : State) {n : ℕ} → n ≡ place_refusal (day_of g c).stage (day_of g c).channel → n ≡ place_refusal (day_of x.stage c).stage (day_of x.stage c).channel
  place_at c q = q ∙ ap (λ (s : Stage). place_refusal (day_of s c).stage (day_of s c).channel) (sym e)

-- where entries may come there is a channel
pub open_made : (g : Stage) (c : State) → place_refusal (day_of g c).stage (day_of g c).channel ≡ 0 → Made g
unfolding place_refusal
open_made AtPeriod c e = absurd (omega arith)
open_made AtServers c e = made-servers
open_made AtEntries c e = made-entries
open_made AtClose c e = made_close

pub open_channel : (g : Stage) (c : State) → place_refusal (day_of g c).stage (day_of g c).channel ≡ 0 → c ≡ (day_of g c).channel
unfolding place_refusal
open_channel AtPeriod c e = absurd (omega arith)
open_channel AtServers c e = refl
open_channel AtEntries c e = refl
open_channel AtClose c e = refl

-- ---- a period in its range

in_range_lem : {n : ℕ} → least_period ≤ n → n ≤ greatest_period → take_period n ≡ accepted (n ∷ [])
unfolding take_period
in_range_lem {n} lo hi = chosen _ (and_true (le-leb least_period n lo) (le-leb n greatest_period hi))

module _ {n : ℕ} (lo : least_period ≤ n) (hi : n ≤ greatest_period) (r : Result Period Refusal) (q : of_period r ≡ take_period n) where
  pub period-is : {p : Period} → r ≡ Ok p → p.frames ≡ n
  period-is e = ap (λ (a : Answer). get_or a.values 0 0) (sym (ap of_period e) ∙ q ∙ in_range_lem lo hi)

  pub period-taken : {k : Refusal} → r ≡ Err k → ⊥
  period-taken {k} e = let z : number_of k ≡ 0 = ap (λ (a : Answer). a.number) (sym (ap of_period e) ∙ q ∙ in_range_lem lo hi) in omega (arith, number-some k)

-- ---- the table of the servers so far

module _ {l : List Server} {r : Added} (q : Takes l r) where
  pub is-taken : r.verdict ≡ Ok tt → r.table ≡ record { servers = l }
  unfolding table_with
  is-taken v =
      on (tested (is_table l))
      (λ e. q.table ∙ chosen _ e)
      (λ e. absurd (omega (arith, sym (ap of_verdict v) ∙ q.number ∙ other 0 e)))

  pub not_taken : {k : Refusal} → r.verdict ≡ Err k → (is_table l ≡ false) × (number_of k ≡ 2)
  not_taken {k} v =
      on (tested (is_table l))
      (λ e. absurd (omega (arith, number-some k, sym (ap of_verdict v) ∙ q.number ∙ chosen 2 e)))
      (λ e. (e, sym (ap of_verdict v) ∙ q.number ∙ other 0 e))

-- ---- a server more

module _ (f : Fed) (c : State) (i p : ℕ) {s : List Server} (e : s ≡ c.servers) {r : Added} (q₀ : Adds (record { servers = s }) i p r) where
  q : Adds (table_of c) i p r
  q = subst (λ (l : List Server). Adds (record { servers = l }) i p r) e q₀

  pub add_so : r.verdict ≡ Ok tt → going f [] (during atServers (fresh r.table c.period.frames)) ≡ effect_move f (add_effect c i p)
  unfolding add_effect
  add_so v =
      ap (λ (t : Table). going f [] (during atServers (fresh t c.period.frames))) q.table
      ∙ ap (effect_move f) (sym (chosen _ (eq-eqb (add_refusal (table_of c) i) 0 (sym q.number ∙ ap of_verdict v))))

  pub add_not : {k : Refusal} → r.verdict ≡ Err k → stopping f (number_of k) ≡ effect_move f (add_effect c i p)
  unfolding add_effect
  add_not {k} v =
      let is : add_refusal (table_of c) i ≡ number_of k = sym q.number ∙ ap of_verdict v in
      sym (ap (effect_move f) (other _ (ne_eqb (add_refusal (table_of c) i) 0 (λ z. omega (arith, is, number-some k)))) ∙ ap (stopping f) is)

-- 2, where the servers so far are no table
pub add_to_none :
    (f : Fed) (c : State) (i p : ℕ) {s : List Server} → s ≡ c.servers → {r : Added} → Takes s r → {k : Refusal} → r.verdict ≡ Err k →
    stopping f (number_of k) ≡ effect_move f (add_effect c i p)
unfolding add_effect add_refusal
add_to_none f c i p {s} e {r} q {k} v =
    let t = not_taken q v in
    let is : add_refusal (table_of c) i ≡ 2 = other _ (and_left _ (ap is_table (sym e) ∙ t.0)) in
    sym (ap (effect_move f) (other _ (ap (λ (n : ℕ). eqb n 0) is)) ∙ ap (stopping f) (is ∙ sym t.1))

-- the table of an accepted one is a table
pub added-table : (t : Table) (i p : ℕ) {r : Added} → Adds t i p r → r.verdict ≡ Ok tt → is_table r.table.servers ≡ true
added-table t i p q v = ap (λ (x : Table). is_table x.servers) q.table ∙ table-added t i p (sym q.number ∙ ap of_verdict v)

-- ---- a verb

module _ (x : Feed) (l w : List ℕ) (k : List Bool) (v : Verb) (a b : ℕ) {d : List ℕ} {u : Result (Unit {0}) Refusal} {n : ℕ} (w' : List ℕ) {k' : List Bool} {d₁ : List ℕ}
    (g : Gives (channel_of x w k) (verb_outcome (channel_of x w k) v a b) d u n (state_of x.frame x.period (servers_of w') k') d₁) where
  abbrev f : Fed
  f = fed_of x l w k

  abbrev c : State
  c = channel_of x w k

  pub call-so : {y : Feed} → Made x.stage → (Canonical w → Canonical w') → u ≡ Ok tt → y ≡ turned x AtEntries → MakesAll x l w k (effect_move f (call_effect [] c v a b)) d (Ok n) y w' k' d₁
  call-so {y} h form e q =
      record {
        makes =
            makes_as (ap (effect_move f) (sym (call-allowed c v a b g e)))
            (makes-written (gives-written g e) (ap (λ (z : Feed). fed_of z l w' k') q ∙ ap (λ (z : State). next_line f (during atEntries z)) (gives-channel g e)));
        passes = passes-turned form (λ s. absurd (h s)) made-entries q;
        same = λ i z. not-refused z;
      }

  pub call-not : {j : Refusal} {r : Step} {d₂ : List ℕ} → u ≡ Err j → ((w' ≡ w) × (k' ≡ k)) → RefusesCall x a j d₁ r d₂ → MakesAll x l w k (effect_move f (call_effect [] c v a b)) d r.written r.feed w' k' d₂
  call-not {j} {r} {d₂} e s q =
      rw (s.0, s.1)
      (on (equal (number_of j) 9)
      (λ z.
      let h = call-short c v a b g e z in
      let p = q.short z in
      rw (p.0, p.1)
      (does_as (ap (effect_move f) (sym h.0))
      (record { makes = makes-refused (writes-not h.1 z (p.2 ∙ gives_same g e)) refl; passes = passes_same; same = λ i z. (refl, refl, refl) })))
      (λ z.
      does_as (ap (effect_move f) (sym (call-refused c v a b g e z)))
      (subst (λ (y : List ℕ). MakesAll x l w k (refusing a (number_of j) f c) y r.written r.feed w k d₂) (gives_same g e) (q.long z w k l))))
