-- The law of specs/Laws.antt: periods never change, and all else that is encoded decodes. Assumes
-- nothing.
use mathlib.Core.Bool.{Bool, true, not, ◌&&◌}
use mathlib.Core.List.{map}
use mathlib.Core.Path.{◌≡◌, refl, sym, ap, ◌∙◌}
use mathlib.Core.Logic.{inl, inr}
use Prim.Native.Nat.{ℕ, zero, suc, ◌-◌}
use native.Mathlib.Omega.{arith}
use borrow.Author.Tests.{eq-eqb}
use lib.Dec.{eqb}
use Rattle.lists.specs.Choice.{choose}
use Rattle.lists.proofs.Cases.{tested, chosen, other, by_choice, and_right, snd_true}
use Rattle.refusal.specs.Answer.{Answer}
use Rattle.periods.specs.declared.Period.{Period}
use Rattle.periods.specs.Period.{take_period}
use Rattle.group.specs.declared.State.{State}
use Rattle.group.specs.declared.Table.{Table}
use Rattle.group.specs.Table as group
use Rattle.group.specs.Table.{table_with, added, fresh_refusal, fresh}
use Rattle.group.proofs.Made.{neat-added, neat-is, is-neat, table_empty}
use Rattle.group.specs.Frame.{advanced}
use Rattle.group.specs.Advance.{advanced_by}
use Rattle.group.specs.Verbs.{did}
use Rattle.front.specs.declared.Front.{Front}
use Rattle.front.specs.Front.{fresh as freshFront, risen, hearing, timing}
use Rattle.plain.specs.declared.PlainTable.{PlainTable}
use Rattle.plain.specs.declared.PlainChannel.{PlainChannel}
use Rattle.plain.specs.Numbers.{verb_of, is_period, period_of}
use Rattle.plain.specs.Plain.{server_of, is_front, front_of, plain_front, heartbeat_of, is_table, table_of, is_channel, channel_of, plain_channel}
use Rattle.plain.proofs.Laws.{laws}
use Rattle.playout.specs.declared.FrontMade.{FrontMade}
use Rattle.playout.specs.Front.{front_made, after_verb}
use Rattle.playout.specs.Channel.{fresh_number}
use Rattle.playout.specs.Laws.{StaysPlain}

-- a choice between what decodes
either : {A : Type 0} (is : A → Bool) (t : Bool) {x : A} (a b : A) → x ≡ choose t a b → is a ≡ true → is b ≡ true → is x ≡ true
either is t a b e f g = ap is e ∙ by_choice (λ y. is y ≡ true) t (λ h. f) (λ h. g)

-- every period that is decoded is in its range
period_in : (n : ℕ) → is_period (period_of n).frames ≡ true
unfolding period_of
period_in n = by_choice (λ (q : Period). is_period q.frames ≡ true) (is_period n) (λ e. e) (λ e. refl)

front_in : (f : Front) → is_period f.period.frames ≡ true → is_front (plain_front f) ≡ true
front_in f e = (laws.back.front f e).decodes

pub channel_in_lem : (c : State) → is_period c.period.frames ≡ true → is_channel (plain_channel c) ≡ true
channel_in_lem c e = (laws.back.channel c e).decodes

-- ---- a channel keeps its period

period-advanced : (n : ℕ) (c : State) → (advanced_by n c).period ≡ c.period
unfolding advanced_by advanced
period-advanced zero c = refl
period-advanced (suc n) c = period-advanced n (advanced c)

pub step_in : (p : PlainChannel) → is_period (advanced (channel_of p)).period.frames ≡ true
unfolding advanced
step_in p = period_in p.period

pub time_in : (p : PlainChannel) (n : ℕ) → is_period (advanced_by n (channel_of p)).period.frames ≡ true
time_in p n = ap (λ (q : Period). is_period q.frames) (period-advanced n (channel_of p)) ∙ period_in p.period

pub verb_in : (p : PlainChannel) (v a b : ℕ) → is_period (did (channel_of p) (verb_of v) a b).period.frames ≡ true
unfolding did
verb_in p v a b = period_in p.period

-- ---- what is made

made_in : (i q n : ℕ) → (front_made i q n).number ≡ 0 → is_front (front_made i q n).front ≡ true
unfolding front_made
made_in i q n e =
    elim (tested (not (eqb i 0) && is_period n)) [
      | inl t ↦ ap (λ (r : FrontMade). is_front r.front) (chosen _ t) ∙ front_in (freshFront i q n) (snd_true (not (eqb i 0)) (is_period n) t)
      | inr t ↦ absurd (omega (arith, sym (ap (λ (r : FrontMade). r.number) (other _ t)) ∙ e))
    ]

pub opened_in : (p : PlainTable) (n : ℕ) → fresh_number p n ≡ 0 → is_period n ≡ true
unfolding fresh_number fresh_refusal take_period
opened_in p n e =
    elim (tested (is_period n)) [
      | inl t ↦ t
      | inr t ↦
          let none : fresh_refusal (table_of p) n ≡ 2 = other _ (and_right (group.is_table (table_of p).servers) (ap (λ (a : Answer). eqb a.number 0) (other _ t))) in
          absurd (omega (arith, by_choice (λ (k : ℕ). k ≡ 2) (is_table p) (λ h. none) (λ h. refl), e))
    ]

-- what a plain table stands for is a table, also where it does not decode
decoded : (p : PlainTable) → group.is_table (table_of p).servers ≡ true
unfolding table_with
decoded p =
    let l = map server_of p.servers in
    by_choice (λ (t : Table). group.is_table t.servers ≡ true) (group.is_table l) (λ e. e) (λ e. table_empty)

pub stays_plain : StaysPlain
stays_plain =
    record {
      made = made_in;
      begins = λ p n p' e w. either is_front _ _ p w.front (front_in (risen (front_of p)) (period_in p.period)) e;
      hears = λ p h r p' e w. either is_front _ _ p w.front (front_in (hearing (front_of p) (heartbeat_of h)).front (period_in p.period)) e;
      ticks = λ p r p' e w. either is_front _ _ p w.front (front_in (timing (front_of p)).front (period_in p.period)) e;
      acts = λ p v b r p' e w. either is_front _ _ p w.front (front_in (after_verb (verb_of v) b (front_of p)) (period_in p.period)) e;
      adds =
          λ p i q r e w.
          either is_table _ _ p w.table
          (laws.back.table (added (table_of p) i q) (neat-is (added (table_of p) i q) (neat-added (table_of p) i q (is-neat (table_of p) (decoded p))))).decodes e;
      opens = λ p n r w z. ap is_channel (w.channel ∙ chosen _ (eq-eqb _ 0 (sym w.number ∙ z))) ∙ channel_in_lem (fresh (table_of p) n) (opened_in p n (sym w.number ∙ z));
      advances = λ p d r d' e w. either is_channel _ _ p w.channel (channel_in_lem (advanced (channel_of p)) (step_in p)) e;
      reaches = λ p t d r d' e w. either is_channel _ _ p w.channel (channel_in_lem (advanced_by (t - p.frame) (channel_of p)) (time_in p (t - p.frame))) e;
      verbs = λ p v a b d r d' e w. either is_channel _ _ p w.channel (channel_in_lem (did (channel_of p) (verb_of v) a b) (verb_in p v a b)) e;
    }
