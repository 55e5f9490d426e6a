-- Demand 3 of the calls of a channel. Assumes nothing.
use mathlib.Core.Bool.{Bool, true, false, ◌&&◌}
use mathlib.Core.List.{List}
use mathlib.Core.Path.{◌≡◌, refl, sym, ap, subst, ◌∙◌}
use Prim.Native.Nat.{ℕ, ◌-◌}
use native.Mathlib.Omega.{arith}
use borrow.Author.Tests.{eq-eqb}
use lib.Dec.{eqb}
use lib.ListN.{length}
use Rattle.lists.specs.Choice.{choose}
use Rattle.lists.proofs.Cases.{tested, on, chosen, other, by_choice, and_true, and_right}
use Rattle.roles.specs.declared.Verb.TheVariants.{Start}
use Rattle.group.specs.declared.State.{State}
use Rattle.group.specs.Outcome.{Outcome, number_in, channel_in}
use Rattle.group.specs.Table.{fresh_refusal, fresh}
use Rattle.group.specs.Advance.{step_outcome, time_outcome}
use Rattle.group.specs.Verbs.{names_nobody, verb_refusal, verb_outcome}
use Rattle.group.specs.Calls as group
use Rattle.group.specs.Calls.{call_number, call_channel}
use Rattle.plain.specs.declared.PlainTable.{PlainTable}
use Rattle.plain.specs.declared.PlainChannel.{PlainChannel}
use Rattle.plain.specs.Numbers.{is_verb, verb_of, is_period}
use Rattle.plain.specs.Plain.{is_table, table_of, is_channel, channel_of, plain_channel}
use Rattle.plain.proofs.Laws.{laws}
use Rattle.settling.proofs.Chains.{chains_settle}
use Rattle.playout.specs.declared.ChannelAnswered.{ChannelAnswered}
use Rattle.playout.specs.Channel.{fresh_number, checked, Answers}
use Rattle.playout.specs.Chains.{PlainCall, verb, advance, advance_to, call_of, AnswersCall, Called, PlainCallsSettle}
use Rattle.playout.proofs.Staying.{step_in, time_in, verb_in, opened_in, stays_plain}

-- what an answer is where all decodes: what the call of document 01 gets and hands back
checked_well : (o : Outcome) → checked true o ≡ o
unfolding checked choose
checked_well o = refl

answers_well :
    (p : PlainChannel) (o : Outcome) {d : List ℕ} {r : ChannelAnswered} {d' : List ℕ} → is_period o.channel.period.frames ≡ true → Answers true p o d r d' →
    (r.number ≡ number_in o (length d)) × (channel_of r.channel ≡ channel_in (channel_of p) o (length d))
unfolding channel_in
answers_well p o {d} {r} {d'} e w =
    let q : number_in (checked true o) (length d) ≡ number_in o (length d) = ap (λ (x : Outcome). number_in x (length d)) (checked_well o) in (
      w.number ∙ q,
      ap channel_of w.channel
          ∙ ap (λ (n : ℕ). channel_of (choose (eqb n 0) (plain_channel o.channel) p)) q
          ∙ by_choice (λ (x : PlainChannel). channel_of x ≡ channel_in (channel_of p) o (length d)) (eqb (number_in o (length d)) 0)
          (λ t. (laws.back.channel o.channel e).same ∙ sym (chosen _ t))
          (λ t. sym (other _ t)),
    )

-- a number that is no verb's
answers-none :
    (p : PlainChannel) (o : Outcome) {d : List ℕ} {r : ChannelAnswered} {d' : List ℕ} → Answers false p o d r d' → (r.number ≡ 2) × (r.channel ≡ p)
unfolding checked choose number_in
answers-none p o w = (w.number, w.channel)

nobody : (c : State) (d : List ℕ) → (call_number c (group.verb Start 0 0 d) ≡ 2) × (call_channel c (group.verb Start 0 0 d) ≡ c)
unfolding call_number call_channel channel_in number_in verb_refusal names_nobody choose
nobody c d = (refl, refl)

abbrev Good : PlainChannel → Type 0
Good p = is_channel p ≡ true

-- the call of document 01 that k is
abbrev Does : PlainChannel → PlainCall → ChannelAnswered → Type 0
Does p k r = (is_channel r.channel ≡ true) × ((r.number ≡ call_number (channel_of p) (call_of k)) × (channel_of r.channel ≡ call_channel (channel_of p) (call_of k)))

does : (p : PlainChannel) (k : PlainCall) (r : ChannelAnswered) (d' : List ℕ) → Good p → AnswersCall p k r d' → Does p k r
unfolding call_number call_channel call_of
does p (advance d) r d' g w = (stays_plain.advances p d r d' g w, answers_well p (step_outcome (channel_of p)) (step_in p) (subst (λ (t : Bool). Answers t p (step_outcome (channel_of p)) d r d') g w))
does p (advance_to t d) r d' g w =
    (stays_plain.reaches p t d r d' g w, answers_well p (time_outcome (channel_of p) t) (time_in p (t - p.frame)) (subst (λ (u : Bool). Answers u p (time_outcome (channel_of p) t) d r d') g w))
does p (verb v a b d) r d' g w = (
  stays_plain.verbs p v a b d r d' g w,
  on (tested (is_verb v))
      (λ t.
      subst (λ (k : group.Call). (r.number ≡ call_number (channel_of p) k) × (channel_of r.channel ≡ call_channel (channel_of p) k)) (sym (chosen _ t))
      (answers_well p (verb_outcome (channel_of p) (verb_of v) a b) (verb_in p v a b) (subst (λ (u : Bool). Answers u p (verb_outcome (channel_of p) (verb_of v) a b) d r d') (and_true g t) w)))
      (λ t.
      let q = answers-none p (verb_outcome (channel_of p) (verb_of v) a b) (subst (λ (u : Bool). Answers u p (verb_outcome (channel_of p) (verb_of v) a b) d r d') (and_right (is_channel p) t) w) in
      let z = nobody (channel_of p) d in
      subst (λ (k : group.Call). (r.number ≡ call_number (channel_of p) k) × (channel_of r.channel ≡ call_channel (channel_of p) k)) (sym (other _ t))
      (q.0 ∙ sym z.0, ap channel_of q.1 ∙ sym z.1)),
)

follows : (p : PlainChannel) (k : PlainCall) (n : ℕ) (q : PlainChannel) → Good p → Called p k n q → Good q × ((n ≡ call_number (channel_of p) (call_of k)) × (channel_of q ≡ call_channel (channel_of p) (call_of k)))
follows p k n q g c =
    let r = does p k c.answer c.slice g c.answers in
    (ap is_channel c.channel ∙ r.0, (c.number ∙ r.1.0, ap channel_of c.channel ∙ r.1.1))

-- what is opened is the fresh channel of a table that decodes
opened_well : (p : PlainTable) (n : ℕ) → fresh_number p n ≡ 0 → fresh_refusal (table_of p) n ≡ 0
unfolding fresh_number
opened_well p n e = on (tested (is_table p)) (λ t. sym (chosen _ t) ∙ e) (λ t. absurd (omega (arith, sym (other {b = 2} (fresh_refusal (table_of p) n) t) ∙ e)))

pub plain_calls_settle : PlainCallsSettle
plain_calls_settle p n r o z =
    let ok = sym o.number ∙ z in
    let is : channel_of r.channel ≡ fresh (table_of p) n =
    ap channel_of (o.channel ∙ chosen _ (eq-eqb _ 0 ok)) ∙ (laws.back.channel (fresh (table_of p) n) (opened_in p n ok)).same in
    chains_settle Called channel_of call_of Good follows (table_of p) n r.channel (stays_plain.opens p n r o z) (opened_well p n ok) is
