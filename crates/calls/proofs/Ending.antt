-- How a list of calls ends. Assumes nothing.
use Rattle.std.specs.Prelude.{Ok}
use mathlib.Core.Bool.{true, false}
use mathlib.Core.Path.{◌≡◌, sym, ap, subst, ◌∙◌}
use mathlib.Core.List.{List}
use Prim.Native.Nat.{ℕ, ◌/◌, ◌≤◌, ◌<◌}
use native.Mathlib.Omega.{arith}
use borrow.Author.Tests.{eq-eqb, ne_eqb, le-leb, lt-leb}
use lib.Dec.{eqb}
use lib.ListN.{length}
use Rattle.lists.specs.Choice.{choose}
use Rattle.lists.proofs.Cases.{chosen, other, same_choice}
use Rattle.refusal.specs.declared.Refusal.{Refusal}
use Rattle.refusal.specs.declared.Refusal.TheVariants.{Short}
use Rattle.refusal.specs.Answer.{number_of, of_verdict}
use Rattle.refusal.proofs.Answers.{number-some}
use Rattle.group.specs.declared.Table.{Table}
use Rattle.group.specs.declared.State.{State}
use Rattle.channel.specs.declared.Channel.{Channel}
use Rattle.channel.specs.Answers.{state}
use Rattle.group.specs.Table.{empty, fresh_refusal, fresh}
use Rattle.group.specs.Answers.{no_channel}
use Rattle.settling.specs.Demand.{InThoseRoles, settling_time, Settles}
use Rattle.settling.proofs.Demand.{settles}
use Rattle.calls.specs.declared.Ended.{Ended}
use Rattle.calls.specs.Encoding.{calls_of}
use Rattle.calls.specs.Running.{listed, list_refusal, RunsList}
use Rattle.calls.specs.Steps.{ListRuns, Unopened}
use Rattle.calls.proofs.Going.{how_many}
use Rattle.calls.proofs.Chains.{single_calls_settle}
use Rattle.calls.proofs.Encoded.{every_list_encodes}

-- the channel that stands where none was opened
pub no_channel_is : {t : Table} {x : State} → x ≡ choose (eqb (fresh_refusal t 2) 0) (fresh t 2) no_channel → t ≡ empty → x ≡ no_channel
no_channel_is {t} {x} e q = e ∙ ap (λ (y : Table). choose (eqb (fresh_refusal y 2) 0) (fresh y 2) no_channel) q ∙ same_choice (eqb (fresh_refusal empty 2) 0) no_channel

module _ (t : Table) (n : ℕ) (ks d e : List ℕ) where
  -- a list that is refused
  ends-not : (k : Refusal) {r : Ended} → list_refusal t n ks d e ≡ number_of k → Unopened k r → RunsList t n ks d e r d e
  ends-not k {r} q p =
      let some : eqb (list_refusal t n ks d e) 0 ≡ false = ne_eqb (list_refusal t n ks d e) 0 (λ z. omega (arith, number-some k)) in
      let number : of_verdict r.verdict ≡ number_of k = ap of_verdict p.verdict in
      record {
        number = number ∙ sym q;
        channel = p.channel ∙ sym (other _ some);
        numbers = sym (other _ some);
        bytes = sym (other _ some);
        encodes = every_list_encodes;
        settles = λ z. absurd (omega (arith, number, number-some k));
        singly = single_calls_settle;
      }

  -- 2, 6, 7
  pub ends_unopened : {k : Refusal} {r : Ended} → Unopened k r → fresh_refusal t n ≡ number_of k → RunsList t n ks d e r d e
  unfolding list_refusal
  ends_unopened {k} {r} p q =
      ends-not k (other _ (ne_eqb (fresh_refusal t n) 0 (λ z. omega (arith, number-some k))) ∙ q) p

  -- 9
  pub ends-short : {r : Ended} → fresh_refusal t n ≡ 0 → length e < length ks / 2 → Unopened Short r → RunsList t n ks d e r d e
  unfolding list_refusal
  ends-short q h p = ends-not Short (chosen _ (eq-eqb _ 0 q) ∙ other _ (lt-leb (length (calls_of (length d) ks)) (length e) (omega (arith, how_many (length d) ks)))) p

  -- all calls made: demand 3 holds of the channel
  pub ends :
      {c : State} (x : Channel) {d' e' : List ℕ} → fresh_refusal t n ≡ 0 → length ks / 2 ≤ length e → c ≡ fresh t n → ListRuns c ks d e (state x) d' e' →
      RunsList t n ks d e (record { verdict = (Ok tt); channel = x }) d' e'
  unfolding list_refusal
  ends {c} x {d'} {e'} q h same v =
      let w : ListRuns (fresh t n) ks d e (state x) d' e' = subst (λ (y : State). ListRuns y ks d e (state x) d' e') same v in
      let none : list_refusal t n ks d e ≡ 0 = chosen _ (eq-eqb _ 0 q) ∙ chosen _ (le-leb (length (calls_of (length d) ks)) (length e) (omega (arith, how_many (length d) ks))) in
      let yes : eqb (list_refusal t n ks d e) 0 ≡ true = eq-eqb _ 0 none in
      record {
        number = sym none;
        channel = w.channel ∙ sym (chosen _ yes);
        numbers = w.numbers ∙ sym (chosen _ yes);
        bytes = w.bytes ∙ sym (chosen _ yes);
        encodes = every_list_encodes;
        settles =
            λ z uncut i l active.
            subst (Settles (settling_time n)) (sym w.channel)
            (settles n t (listed t n ks d e) q uncut i l (subst (λ (y : State). InThoseRoles y i) w.channel active));
        singly = single_calls_settle;
      }
