-- Tables and channels, from what they stand for. Assumes nothing.
use Rattle.std.specs.Prelude.{Result}
use mathlib.Core.Bool.{Bool, true, false}
use mathlib.Core.List.{List}
use mathlib.Core.Path.{◌≡◌, refl, sym, ap, subst, ◌∙◌}
use Prim.Native.Nat.{ℕ}
use native.Mathlib.Omega.{arith}
use lib.Dec.{eqb}
use lib.ListN.{length}
use borrow.Author.Tests.{eq-eqb, ne_eqb}
use Rattle.lists.specs.Choice.{choose}
use Rattle.lists.proofs.Cases.{chosen, other}
use Rattle.refusal.specs.Answer.{of_verdict}
use Rattle.group.specs.declared.State.{State}
use Rattle.group.specs.Table.{add_refusal, added, fresh_refusal, fresh}
use Rattle.group.specs.Outcome.{Outcome, number_in, channel_in, written_in, slice_in}
use Rattle.group.specs.Answers.{Gives}
use Rattle.group.specs.Answers as group
use Rattle.plain.specs.declared.PlainTable.{PlainTable}
use Rattle.plain.specs.declared.PlainChannel.{PlainChannel}
use Rattle.plain.specs.Plain.{is_table, table_of, plain_table, is_channel, channel_of, plain_channel, no_channel}
use Rattle.plain.proofs.Laws.{table-faithful, channel-faithful}
use Rattle.playout.specs.declared.TableAdded.{TableAdded}
use Rattle.playout.specs.declared.ChannelOpened.{ChannelOpened}
use Rattle.playout.specs.Front.{ill}
use Rattle.playout.specs.Channel.{add_number, Adds, fresh_number, Opens, checked, Answers}
use Rattle.playout.specs.Steps.{AddsWell, opened_as, OpensWell, unanswered}
use Rattle.playout.proofs.Choices.{through, by_number}
use Rattle.refusal.specs.declared.Refusal.{Refusal}

-- ---- a table

module _ (p : PlainTable) (i q : ℕ) where
  pub adds_well : (r : TableAdded) → is_table p ≡ true → AddsWell p i q r → Adds p i q r
  unfolding add_number added
  adds_well r e w =
      record {
        number = w.number ∙ sym (chosen _ e);
        table =
            by_number (add_number p i) (λ z. w.table)
            (λ z. w.table ∙ ap plain_table (other _ (ne_eqb (add_refusal (table_of p) i) 0 (λ k. z (chosen _ e ∙ k)))) ∙ table-faithful p e);
      }

  pub adds-ill : is_table p ≡ false → Adds p i q (record { number = ill; table = p })
  unfolding add_number
  adds-ill e = record { number = sym (other _ e); table = by_number (add_number p i) (λ z. absurd (omega (arith, sym z ∙ other _ e))) (λ z. refl) }

-- ---- a fresh channel

-- the answer of an opening, by its number
pub opened_zero : (n : ℕ) (c : State) → n ≡ 0 → record { number = 0; channel = plain_channel c } ≡ opened_as n c
unfolding choose
opened_zero n c z = rw z

pub opened_some : (n : ℕ) (c : State) → (n ≡ 0 → ⊥) → record { number = n; channel = no_channel } ≡ opened_as n c
opened_some n c z = ap (λ (x : PlainChannel). record { number = n; channel = x }) (sym (other _ (ne_eqb n 0 z)))

module _ (p : PlainTable) (n : ℕ) where
  abbrev number : ℕ
  number = fresh_refusal (table_of p) n

  pub open_of : (r : ChannelOpened) {k : ℕ} {s : State} → r ≡ opened_as k s → k ≡ number → s ≡ choose (eqb number 0) (fresh (table_of p) n) group.no_channel → OpensWell p n r
  open_of r {k} {s} e q t =
      record {
        number = ap (λ (x : ChannelOpened). x.number) e ∙ q;
        channel =
            ap (λ (x : ChannelOpened). x.channel) e
            ∙ ap (λ (x : ℕ). choose (eqb x 0) (plain_channel s) no_channel) q
            ∙ by_number number (λ z. chosen _ (eq-eqb number 0 z) ∙ ap plain_channel (t ∙ chosen _ (eq-eqb number 0 z))) (λ z. other _ (ne_eqb number 0 z));
      }

  pub opens_well : (r : ChannelOpened) → is_table p ≡ true → OpensWell p n r → Opens p n r
  unfolding fresh_number
  opens_well r e w =
      record {
        number = w.number ∙ sym (chosen _ e);
        channel = w.channel ∙ ap (λ (k : ℕ). choose (eqb k 0) (plain_channel (fresh (table_of p) n)) no_channel) (sym (chosen _ e));
      }

  pub opens-ill : is_table p ≡ false → Opens p n (record { number = ill; channel = no_channel })
  unfolding fresh_number
  opens-ill e = record { number = sym (other _ e); channel = by_number (fresh_number p n) (λ z. absurd (omega (arith, sym z ∙ other _ e))) (λ z. refl) }

-- ---- a call on a channel

-- what a call gives on the state s, which p stands for
pub gives_of :
    (p : PlainChannel) (f : State → Outcome) {s : State} {d : List ℕ} {v : Result (Unit {0}) Refusal} {n : ℕ} {x : State} {d' : List ℕ} →
    s ≡ channel_of p → Gives s (f s) d v n x d' → Gives (channel_of p) (f (channel_of p)) d v n x d'
gives_of p f {s} {d} {v} {n} {x} {d'} e g = subst (λ (z : State). Gives z (f z) d v n x d') e g

module _ (ok : Bool) (p : PlainChannel) (o : Outcome) (d : List ℕ) where
  same : ok ≡ true → checked ok o ≡ o
  unfolding checked
  same e = ap (λ (k : ℕ). record { number = k; lines = o.lines; channel = o.channel }) (chosen _ e)

  pub answers_well :
      (v : Result (Unit {0}) Refusal) (n : ℕ) (x : State) (d' : List ℕ) → ok ≡ true → is_channel p ≡ true → Gives (channel_of p) o d v n x d' →
      Answers ok p o d (record { number = of_verdict v; written = n; channel = plain_channel x }) d'
  unfolding channel_in
  answers_well v n x d' e f g =
      let s = sym (same e) in
      record {
        number = g.number ∙ ap (λ (u : Outcome). number_in u (length d)) s;
        written = g.written ∙ ap (λ (u : Outcome). written_in u (length d)) s;
        channel =
            ap plain_channel g.channel
            ∙ through plain_channel (eqb (number_in o (length d)) 0) o.channel (channel_of p)
            ∙ ap (λ (z : PlainChannel). choose (eqb (number_in o (length d)) 0) (plain_channel o.channel) z) (channel-faithful p f)
            ∙ ap (λ (u : Outcome). choose (eqb (number_in u (length d)) 0) (plain_channel o.channel) p) s;
        slice = g.slice ∙ ap (λ (u : Outcome). slice_in u d) s;
      }

  ill-number : ok ≡ false → number_in (checked ok o) (length d) ≡ ill
  unfolding number_in checked
  ill-number e =
      let n : choose ok o.number ill ≡ ill = other _ e in
      let t : eqb (choose ok o.number ill) 0 ≡ false = ap (λ (k : ℕ). eqb k 0) n in
      other _ t ∙ n

  pub answers-ill : ok ≡ false → Answers ok p o d (unanswered p) d
  unfolding written_in slice_in
  answers-ill e =
      let t : eqb (number_in (checked ok o) (length d)) 0 ≡ false = ap (λ (k : ℕ). eqb k 0) (ill-number e) in
      record { number = sym (ill-number e); written = sym (other _ t); channel = sym (other _ t); slice = sym (other _ t) }
