-- Steps one after the other. Assumes nothing.
use Rattle.std.specs.Prelude.{Result}
use mathlib.Core.Path.{◌≡◌, refl, sym, ap, ap₂, subst, ◌∙◌}
use mathlib.Core.List.{List}
use Prim.Native.Nat.{ℕ, suc, ◌+◌, ◌≤◌, ◌<◌}
use native.Mathlib.Numerals.{add-one}
use lib.Dec.{eqb}
use lib.ListN.{length, drop, get_or, drop_of_length-le}
use lib.Seq.{drop-cons}
use Rattle.lists.specs.Choice.{choose}
use Rattle.group.specs.declared.Table.{Table}
use Rattle.group.specs.declared.State.{State}
use Rattle.group.specs.Outcome.{Outcome, channel_in, slice_in}
use Rattle.group.specs.Table.{fresh_refusal, fresh}
use Rattle.group.specs.Answers.{no_channel, Gives}
use Rattle.channel.specs.Answers.{state}
use Rattle.calls.specs.declared.Ended.{Ended}
use Rattle.calls.specs.Running.{RunsList}
use Rattle.bench.specs.Bench.{table_of, step_of, OneStep, state_after, slice_after, DayRuns, opened, DayEnds, CallsEnd}
use Rattle.refusal.specs.declared.Refusal.{Refusal}

-- the answer to one step
pub one-step : {c : State} {n : ℕ} {d : List ℕ} {o : Outcome} {v : Result (Unit {0}) Refusal} {m : ℕ} {x : State} {d' : List ℕ} → step_of c n (length d) ≡ o → Gives c o d v m x d' → OneStep c n d x d'
one-step {c} {n} {d} e g =
    record {
      state = g.channel ∙ ap (λ (y : Outcome). channel_in c y (length d)) (sym e);
      slice = g.slice ∙ ap (λ (y : Outcome). slice_in y d) (sym e);
    }

-- i steps of the list ns are made: what is left is the rest of all
pub record Running (c : State) (ns d₀ d : List ℕ) (x : State) (i : ℕ) : Type 0 where
  pub state : state_after x (drop i ns) d ≡ state_after c ns d₀
  pub slice : slice_after x (drop i ns) d ≡ slice_after c ns d₀

module _ {c : State} {ns d₀ : List ℕ} where
  pub run_begin : Running c ns d₀ d₀ c 0
  run_begin = record { state = refl; slice = refl }

  pub run_turn : {d : List ℕ} {x : State} {i : ℕ} {y : State} {d' : List ℕ} → Running c ns d₀ d x i → i < length ns → OneStep x (get_or ns i 0) d y d' → Running c ns d₀ d' y (i + 1)
  unfolding state_after slice_after
  run_turn {d} {x} {i} {y} {d'} v h s =
      let e = drop-cons ns i 0 h in
      record {
        state = rw add-one (ap₂ (λ (z : State) (b : List ℕ). state_after z (drop (suc i) ns) b) s.state s.slice ∙ sym (ap (λ (l : List ℕ). state_after x l d) e) ∙ v.state);
        slice = rw add-one (ap₂ (λ (z : State) (b : List ℕ). slice_after z (drop (suc i) ns) b) s.state s.slice ∙ sym (ap (λ (l : List ℕ). slice_after x l d) e) ∙ v.slice);
      }

  pub run_end : {d : List ℕ} {x : State} {i : ℕ} → Running c ns d₀ d x i → length ns ≤ i → DayRuns c ns d₀ x d
  unfolding state_after slice_after
  run_end {d} {x} {i} v h =
      let e = drop_of_length-le ns h in
      record {
        state = sym (ap (λ (l : List ℕ). state_after x l d) e) ∙ v.state;
        slice = sym (ap (λ (l : List ℕ). slice_after x l d) e) ∙ v.slice;
      }

pub day-ends :
    {t : Table} {servers : List ℕ} {n : ℕ} {ns d : List ℕ} {c x : State} {d' : List ℕ} → t ≡ table_of servers →
    c ≡ choose (eqb (fresh_refusal t n) 0) (fresh t n) no_channel → DayRuns c ns d x d' → DayEnds servers n ns d x.frame d'
day-ends {t} {servers} {n} {ns} {d} {c} {x} {d'} e q v =
    let from : c ≡ opened servers n = q ∙ ap (λ (y : Table). choose (eqb (fresh_refusal y n) 0) (fresh y n) no_channel) e in
    record {
      frame = ap (λ (y : State). y.frame) (v.state ∙ ap (λ (y : State). state_after y ns d) from);
      slice = v.slice ∙ ap (λ (y : State). slice_after y ns d) from;
    }

pub calls-end :
    {t : Table} {servers : List ℕ} {n : ℕ} {ks d e : List ℕ} {r : Ended} {f : ℕ} {d' e' : List ℕ} → t ≡ table_of servers →
    f ≡ (state r.channel).frame → RunsList t n ks d e r d' e' → CallsEnd servers n ks d e f d' e'
calls-end {t} {servers} {n} {ks} {d} {e} {r} {f} {d'} {e'} is at v =
    let u = subst (λ (x : Table). RunsList x n ks d e r d' e') is v in
    record { frame = at ∙ ap (λ (x : State). x.frame) u.channel; numbers = u.numbers; bytes = u.bytes }
