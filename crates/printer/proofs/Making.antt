-- What a turn is made of. Assumes nothing.
use Rattle.std.specs.Prelude.{Option, Some, None, Result, Ok, Err}
use mathlib.Core.Bool.{Bool, true, false, not, ◌&&◌, ◌||◌}
use mathlib.Core.Path.{◌≡◌, refl, sym, ap, subst, ◌∙◌}
use mathlib.Core.List.{List, [], ◌∷◌}
use Prim.Native.Nat.{ℕ, ◌+◌}
use native.Mathlib.Omega.{arith}
use borrow.Author.Tests.{lt-ltb, lt-leb}
use lib.ListN.{length}
use Rattle.lists.specs.Splice.{splice}
use Rattle.lists.proofs.Cases.{clash, chosen, other, by_choice, and_true, or_false}
use Rattle.lists.proofs.Splicing.{splice-none}
use Rattle.feeding.specs.Fed.{Fed, whole_line, waits, taken, taken_bytes}
use Rattle.feeding.specs.Moves.{Move, nothing, steps_move, last_move}
use Rattle.feeding.proofs.Taking.{or_so, or_not}
use Rattle.feeding.proofs.Finishing.{last-closed}
use Rattle.std.specs.Bool.{then_some}
use Rattle.feed.specs.declared.Feed.{Feed}
use Rattle.feed.specs.Answers.{Takes, Makes, Leaves}
use Rattle.feed.proofs.Pairing.{made, not_made}
use Rattle.feed.specs.declared.Step.{Step}
use Rattle.lists.specs.Choice.{choose}
use Rattle.refusal.specs.Answer.{accepted, refused, number_of}
use Rattle.text.specs.Write.{writing}
use Rattle.printer.specs.declared.Turned.{Turned}
use Rattle.printer.specs.Print.{rest_move, turn_move}
use Rattle.printer.specs.Steps.{busy, of_turned, Goes, Turns, Steps}
use Rattle.printer.proofs.Turning.{turn_step, turn-rest, none-taken, busy_open}
use Rattle.refusal.specs.declared.Refusal.{Refusal}

-- a write that was refused got 9
refused_nine : {f : Fed} {m : Move} {d : List ℕ} {f' : Fed} {d' : List ℕ} {k : Refusal} → Makes f m d (Err k) f' d' → refused (number_of k) ≡ refused 9
unfolding writing
refused_nine {m = m} {d = d} q =
    let no = (not_made q refl).0 in
    q.out.answer ∙ other _ (lt-leb (0 + length m.lines) (length d) (omega arith))

-- a move that was made, or for which the slice was too short
module _ {f : Fed} {m : Move} {d : List ℕ} {f' : Fed} {d' : List ℕ} {r : Turned} where
  by_written : (p : Result ℕ Refusal) → Makes f m d p f' d' → ((n : ℕ) → p ≡ Ok n → r.written ≡ Ok (Some n)) → ((k : Refusal) → p ≡ Err k → r.written ≡ Err k) → r.used ≡ 0 → Goes f m 0 true d r f' d'
  by_written (Ok n) q g t u =
      let x = made q refl in
      record { so = λ h. (ap of_turned (g n refl) ∙ ap (λ (i : ℕ). accepted (i ∷ [])) x.end ∙ sym (chosen (accepted []) refl), x.fed, x.slice); not = λ h. absurd (let k = x.fits in omega arith); used = u }
  by_written (Err k) q g t u =
      let x = not_made q refl in
      record { so = λ h. absurd (let l = x.0 in omega arith); not = λ h. (ap of_turned (t k refl) ∙ refused_nine q, x.1, x.2); used = u }

  pub goes-stepped : {t : Step} → Steps t r → Makes f m d t.written f' d' → Goes f m 0 true d r f' d'
  goes-stepped {t} s q = by_written t.written q s.so s.not s.used

-- no answer with bytes is a refusal
pub clash_with : {A : Type 0} {x : Option ℕ} {n : Refusal} → ◌≡◌ {A = Result (Option ℕ) Refusal} (Ok x) (Err n) → A
clash_with e = absurd (let z : ◌≡◌ {A = ℕ} 0 1 = cc in omega arith)

refused_by : {A : Type 0} {q : Result (Option ℕ) Refusal} (p : Result ℕ Refusal) → ((n : ℕ) → p ≡ Ok n → q ≡ Ok (Some n)) → ((n : Refusal) → p ≡ Err n → A) → (n : Refusal) → q ≡ Err n → A
refused_by (Ok m) so h n e = clash_with (sym (so m refl) ∙ e)
refused_by (Err k) so h n e = h k refl

-- the turn r that was the step t; g says what is known by a feed
module _ {t : Step} {r : Turned} (s : Steps t r) where
  pub step-goes : (g : Feed → Fed) {f : Fed} {m : Move} {d d' : List ℕ} → Makes f m d t.written (g t.feed) d' → Goes f m 0 true d r (g r.feed) d'
  step-goes g {f} {m} {d} {d'} q = subst (λ (x : Feed). Goes f m 0 true d r (g x) d') (sym s.feed) (goes-stepped s q)

  pub step-leaves : (g : Feed → Fed) {x : Feed} {w : List ℕ} {k : List Bool} {w' : List ℕ} {k' : List Bool} → Leaves x w k 0 (g t.feed) t.feed w' k' → Leaves x w k r.used (g r.feed) r.feed w' k'
  step-leaves g {x} {w} {k} {w'} {k'} q = subst (λ (n : ℕ). Leaves x w k n (g r.feed) r.feed w' k') (sym s.used) (subst (λ (y : Feed). Leaves x w k 0 (g y) y w' k') (sym s.feed) q)

  pub step-same : {A : Type 0} → ((n : Refusal) → t.written ≡ Err n → A) → (n : Refusal) → r.written ≡ Err n → A
  step-same h = refused_by t.written s.so h

-- a turn that took bytes
pub some_goes : (b : Bool) {q : Option ℕ} → q ≡ then_some b 0 → of_turned (Ok q) ≡ choose b (accepted (0 ∷ [])) (accepted [])
unfolding choose
some_goes true e = ap (λ (x : Option ℕ). of_turned (Ok x)) e
some_goes false e = ap (λ (x : Option ℕ). of_turned (Ok x)) e

-- nothing is written
pub goes_none : {f : Fed} {m : Move} {n : ℕ} {b : Bool} {d : List ℕ} {f' : Fed} {r : Turned} → m ≡ nothing f' → of_turned r.written ≡ choose b (accepted (0 ∷ [])) (accepted []) → r.used ≡ n → Goes f m n b d r f' d
goes_none {f} {m} {n} {b} {d} {f'} {r} e w u =
    let z = ap (λ (x : Move). length x.lines) e in
    record {
      so = λ h. (w ∙ ap (λ (i : ℕ). choose b (accepted (i ∷ [])) (accepted [])) (sym z), sym (ap (λ (x : Move). x.fed) e), sym (ap (λ (x : Move). splice d 0 x.lines) e ∙ splice-none d 0));
      not = λ h. absurd (omega arith);
      used = u;
    }

-- the same move, worked out in another way
goes_as : {f : Fed} {m k : Move} {n : ℕ} {b c : Bool} {d : List ℕ} {r : Turned} {f' : Fed} {d' : List ℕ} → m ≡ k → b ≡ c → Goes f m n b d r f' d' → Goes f k n c d r f' d'
goes_as {f} {m} {k} {n} {b} {c} {d} {r} {f'} {d'} e t q = subst (λ (x : Bool). Goes f k n x d r f' d') t (subst (λ (x : Move). Goes f x n b d r f' d') e q)

module _ {f : Fed} {s : List ℕ} {last : Bool} {d : List ℕ} {r : Turned} {f' : Fed} {d' : List ℕ} where
  pub turns_as : {m : Move} {n : ℕ} {b : Bool} → m ≡ turn_move f s last (length d) → n ≡ taken_bytes f s → b ≡ busy f s last → Goes f m n b d r f' d' → Turns f s last d r f' d'
  turns_as {m} {n} {b} e u t q = record { move = goes_as e t (subst (λ (x : ℕ). Goes f m x b d r f' d') u q) }

  pub turns-step : waits f ≡ true → Goes f (steps_move f (length d)) 0 true d r f' d' → Turns f s last d r f' d'
  turns-step e q =
      let o : f.over ≡ false = busy_open f.over (whole_line f.line) e in
      turns_as (sym (turn_step f s last (length d) e)) (sym (none-taken f s e)) (sym (and_true (ap not o) (or_so _ e))) q

  pub turns-end : waits f ≡ false → length s ≡ 0 → Goes f (rest_move f [] last) 0 (not f.over && last) d r f' d' → Turns f s last d r f' d'
  unfolding taken_bytes
  turns-end e z q = turns_as (sym (turn-rest f s last (length d) e ∙ no_rest s z)) (sym (no_bytes s z)) (sym (still-busy s z)) q
    where
      no_rest : (s : List ℕ) → length s ≡ 0 → rest_move f s last ≡ rest_move f [] last
      no_rest [] z = refl
      no_rest (x ∷ s) z = absurd (omega arith)

      no_bytes : (s : List ℕ) → length s ≡ 0 → taken_bytes f s ≡ 0
      no_bytes [] z = refl
      no_bytes (x ∷ s) z = absurd (omega arith)

      still-busy : (s : List ℕ) → length s ≡ 0 → busy f s last ≡ (not f.over && last)
      still-busy [] z = ap (λ (b : Bool). not f.over && b) (or_not last e)
      still-busy (x ∷ s) z = absurd (omega arith)

module _ {f : Fed} {s : List ℕ} {last : Bool} {d : List ℕ} {r : Turned} {f' : Fed} {n : ℕ} where
  pub turns-taken : waits f ≡ false → (length s ≡ 0 → ⊥) → Takes f s n f' → of_turned r.written ≡ choose (not f.over) (accepted (0 ∷ [])) (accepted []) → r.used ≡ n → Turns f s last d r f' d
  turns-taken e h q a u =
      turns_as refl refl (sym (still-busy s h)) (goes_none (turn-rest f s last (length d) e ∙ some s h ∙ ap nothing (sym q.fed)) a (u ∙ q.used))
    where
      some : (s : List ℕ) → (length s ≡ 0 → ⊥) → rest_move f s last ≡ nothing (taken f s)
      some [] h = absurd (h refl)
      some (x ∷ s) h = refl

      and_all : (b : Bool) → (b && true) ≡ b
      and_all true = refl
      and_all false = refl

      still-busy : (s : List ℕ) → (length s ≡ 0 → ⊥) → busy f s last ≡ not f.over
      still-busy [] h = absurd (h refl)
      still-busy (x ∷ s) h = ap (λ (b : Bool). not f.over && b) (or_not _ e ∙ or_so last (lt-ltb 0 (length (x ∷ s)) (omega arith))) ∙ and_all (not f.over)

-- the end of the input, where it has not come or the sheet is over
pub ends-none : {f : Fed} (last : Bool) {d : List ℕ} {r : Turned} → (not last || f.over) ≡ true → r.written ≡ Ok None → r.used ≡ 0 → Goes f (rest_move f [] last) 0 (not f.over && last) d r f d
ends-none {f} last e a u =
    goes_none
    (by_choice (λ (m : Move). m ≡ nothing f) last (λ l. sym (last-closed f (or_so _ (is-over l)))) (λ l. refl))
    (ap of_turned a ∙ sym (other _ (none last f.over e))) u
  where
    none : (l o : Bool) → (not l || o) ≡ true → (not o && l) ≡ false
    none true true e = refl
    none true false e = absurd (clash e refl)
    none false true e = refl
    none false false e = refl

    is-over : last ≡ true → f.over ≡ true
    is-over l = sym (ap (λ (b : Bool). not b || f.over) l) ∙ e

pub ends_so : {f : Fed} (last : Bool) {d : List ℕ} {r : Turned} {f' : Fed} {d' : List ℕ} → (not last || f.over) ≡ false → Goes f (last_move f) 0 true d r f' d' → Goes f (rest_move f [] last) 0 (not f.over && last) d r f' d'
ends_so {f} last e q =
    let p = or_false (not last) f.over e in
    let l : last ≡ true = not_back last p.0 in
    goes_as (sym (chosen (nothing f) l)) (sym (and_true (ap not p.1) l)) q
  where
    not_back : (b : Bool) → not b ≡ false → b ≡ true
    not_back true e = refl
    not_back false e = absurd (clash refl e)
