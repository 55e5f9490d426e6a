-- Advances and verbs on the channel of a day. Assumes nothing.
use Rattle.std.specs.Prelude.{Result, Ok, Err}
use mathlib.Core.Bool.{Bool, true, false, ◌&&◌}
use mathlib.Core.Path.{◌≡◌, refl, sym, ap, ◌∙◌}
use mathlib.Core.List.{List, [], append-nil}
use Prim.Native.Nat.{ℕ, zero, suc, ◌+◌, ◌-◌, ◌≤◌, ◌<◌}
use native.Mathlib.Omega.{arith}
use borrow.Author.Tests.{lt-ltb, eqb-true, eq-eqb, ne_eqb, le-leb, lt-leb}
use lib.Dec.{ltb, leb, eqb}
use lib.ListN.{length}
use Rattle.lists.proofs.Cases.{equal, less, tested, on, chosen, other, by_choice, and_true}
use Rattle.refusal.specs.declared.Refusal.{Refusal}
use Rattle.refusal.specs.Answer.{Answer, refused, number_of, of_verdict}
use Rattle.refusal.proofs.Answers.{number-some}
use Rattle.text.specs.Write.{writing, wrote, Writes}
use Rattle.text.proofs.Writing.{writes-to}
use Rattle.roles.specs.declared.Role.{Role}
use Rattle.server.specs.declared.Server.{Server}
use Rattle.roles.specs.declared.Verb.{Verb}
use Rattle.roles.specs.declared.Verb.TheVariants.{Start, Ready, Unready, Pass, Crash, Restart, Cut, Mend}
use Rattle.roles.specs.Verbs.{from, enters}
use Rattle.server.specs.Verbs.{verb_answer}
use Rattle.group.specs.declared.State.{State}
use Rattle.group.specs.Outcome.{Outcome, number_in, channel_in, written_in, slice_in}
use Rattle.group.specs.Answers.{Gives}
use Rattle.group.specs.Verbs.{known, names_nobody, state_refusal, verb_refusal, verb_outcome}
use Rattle.group.specs.Frame.{advanced, frame_lines}
use Rattle.group.specs.Advance.{advanced_by, lines_by, fitting, frames_within, within_goes}
use Rattle.group.proofs.Answering.{is-long, is-short}
use Rattle.group.proofs.Laws.{fit_bounds}
use Rattle.day.specs.Day.{go, on as during, atEntries, refusal, call_effect}
use Rattle.feeding.specs.Moves.{frames_now}

-- w does not fit, and a call that wrote nothing says 9
pub writes-not : {d w d' : List ℕ} {k : Refusal} → length d < length w → number_of k ≡ 9 → d' ≡ d → Writes d 0 w (Err k) d'
unfolding writing wrote
writes-not {d} {w} h e s =
    let short : leb (0 + length w) (length d) ≡ false = lt-leb (0 + length w) (length d) (omega arith) in
    record { answer = ap refused e ∙ sym (other _ short); slice = s ∙ sym (other _ short) }

-- ---- what a call gives

module _ {c : State} {o : Outcome} {d : List ℕ} {v : Result (Unit {0}) Refusal} {n : ℕ} {x : State} {d' : List ℕ} (g : Gives c o d v n x d') where
  number_is : {m : ℕ} → of_verdict v ≡ m → number_in o (length d) ≡ m
  number_is e = sym g.number ∙ e

  -- accepted: its lines fit
  accepted-number : v ≡ Ok tt → o.number ≡ 0
  unfolding number_in
  accepted-number e =
      let z = number_is (ap of_verdict e) in
      on (tested (eqb o.number 0)) (λ t. eqb-true _ 0 t) (λ t. sym (other _ t) ∙ z)

  accepted-fits : v ≡ Ok tt → length o.lines ≤ length d
  accepted-fits e =
      on (less (length d) (length o.lines))
      (λ h. absurd (let z : 9 ≡ 0 = sym (is-short o (length d) (accepted-number e) h) ∙ number_is (ap of_verdict e) in omega arith))
      (λ h. h)

  pub gives-written : v ≡ Ok tt → Writes d 0 o.lines (Ok n) d'
  unfolding written_in slice_in
  gives-written e =
      let none : eqb (number_in o (length d)) 0 ≡ true = eq-eqb _ 0 (number_is (ap of_verdict e)) in
      writes-to (omega (arith, accepted-fits e)) (omega (arith, g.written ∙ chosen 0 none)) (g.slice ∙ chosen d none)

  pub gives-channel : v ≡ Ok tt → x ≡ o.channel
  unfolding channel_in
  gives-channel e = g.channel ∙ chosen c (eq-eqb _ 0 (number_is (ap of_verdict e)))

  -- refused: nothing is written, and the channel is the same
  pub gives_same : {k : Refusal} → v ≡ Err k → d' ≡ d
  unfolding slice_in
  gives_same {k} e = g.slice ∙ other _ (ne_eqb (number_in o (length d)) 0 (λ z. omega (arith, number_is (ap of_verdict e), number-some k)))

  pub gives-kept : {k : Refusal} → v ≡ Err k → x ≡ c
  unfolding channel_in
  gives-kept {k} e = g.channel ∙ other _ (ne_eqb (number_in o (length d)) 0 (λ z. omega (arith, number_is (ap of_verdict e), number-some k)))

  -- by itself, or since its lines do not fit
  pub gives_why : {k : Refusal} → v ≡ Err k → (o.number ≡ 0) → (number_of k ≡ 9) × (length d < length o.lines)
  gives_why {k} e z =
      let is = number_is (ap of_verdict e) in
      on (less (length d) (length o.lines))
      (λ h. (sym is ∙ is-short o (length d) z h, h))
      (λ h. absurd (omega (arith, sym is ∙ is-long o (length d) z h, number-some k)))

  pub gives-own : {k : Refusal} → v ≡ Err k → (o.number ≡ 0 → ⊥) → o.number ≡ number_of k
  unfolding number_in
  gives-own {k} e h = sym (other _ (ne_eqb o.number 0 h)) ∙ number_is (ap of_verdict e)

-- ---- as many frames as fit

-- where none of n frames fits, the first one does not
pub none-fits : (n : ℕ) (c : State) (room : ℕ) → 0 < n → fitting n c room ≡ 0 → room < length (frame_lines c)
unfolding fitting
none-fits zero c room h e = absurd (omega arith)
none-fits (suc n) c room h e =
    on (less room (length (frame_lines c)))
    (λ q. q)
    (λ q. absurd (let z : suc (fitting n (advanced c) (room - length (frame_lines c))) ≡ 0 = sym (rw (le-leb (length (frame_lines c)) room q, fitting)) ∙ e in omega arith))

-- towards a later time
module _ (c : State) (t : ℕ) (later : c.frame < t) {d : List ℕ} {v : Result (Unit {0}) Refusal} {n : ℕ} {x : State} {d' : List ℕ}
    (g : Gives c (within_goes c t (length d)) d v n x d') where
  abbrev now : ℕ
  now = frames_now c (t - c.frame) (length d)

  abbrev o : Outcome
  o = within_goes c t (length d)

  some_fit : (frames_within c t (length d) ≡ 0 → ⊥) → (o.number ≡ 0) × (now ≡ frames_within c t (length d))
  unfolding frames_now
  some_fit h =
      let no : eqb (frames_within c t (length d)) 0 ≡ false = ne_eqb _ 0 h in
      (other 9 (ap (λ (b : Bool). ltb c.frame t && b) no ∙ and_no (ltb c.frame t)), other 1 no)
    where
      and_no : (b : Bool) → (b && false) ≡ false
      and_no true = refl
      and_no false = refl

  none-fit : frames_within c t (length d) ≡ 0 → (o.number ≡ 9) × (now ≡ 1)
  unfolding frames_now
  none-fit e =
      let yes : eqb (frames_within c t (length d)) 0 ≡ true = eq-eqb _ 0 e in
      (chosen 0 (and_true (lt-ltb c.frame t later) yes), chosen _ yes)

  pub within-done : v ≡ Ok tt → Writes d 0 (lines_by now c) (Ok n) d' × (x ≡ advanced_by now c)
  within-done e =
      on (equal (frames_within c t (length d)) 0)
      (λ z. absurd (let y : 9 ≡ 0 = sym (none-fit z).0 ∙ accepted-number g e in omega arith))
      (λ z. rw (some_fit z).1 (gives-written g e, gives-channel g e))

  pub within-not : {k : Refusal} → v ≡ Err k → Writes d 0 (lines_by now c) (Err k) d'
  unfolding lines_by
  within-not {k} e =
      on (equal (frames_within c t (length d)) 0)
      (λ z.
      let none = none-fit z in
      let long : length d < length (lines_by 1 c) = omega (arith, none-fits (t - c.frame) c (length d) (omega arith) z, ap length (append-nil (frame_lines c))) in
      rw none.1 (writes-not long (sym (gives-own g e (λ y. omega (arith, none.0))) ∙ none.0) (gives_same g e)))
      (λ z.
      let s = some_fit z in
      absurd (omega (arith, (gives_why g e s.0).1, (fit_bounds (t - c.frame) c (length d)).1)))

-- ---- a verb

-- no verb gets 9 by itself, or a great number
abbrev pub Proper : ℕ → Type 0
Proper n = (n ≡ 9 → ⊥) × (n < 100)

from-number : (a b r : Role) → Proper (from a b r).number
unfolding from
from-number a b r =
    by_choice (λ (x : Answer). Proper x.number) _ (λ t. (λ e. omega arith, omega arith))
    (λ t. by_choice (λ (x : Answer). Proper x.number) _ (λ t. (λ e. omega arith, omega arith)) (λ t. (λ e. omega arith, omega arith)))

enters-number : (v : Verb) (r : Role) → Proper (enters v r).number
unfolding enters
enters-number Start r = from-number _ _ r
enters-number Ready r = from-number _ _ r
enters-number Unready r = from-number _ _ r
enters-number Pass r = from-number _ _ r
enters-number Crash r = by_choice (λ (x : Answer). Proper x.number) _ (λ t. (λ e. omega arith, omega arith)) (λ t. (λ e. omega arith, omega arith))
enters-number Restart r = by_choice (λ (x : Answer). Proper x.number) _ (λ t. (λ e. omega arith, omega arith)) (λ t. (λ e. omega arith, omega arith))
enters-number Cut r = (λ e. omega arith, omega arith)
enters-number Mend r = (λ e. omega arith, omega arith)

answer-number : (v : Verb) (b : ℕ) (s : Server) → Proper (verb_answer v b s).number
unfolding verb_answer
answer-number v b s =
    by_choice (λ (x : Answer). Proper x.number) _ (λ t. (λ e. omega arith, omega arith))
    (λ t. by_choice (λ (x : Answer). Proper x.number) _ (λ t. (λ e. omega arith, omega arith)) (λ t. enters-number v s.role))

state-number : (c : State) (v : Verb) (a b : ℕ) → Proper (state_refusal c v a b)
unfolding state_refusal
state-number c Start a b = answer-number Start b _
state-number c Ready a b = answer-number Ready b _
state-number c Unready a b = answer-number Unready b _
state-number c Pass a b = answer-number Pass b _
state-number c Crash a b = answer-number Crash b _
state-number c Restart a b = answer-number Restart b _
state-number c Cut a b = by_choice Proper _ (λ t. (λ e. omega arith, omega arith)) (λ t. (λ e. omega arith, omega arith))
state-number c Mend a b = by_choice Proper _ (λ t. (λ e. omega arith, omega arith)) (λ t. (λ e. omega arith, omega arith))

pub verb-number : (c : State) (v : Verb) (a b : ℕ) → Proper (verb_refusal c v a b)
unfolding verb_refusal
verb-number c v a b =
    by_choice Proper (names_nobody v a b) (λ t. (λ e. omega arith, omega arith))
    (λ t. by_choice Proper (known c v a b) (λ t. state-number c v a b) (λ t. (λ e. omega arith, omega arith)))

module _ (c : State) (v : Verb) (a b : ℕ) where
  pub allowed : verb_refusal c v a b ≡ 0 → call_effect [] c v a b ≡ go (verb_outcome c v a b).lines (during atEntries (verb_outcome c v a b).channel)
  unfolding call_effect
  allowed e = rw (eq-eqb _ 0 e, call_effect)

  pub not-allowed : (verb_refusal c v a b ≡ 0 → ⊥) → call_effect [] c v a b ≡ go (refusal c a (verb_refusal c v a b)) (during atEntries c)
  unfolding call_effect
  not-allowed h = rw (ne_eqb _ 0 h, call_effect)

  module _ {d : List ℕ} {r : Result (Unit {0}) Refusal} {n : ℕ} {x : State} {d' : List ℕ} (g : Gives c (verb_outcome c v a b) d r n x d') where
    pub call-allowed : r ≡ Ok tt → call_effect [] c v a b ≡ go (verb_outcome c v a b).lines (during atEntries (verb_outcome c v a b).channel)
    call-allowed e = allowed (accepted-number g e)

    -- 9: the lines of an allowed verb do not fit
    pub call-short : {k : Refusal} → r ≡ Err k → number_of k ≡ 9 →
        (call_effect [] c v a b ≡ go (verb_outcome c v a b).lines (during atEntries (verb_outcome c v a b).channel)) × (length d < length (verb_outcome c v a b).lines)
    call-short e q =
        on (equal (verb_refusal c v a b) 0)
        (λ z. (allowed z, (gives_why g e z).1))
        (λ z. absurd ((verb-number c v a b).0 (gives-own g e z ∙ q)))

    pub call-refused : {k : Refusal} → r ≡ Err k → (number_of k ≡ 9 → ⊥) → call_effect [] c v a b ≡ go (refusal c a (number_of k)) (during atEntries c)
    call-refused {k} e q =
        on (equal (verb_refusal c v a b) 0)
        (λ z. absurd (q (gives_why g e z).0))
        (λ z. not-allowed z ∙ ap (λ (m : ℕ). go (refusal c a m) (during atEntries c)) (gives-own g e z))
