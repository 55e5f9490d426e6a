-- The steps of a plain front, from those of the front that it stands for. Assumes nothing.
use Rattle.std.specs.Prelude.{Result}
use mathlib.Core.Bool.{true, false, not, ◌&&◌}
use mathlib.Core.Path.{◌≡◌, refl, sym, ap, ap₂, subst, ◌∙◌}
use mathlib.Core.Logic.{◌⊎◌, inl, inr}
use Prim.Native.Nat.{ℕ}
use native.Mathlib.Omega.{arith}
use borrow.Author.Tests.{ne_eqb}
use lib.Dec.{eqb}
use Rattle.lists.specs.Choice.{choose}
use Rattle.lists.proofs.Cases.{tested, chosen, other, fst_true}
use Rattle.refusal.specs.Answer.{of_verdict}
use Rattle.roles.specs.declared.Verb.{Verb}
use Rattle.roles.specs.declared.Event.{Event}
use Rattle.roles.specs.declared.Event.TheVariants.{Nothing}
use Rattle.server.specs.Server.{after}
use Rattle.roles.specs.Roles.{role_number}
use Rattle.server.specs.Verbs.{verb_answer}
use Rattle.roles.specs.Verbs.{verb_happens}
use Rattle.front.specs.declared.Front.{Front}
use Rattle.front.specs.declared.ActedNow.{ActedNow}
use Rattle.front.specs.Front.{take_front, goes_on, risen, FrontBegins, happens, with_server, FrontActs}
use Rattle.plain.specs.declared.PlainFront.{PlainFront}
use Rattle.plain.specs.declared.PlainHeartbeat.{PlainHeartbeat}
use Rattle.plain.specs.Numbers.{is_verb, verb_of, event_number, is_period}
use Rattle.plain.specs.Plain.{server_of, is_front, front_of, plain_front, is_heartbeat}
use Rattle.plain.proofs.Laws.{front-faithful}
use Rattle.playout.specs.declared.FrontActed.{FrontActed}
use Rattle.front.specs.declared.After.{After}
use Rattle.playout.specs.Front.{ill, front_made, begin_number, Begins, not_heard, Hears, not_timed, Ticks, after_verb, act_number, Acts}
use Rattle.playout.specs.Steps.{made_of, BeginsWell, hears_well, ticks_well, acted_as, ActsWell}
use Rattle.playout.proofs.Choices.{through, by_number}
use Rattle.refusal.specs.declared.Refusal.{Refusal}
use Rattle.playout.specs.declared.FrontHeard.{FrontHeard}
use Rattle.playout.specs.declared.FrontTimed.{FrontTimed}

pub front-made : (i q n : ℕ) → made_of (take_front i q n) ≡ front_made i q n
unfolding take_front front_made
front-made i q n = through made_of (not (eqb i 0) && is_period n) _ _

-- ---- the next frame

module _ (p : PlainFront) where
  begin-number : is_front p ≡ true → begin_number p ≡ choose (goes_on (front_of p)) 0 16
  unfolding begin_number
  begin-number e = chosen _ e

  pub begin-of : (r : After PlainFront ℕ) {f f' : Front} {v : Result (Unit {0}) Refusal} → f ≡ front_of p → FrontBegins f v f' → r.answer ≡ of_verdict v → r.front ≡ plain_front f' → BeginsWell p r
  begin-of r e g a b =
      record {
        number = a ∙ g.number ∙ ap (λ (f : Front). choose (goes_on f) 0 16) e;
        front = b ∙ ap plain_front g.front ∙ ap (λ (f : Front). plain_front (choose (goes_on f) (risen f) f)) e;
      }

  pub begins_well : (r : After PlainFront ℕ) → is_front p ≡ true → BeginsWell p r → Begins p r.answer r.front
  begins_well r e w = record { number = w.number ∙ sym (begin-number e); front = w.front ∙ next (tested (goes_on (front_of p))) }
    where
      next : (goes_on (front_of p) ≡ true) ⊎ (goes_on (front_of p) ≡ false) → plain_front (choose (goes_on (front_of p)) (risen (front_of p)) (front_of p)) ≡ choose (eqb (begin_number p) 0) (plain_front (risen (front_of p))) p
      next (inl g) = ap plain_front (chosen _ g) ∙ by_number (begin_number p) (λ z. refl) (λ z. absurd (z (begin-number e ∙ chosen _ g)))
      next (inr g) = ap plain_front (other _ g) ∙ by_number (begin_number p) (λ z. absurd (omega (arith, sym z ∙ begin-number e ∙ other _ g))) (λ z. front-faithful p e)

  pub begins-ill : is_front p ≡ false → Begins p ill p
  unfolding begin_number
  begins-ill e = record { number = sym (other _ e); front = by_number (begin_number p) (λ z. absurd (omega (arith, sym z ∙ other _ e))) (λ z. refl) }

-- ---- hearing

module _ (p : PlainFront) (h : PlainHeartbeat) where
  pub hears_well_lem : (r : After PlainFront FrontHeard) → (is_front p && is_heartbeat h) ≡ true → r ≡ hears_well p h → Hears p h r.answer r.front
  hears_well_lem r e w = record { answer = ap (λ (z : After PlainFront FrontHeard). z.answer) w ∙ sym (chosen _ e); front = ap (λ (z : After PlainFront FrontHeard). z.front) w ∙ sym (chosen _ e) }

  pub hears-ill : (is_front p && is_heartbeat h) ≡ false → Hears p h not_heard p
  hears-ill e = record { answer = sym (other _ e); front = sym (other _ e) }

-- ---- timers

module _ (p : PlainFront) where
  pub ticks_well_lem : (r : After PlainFront FrontTimed) → is_front p ≡ true → r ≡ ticks_well p → Ticks p r.answer r.front
  ticks_well_lem r e w = record { answer = ap (λ (z : After PlainFront FrontTimed). z.answer) w ∙ sym (chosen _ e); front = ap (λ (z : After PlainFront FrontTimed). z.front) w ∙ sym (chosen _ e) }

  pub ticks-ill : is_front p ≡ false → Ticks p not_timed p
  ticks-ill e = record { answer = sym (other _ e); front = sym (other _ e) }

-- ---- verbs

-- the answer of a verb, by its number
pub acted_zero : (n e r : ℕ) → n ≡ 0 → record { number = 0; event = e; role = r } ≡ acted_as n e r
unfolding choose
acted_zero n e r z = rw z

pub acted-some : (n e r : ℕ) → (n ≡ 0 → ⊥) → record { number = n; event = 0; role = 0 } ≡ acted_as n e r
acted-some n e r z = sym (ap₂ (λ (x y : ℕ). record { number = n; event = x; role = y }) (other _ (ne_eqb n 0 z)) (other _ (ne_eqb n 0 z)))

module _ (p : PlainFront) (v b : ℕ) where
  abbrev number : ℕ
  number = (verb_answer (verb_of v) b (server_of p.server)).number

  pub act-of :
      (r : After PlainFront FrontActed) {n e k : ℕ} {f : Front} {a : ActedNow} {f' : Front} {w : Verb} → f ≡ front_of p → w ≡ verb_of v → FrontActs w b f a f' →
      r.answer ≡ acted_as n e k → n ≡ of_verdict a.verdict → e ≡ event_number a.event → k ≡ role_number a.role → r.front ≡ plain_front f' →
      ActsWell p v b r
  act-of r {n} {e} {k} {f} {a} {f'} {w} ef ew g is ns es ks fs =
      let h : FrontActs (verb_of v) b (front_of p) a f' = subst (λ (x : Verb). FrontActs x b (front_of p) a f') ew (subst (λ (x : Front). FrontActs w b x a f') ef g) in
      record {
        answer =
            is ∙ ap (λ (x : ℕ). acted_as x e k) (ns ∙ h.number)
            ∙ ap (λ (x : ℕ). acted_as number x k) (es ∙ ap event_number h.event)
            ∙ ap (λ (x : ℕ). acted_as number (event_number (happens (verb_of v) b (front_of p))) x) (ks ∙ ap role_number (h.role ∙ ap (λ (x : Front). x.server.role) h.front));
        front = fs ∙ ap plain_front h.front;
      }

  act-number : (is_front p && is_verb v) ≡ true → act_number p v b ≡ number
  unfolding act_number
  act-number e = chosen _ e

  -- a refused verb does nothing
  idle-verb : (number ≡ 0 → ⊥) → after_verb (verb_of v) b (front_of p) ≡ front_of p
  unfolding verb_happens after
  idle-verb z =
      let none : happens (verb_of v) b (front_of p) ≡ Nothing = other _ (ne_eqb number 0 z) in
      ap (λ (e : Event). with_server (after p.frame (server_of p.server) e) (front_of p)) none

  pub acts_well : (r : After PlainFront FrontActed) → (is_front p && is_verb v) ≡ true → ActsWell p v b r → Acts p v b r.answer r.front
  acts_well r e w =
      let q = sym (act-number e) in
      record {
        number = ap (λ (a : FrontActed). a.number) w.answer ∙ q;
        event = ap (λ (a : FrontActed). a.event) w.answer ∙ ap (λ (n : ℕ). choose (eqb n 0) (event_number (happens (verb_of v) b (front_of p))) 0) q;
        role = ap (λ (a : FrontActed). a.role) w.answer ∙ ap (λ (n : ℕ). choose (eqb n 0) (role_number (after_verb (verb_of v) b (front_of p)).server.role) 0) q;
        front =
            by_number (act_number p v b) (λ z. w.front)
            (λ z. w.front ∙ ap plain_front (idle-verb (λ k. z (act-number e ∙ k))) ∙ front-faithful p (fst_true (is_front p) (is_verb v) e));
      }

  pub acts-ill : (is_front p && is_verb v) ≡ false → Acts p v b (record { number = ill; event = 0; role = 0 }) p
  unfolding act_number
  acts-ill e =
      let q = so e in
      record {
        number = sym q;
        event = by_number (act_number p v b) (λ z. absurd (omega (arith, q))) (λ z. refl);
        role = by_number (act_number p v b) (λ z. absurd (omega (arith, q))) (λ z. refl);
        front = by_number (act_number p v b) (λ z. absurd (omega (arith, q))) (λ z. refl);
      }
    where
      so : (is_front p && is_verb v) ≡ false → act_number p v b ≡ ill
      so e = other _ e
