-- What a verb makes of a server, from what its role allows. Assumes nothing.
use Rattle.std.specs.Prelude.{Ok}
use mathlib.Core.Bool.{Bool, true, false, ◌&&◌, ◌||◌}
use mathlib.Core.Path.{◌≡◌, refl, sym, ap, ◌∙◌}
use mathlib.Core.List.{[], ◌∷◌}
use Prim.Native.Nat.{ℕ}
use native.Mathlib.Omega.{arith}
use borrow.Author.Tests.{ne_eqb}
use lib.Dec.{eqb}
use Rattle.lists.proofs.Cases.{chosen, other}
use Rattle.refusal.specs.Answer.{Answer, accepted, refused, number_of}
use Rattle.refusal.specs.declared.Refusal.{Refusal}
use Rattle.refusal.proofs.Answers.{number-some}
use Rattle.roles.specs.declared.Verb.{Verb}
use Rattle.roles.specs.declared.Event.{Event}
use Rattle.roles.specs.declared.Event.TheVariants.{Nothing}
use Rattle.server.specs.declared.Server.{Server}
use Rattle.server.specs.Server.{after}
use Rattle.roles.specs.Verbs.{enters, verb_event, verb_happens, paired}
use Rattle.server.specs.Verbs.{verb_answer, refusing, Acts}

module _ (v : Verb) (t b : ℕ) (s : Server) where
  happens : (k : ℕ) → verb_happens v b (accepted (k ∷ [])) ≡ verb_event v b k
  unfolding verb_happens
  happens k = chosen _ refl

  nothing : (n : ℕ) → (n ≡ 0 → ⊥) → verb_happens v b (refused n) ≡ Nothing
  unfolding verb_happens
  nothing n h = other _ (ne_eqb n 0 h)

  -- a refusal
  pub refused_with : (a : Answer) (k : Refusal) → refused (number_of k) ≡ a → Acts v t b s a (refusing s k)
  unfolding after
  refused_with a k e =
      let none : verb_happens v b a ≡ Nothing = ap (verb_happens v b) (sym e) ∙ nothing (number_of k) (λ z. omega (arith, number-some k)) in
      record { number = ap (λ (x : Answer). x.number) e; event = sym none; server = sym (ap (after t s) none) }

  -- a role entered or kept
  pub allowed :
      (a : Answer) (n : ℕ) {e : Event} {s' : Server} → accepted (n ∷ []) ≡ a → e ≡ verb_event v b n → s' ≡ after t s e →
      Acts v t b s a (record { verdict = (Ok tt); server = s'; event = e })
  allowed a n is e f =
      let so : verb_event v b n ≡ verb_happens v b a = sym (happens n) ∙ ap (verb_happens v b) is in
      record { number = ap (λ (x : Answer). x.number) is; event = e ∙ so; server = f ∙ ap (after t s) (e ∙ so) }

-- the tests before the table, p being whether the verb is a pass
module _ (v : Verb) (b : ℕ) (s : Server) {p : Bool} (e : p ≡ paired v) where
  abbrev nobody : Bool → Bool
  nobody q = eqb s.identity 0 || (q && eqb b 0)

  abbrev itself : Bool → Bool
  itself q = q && eqb b s.identity

  pub to-nobody : nobody p ≡ true → refused 2 ≡ verb_answer v b s
  unfolding verb_answer
  to-nobody t = sym (chosen _ (sym (ap nobody e) ∙ t))

  pub to-itself : nobody p ≡ false → itself p ≡ true → refused 8 ≡ verb_answer v b s
  unfolding verb_answer
  to-itself f t = sym (other _ (sym (ap nobody e) ∙ f) ∙ chosen _ (sym (ap itself e) ∙ t))

  pub to_another : nobody p ≡ false → itself p ≡ false → enters v s.role ≡ verb_answer v b s
  unfolding verb_answer
  to_another f g = sym (other _ (sym (ap nobody e) ∙ f) ∙ other _ (sym (ap itself e) ∙ g))
