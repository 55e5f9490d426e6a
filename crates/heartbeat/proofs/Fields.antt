-- Fields read one after the other, the values so far in hand. Assumes nothing.
use mathlib.Core.Path.{◌≡◌, refl, sym, ap, ◌∙◌}
use mathlib.Core.List.{List, [], ◌∷◌, ◌++◌}
use Prim.Native.Nat.{ℕ, suc}
use native.Mathlib.Omega.{arith}
use Rattle.lists.proofs.Parts.{next-part}
use Rattle.refusal.specs.Answer.{Answer, accepted, refused, in_turn, number_of}
use Rattle.refusal.specs.declared.Refusal.{Refusal}
use Rattle.refusal.proofs.Answers.{number-some, turn-refused, turn-accepted, turn-then, turn_more}
use Rattle.text.specs.Line.{field, after_field}

-- field k after the first tab is field k + 1
pub next_field : (s : List ℕ) {t : List ℕ} (k : ℕ) → t ≡ after_field s → field t k ≡ field s (suc k)
next_field s k e = ap (λ (l : List ℕ). field l k) e ∙ next-part 9 s k

module _ (vs : List ℕ) {a : Answer} where
  -- a value, and more fields
  pub took : {n : ℕ} {b b' : Answer} → accepted (n ∷ []) ≡ a → b' ≡ b → in_turn (accepted (vs ++ (n ∷ []))) b' ≡ in_turn (accepted vs) (in_turn a b)
  took {n} {b} {b'} e h = sym (turn_more vs (n ∷ []) b') ∙ ap (λ (x : Answer). in_turn (accepted vs) (in_turn (accepted (n ∷ [])) x)) h ∙ ap (λ (x : Answer). in_turn (accepted vs) (in_turn x b)) e

  -- a value, and no more
  pub took-last : {n : ℕ} → accepted (n ∷ []) ≡ a → accepted (vs ++ (n ∷ [])) ≡ in_turn (accepted vs) a
  took-last {n} e = sym (turn-accepted vs (accepted (n ∷ [])) refl) ∙ ap (in_turn (accepted vs)) e

  -- a refusal
  pub stops-last : (k : Refusal) → refused (number_of k) ≡ a → refused (number_of k) ≡ in_turn (accepted vs) a
  stops-last k e = sym (turn-then vs (refused (number_of k)) (λ z. omega (arith, number-some k))) ∙ ap (in_turn (accepted vs)) e

pub stops : (vs : List ℕ) {a : Answer} (b : Answer) (k : Refusal) → refused (number_of k) ≡ a → refused (number_of k) ≡ in_turn (accepted vs) (in_turn a b)
stops vs {a} b k e = stops-last vs k (sym (turn-refused (number_of k) a b (number-some k) (sym e)))
