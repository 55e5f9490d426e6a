use Rattle.std.proofs.lemmas.Result.{err_from_is_err_and}
use mathlib.Core.Path.{◌≡◌, refl, sym, ap, ◌∙◌}
use mathlib.Core.List.{List, [], ◌∷◌}
use Prim.Native.Nat.{ℕ}
use native.Mathlib.Omega.{arith}
use Rattle.refusal.specs.Answer.{Answer, accepted, refused, in_turn, number_of}
use Rattle.refusal.specs.declared.Refusal.{Refusal}
use Rattle.refusal.proofs.Answers.{number-some, turn-refused}
use Rattle.text.specs.Line.{field, after_field}
use Rattle.text.proofs.Reading.{number-within}
use Rattle.heartbeat.specs.Rank.{read_identity, read_priority}
use Rattle.heartbeat.specs.Heartbeat.{read_bs, read_reveal, read_fields}
use Rattle.heartbeat.proofs.Fields.{next_field, took, took-last, stops, stops-last}
use Rattle.heartbeat.proofs.read_fields.Goals as goal

-- ---- the first field after two tabs, and after three

field2 : (s : List ℕ) {t u : List ℕ} → t ≡ after_field s → u ≡ after_field t → field u 0 ≡ field s 2
field2 s {t} p q = next_field t 0 q ∙ next_field s 1 p

field3 : (s : List ℕ) {t u v : List ℕ} → t ≡ after_field s → u ≡ after_field t → v ≡ after_field u → field v 0 ≡ field s 3
field3 s {t} {u} p q r = next_field u 0 r ∙ next_field t 1 q ∙ next_field s 2 p

-- ---- where the fields end: each by what was read before

module _ (s : List ℕ) where
  bs_not : (k : Refusal) → refused (number_of k) ≡ read_bs (field s 0) → refused (number_of k) ≡ read_fields s
  unfolding read_fields
  bs_not k e = sym (turn-refused (number_of k) _ _ (number-some k) (sym e))

  module _ {b : ℕ} (e0 : accepted (b ∷ []) ≡ read_bs (field s 0)) where
    from_bs : (x : Answer) → in_turn (accepted (b ∷ [])) x ≡ in_turn (read_bs (field s 0)) x
    from_bs x = ap (λ (a : Answer). in_turn a x) e0

    priority_not : (k : Refusal) → refused (number_of k) ≡ read_priority (field s 1) → refused (number_of k) ≡ read_fields s
    unfolding read_fields
    priority_not k e = stops (b ∷ []) _ k e ∙ from_bs _

    module _ {p : ℕ} (e1 : accepted (p ∷ []) ≡ read_priority (field s 1)) where
      from_priority : {x y : Answer} → x ≡ y → in_turn (accepted (b ∷ p ∷ [])) x ≡ in_turn (read_bs (field s 0)) (in_turn (read_priority (field s 1)) y)
      from_priority e = took (b ∷ []) e1 e ∙ from_bs _

      tiebreaker_not : (k : Refusal) → refused (number_of k) ≡ read_identity (field s 2) → refused (number_of k) ≡ read_fields s
      unfolding read_fields
      tiebreaker_not k e = stops (b ∷ p ∷ []) _ k e ∙ from_priority refl

      module _ {t : ℕ} (e2 : accepted (t ∷ []) ≡ read_identity (field s 2)) where
        reveal_not : (k : Refusal) → refused (number_of k) ≡ read_reveal (field s 3) → refused (number_of k) ≡ read_fields s
        unfolding read_fields
        reveal_not k e = stops-last (b ∷ p ∷ t ∷ []) k e ∙ took (b ∷ p ∷ []) e2 refl ∙ from_priority refl

        all_read : {r : ℕ} → accepted (r ∷ []) ≡ read_reveal (field s 3) → accepted (b ∷ p ∷ t ∷ r ∷ []) ≡ read_fields s
        unfolding read_fields
        all_read e = took-last (b ∷ p ∷ t ∷ []) e ∙ took (b ∷ p ∷ []) e2 refl ∙ from_priority refl

pub returns-in_err-bs : goal.returns-in_err-bs
returns-in_err-bs c =
    let p = err_from_is_err_and c.from_residual.result c.from_residual.ensures.1 in
    rw (p.1, p.2) (bs_not _ _ (c.in_err-bs.ensures ∙ ap read_bs c.first_field.ensures))

pub returns-in_err-priority : goal.returns-in_err-priority
returns-in_err-priority c =
    let s = c.args.s.now in
    let p = err_from_is_err_and c.from_residual-in_err-priority.result c.from_residual-in_err-priority.ensures.1 in
    rw (p.1, p.2)
    (priority_not s (c.in_ok-bs.ensures ∙ ap read_bs c.first_field.ensures) _
    (c.in_err-priority.ensures ∙ ap read_priority (c.first_field-2.ensures ∙ next_field s 0 c.after_field-after_bs.ensures)))

pub returns-in_err-tiebreaker : goal.returns-in_err-tiebreaker
returns-in_err-tiebreaker c =
    let s = c.args.s.now in
    let p = err_from_is_err_and c.from_residual-in_err-tiebreaker.result c.from_residual-in_err-tiebreaker.ensures.1 in
    rw (p.1, p.2)
    (tiebreaker_not s (c.in_ok-bs.ensures ∙ ap read_bs c.first_field.ensures)
    (c.in_ok-priority.ensures ∙ ap read_priority (c.first_field-2.ensures ∙ next_field s 0 c.after_field-after_bs.ensures)) _
    (c.in_err-tiebreaker.ensures ∙ ap read_identity (c.first_field-3.ensures ∙ field2 s c.after_field-after_bs.ensures c.after_field-after_priority.ensures)))

pub returns-in_err-reveal : goal.returns-in_err-reveal
returns-in_err-reveal c =
    let s = c.args.s.now in
    let p = err_from_is_err_and c.from_residual-in_err-reveal.result c.from_residual-in_err-reveal.ensures.1 in
    rw (p.1, p.2)
    (reveal_not s (c.in_ok-bs.ensures ∙ ap read_bs c.first_field.ensures)
    (c.in_ok-priority.ensures ∙ ap read_priority (c.first_field-2.ensures ∙ next_field s 0 c.after_field-after_bs.ensures))
    (c.in_ok-tiebreaker.ensures ∙ ap read_identity (c.first_field-3.ensures ∙ field2 s c.after_field-after_bs.ensures c.after_field-after_priority.ensures)) _
    (c.in_err-reveal.ensures
    ∙ ap read_reveal (c.first_field-4.ensures ∙ field3 s c.after_field-after_bs.ensures c.after_field-after_priority.ensures c.after_field-after_tiebreaker.ensures)))

pub overflow_cast-result : goal.overflow_cast-result
overflow_cast-result c = omega (arith, (number-within 0 65535 _ _ c.in_ok-bs.ensures).1)

pub overflow_cast-result-2 : goal.overflow_cast-result-2
overflow_cast-result-2 c = omega (arith, (number-within 0 255 _ _ c.in_ok-priority.ensures).1)

pub overflow_cast-result-3 : goal.overflow_cast-result-3
overflow_cast-result-3 c = omega (arith, (number-within 1 65535 _ _ c.in_ok-tiebreaker.ensures).1)

pub overflow_cast-result-4 : goal.overflow_cast-result-4
overflow_cast-result-4 c = omega (arith, (number-within 0 255 _ _ c.in_ok-reveal.ensures).1)

pub returns : goal.returns
returns c =
    let s = c.args.s.now in
    all_read s (c.in_ok-bs.ensures ∙ ap read_bs c.first_field.ensures)
    (c.in_ok-priority.ensures ∙ ap read_priority (c.first_field-2.ensures ∙ next_field s 0 c.after_field-after_bs.ensures))
    (c.in_ok-tiebreaker.ensures ∙ ap read_identity (c.first_field-3.ensures ∙ field2 s c.after_field-after_bs.ensures c.after_field-after_priority.ensures))
    (c.in_ok-reveal.ensures
    ∙ ap read_reveal (c.first_field-4.ensures ∙ field3 s c.after_field-after_bs.ensures c.after_field-after_priority.ensures c.after_field-after_tiebreaker.ensures))
