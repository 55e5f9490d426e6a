-- What was written, from what the engine's writers answer. Assumes nothing.
use Rattle.std.specs.Prelude.{Result}
use mathlib.Core.Bool.{Bool, true, false, ◌&&◌}
use mathlib.Core.List.{List, [], ◌∷◌}
use mathlib.Core.Path.{◌≡◌, sym, ap, ap₂, subst, ◌∙◌}
use mathlib.Core.Logic.{◌⊎◌, inl, inr}
use Prim.Native.Nat.{ℕ, ◌+◌, ◌≤◌}
use native.Mathlib.Omega.{arith}
use borrow.Author.Tests.{lt-leb, leb-true}
use lib.Dec.{leb}
use lib.ListN.{length}
use Rattle.lists.specs.Choice.{choose}
use Rattle.lists.specs.Splice.{fits}
use Rattle.lists.proofs.Cases.{tested, chosen, other}
use Rattle.lists.proofs.Splicing.{splice-length}
use Rattle.refusal.specs.Answer.{accepted, refused}
use Rattle.text.specs.Write.{of_written, writing, wrote, Writes, WritesIf}
use Rattle.lines.specs.Lines.{place_after, Says}
use Rattle.playout.specs.declared.PlainWritten.{PlainWritten}
use Rattle.playout.specs.Writing.{written_of, Puts, PutsIf}
use Rattle.playout.specs.Steps.{written_to}
use Rattle.refusal.specs.declared.Refusal.{Refusal}

module _ {d w d' : List ℕ} {r : PlainWritten} where
  pub puts : {x : Result ℕ Refusal} → Writes d 0 w x d' → r ≡ written_of (of_written x) → Puts d w r d'
  puts q e = record { answer = e ∙ ap written_of q.answer; slice = q.slice }

  pub puts_if : {x : Result ℕ Refusal} {ok : Bool} {k : ℕ} → WritesIf ok k d 0 w x d' → r ≡ written_of (of_written x) → PutsIf ok k d w r d'
  puts_if q e = record { answer = e ∙ ap written_of q.answer; slice = q.slice }

  pub puts_yes : {ok : Bool} (k : ℕ) → ok ≡ true → Puts d w r d' → PutsIf ok k d w r d'
  puts_yes k e q = record { answer = q.answer ∙ ap written_of (sym (chosen _ e)); slice = q.slice ∙ sym (chosen _ e) }

  -- another test that holds
  pub puts_and : {a : Bool} {b : Bool} {k : ℕ} → a ≡ true → PutsIf b k d w r d' → PutsIf (a && b) k d w r d'
  puts_and {a} {b} {k} e q = subst (λ (t : Bool). PutsIf (t && b) k d w r d') (sym e) q

pub puts_no : {ok : Bool} (k : ℕ) (d w : List ℕ) → ok ≡ false → PutsIf ok k d w (record { number = k; written = 0 }) d
puts_no k d w e = record { answer = ap written_of (sym (other _ e)); slice = sym (other _ e) }

-- the place after lines, as an answer
pub written-fits : (n room : ℕ) → leb n room ≡ true → record { number = 0; written = n } ≡ written_to n room
written-fits n room e = sym (ap₂ (λ (x y : ℕ). record { number = x; written = y }) (chosen _ e) (chosen _ e))

pub written-not : (n room : ℕ) → leb n room ≡ false → record { number = 9; written = 0 } ≡ written_to n room
written-not n room e = sym (ap₂ (λ (x y : ℕ). record { number = x; written = y }) (other _ e) (other _ e))

-- lines said at the slice's start: the place after them tells whether they fit
pub puts-said : {d w d' : List ℕ} {at : ℕ} {r : PlainWritten} → Says true d 0 w at d' → r ≡ written_to at (length d') → Puts d w r d'
unfolding writing wrote place_after
puts-said {d} {w} {d'} {at} {r} s e = record { answer = e ∙ place (tested (fits d 0 w)); slice = s.slice }
  where
    to : (n : ℕ) → at ≡ n → length d' ≡ length d → written_to at (length d') ≡ written_to n (length d)
    to n p q = ap₂ (λ (x y : ℕ). written_to x y) p q

    place : (fits d 0 w ≡ true) ⊎ (fits d 0 w ≡ false) → written_to at (length d') ≡ written_of (choose (fits d 0 w) (accepted ((0 + length w) ∷ [])) (refused 9))
    place (inl f) =
        let h : 0 + length w ≤ length d = leb-true _ _ f in
        to (0 + length w) (s.place ∙ chosen _ f) (ap length (s.slice ∙ chosen _ f) ∙ splice-length d 0 w h)
        ∙ sym (written-fits (0 + length w) (length d) f)
        ∙ ap written_of (sym (chosen _ f))
    place (inr f) =
        let g : leb (length d + 1) (length d) ≡ false = lt-leb (length d + 1) (length d) (omega arith) in
        to (length d + 1) (s.place ∙ other _ f) (ap length (s.slice ∙ other _ f)) ∙ sym (written-not (length d + 1) (length d) g) ∙ ap written_of (sym (other _ f))
