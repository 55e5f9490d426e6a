-- No sheet has 2 to the 63 bytes. Assumes nothing.
use mathlib.Core.Bool.{true, false}
use mathlib.Core.Path.{◌≡◌, refl, ap, ◌∙◌}
use mathlib.Core.List.{List, [], ◌∷◌}
use mathlib.Core.Logic.{◌⊎◌, inl, inr}
use Prim.Native.Nat.{ℕ, zero, suc, ◌+◌, ◌*◌, ◌≤◌}
use native.Mathlib.Omega.{arith}
use lib.ListN.{length, length-append}
use Rattle.lists.proofs.Cases.{tested, on, by_choice}
use Rattle.timecode.specs.Label.{day_length}
use Rattle.day.specs.Read.{line_read}
use Rattle.day.specs.Day.{Effect, stop, go, line_effect, last_line, beyond}
use Rattle.day.specs.Sheet.{header}
use Rattle.feeding.specs.Fed.{Fed, beginning, whole_line, closed, waits, with_byte, remaining}
use Rattle.feeding.specs.Moves.{Move, effect_move, placed_move, line_move, step_move}
use Rattle.feeding.specs.Bound.{step_bytes, Bounded}
use Rattle.feeding.specs.Laws.{steps_left}
use Rattle.feeding.proofs.Remaining.{byte_left}
use Rattle.feeding.proofs.Finishing.{not-waiting}
use Rattle.feeding.proofs.Laws.{laws}
use Rattle.printer.proofs.Turning.{steps-few}
use Rattle.judging.specs.Bounds.{SheetsAreShort}

-- ---- what a step does to a line that waits

-- it ends the sheet, is done with the line, or keeps it
abbrev Onward : Fed → Fed → Type 0
Onward f g = (g.over ≡ true) ⊎ ((g.number ≡ f.number + 1) ⊎ ((g.number ≡ f.number) × (waits g ≡ true)))

effect_on : (f : Fed) (x : Effect) → Onward f (effect_move f x).fed
effect_on f (stop n) = inl refl
effect_on f (go w e) = inr (inl refl)

step-on : (f : Fed) (room : ℕ) → waits f ≡ true → Onward f (step_move f room).fed
unfolding step_move line_move placed_move
step-on f room e =
    by_choice (λ (m : Move). Onward f m.fed) _
    (λ t.
    by_choice (λ (m : Move). Onward f m.fed) _
    (λ t. by_choice (λ (m : Move). Onward f m.fed) _ (λ t. effect_on f (line_effect f.day (line_read f.line))) (λ t. inr (inr (refl, e))))
    (λ t. effect_on f (beyond (line_read f.line))))
    (λ t. inr (inr (refl, e)))

-- ---- the bytes of a line

-- a step for each frame of a day and two more, each with as many bytes as a step can have
abbrev per_line : ℕ
per_line = (day_length + 2) * step_bytes

-- at most n lines more can come, the one under way and the one that is too many among them
abbrev Left : ℕ → Fed → Type 0
Left n f = suc (suc last_line) ≤ f.number + n

-- what is still to be printed has at most x bytes
abbrev Short : Fed → ℕ → Type 0
Short f x = (s : List ℕ) → length (remaining f s) ≤ x

over-short : (f : Fed) → f.over ≡ true → Short f 0
over-short f e s = let l = ap length (laws.over f s e) in omega arith

-- this being known where at most n lines can come, one line more
module _ (n : ℕ) (below : (g : Fed) → Bounded g → Left n g → Short g (n * per_line)) where
  -- k steps for the line that waits, and then the n lines
  steps-short : (k : ℕ) (f : Fed) → Bounded f → Left (suc n) f → waits f ≡ true → steps_left f ≤ k → Short f (k * step_bytes + n * per_line)
  steps-short zero f q h e few s = absurd (let l = laws.stepping f step_bytes e in omega arith)
  steps-short (suc k) f q h e few s =
      let m = step_move f step_bytes in
      let fewer = laws.stepping f step_bytes e in
      let fits = laws.fit f step_bytes q (omega arith) in
      let long : length (remaining f s) ≡ length m.lines + length (remaining m.fed s) = ap length (laws.steps f step_bytes s) ∙ length-append m.lines (remaining m.fed s) in
      let kept = laws.stepping-bounded f step_bytes q in
      on (step-on f step_bytes e)
      (λ o. let rest = over-short m.fed o s in omega arith)
      (λ p.
      on p
      (λ next. let rest = below m.fed kept (omega arith) s in omega arith)
      (λ same. let at = same.0 in let rest = steps-short k m.fed kept (omega arith) same.1 (omega arith) s in omega arith))

  -- a line waits, or the sheet is over, or bytes are taken
  either-short : (s : List ℕ) (f : Fed) → Bounded f → Left (suc n) f →
      (waits f ≡ false → closed f ≡ false → length (remaining f s) ≤ suc n * per_line) → length (remaining f s) ≤ suc n * per_line
  either-short s f q h more =
      on (tested (waits f))
      (λ e. let few = steps-few f in let l = steps-short (day_length + 2) f q h e (omega arith) s in omega arith)
      (λ e.
      on (tested (closed f))
      (λ t. let l = over-short f (not-waiting f.over (whole_line f.line) e t) s in omega arith)
      (λ t. more e t))

  line-short : (s : List ℕ) (f : Fed) → Bounded f → Left (suc n) f → length (remaining f s) ≤ suc n * per_line
  line-short [] f q h = either-short [] f q h (λ e t. let l = laws.last_fits f q in let is = ap length (laws.last f e) in omega arith)
  line-short (x ∷ s) f q h =
      either-short (x ∷ s) f q h
      (λ e t.
      let l = line-short s (with_byte f x) (record { number = q.number; channel = q.channel }) h in
      let is = ap length (byte_left f x s t) in
      omega arith)

-- ---- all lines

lines-short : (n : ℕ) (f : Fed) → Bounded f → Left n f → Short f (n * per_line)
lines-short zero f q h s = absurd (let l = q.number in omega arith)
lines-short (suc n) f q h s = line-short n (lines-short n) s f q h

pub sheets_are_short : SheetsAreShort
sheets_are_short s =
    let l = lines-short (suc last_line) beginning laws.bounded (omega arith) s in
    let is = ap length (laws.begins s) in
    let k = length-append header (remaining beginning s) in
    omega arith
