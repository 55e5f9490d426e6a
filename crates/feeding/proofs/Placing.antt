-- Lines in their place and out of it. Assumes nothing.
use mathlib.Core.List.{[]}
use mathlib.Core.Bool.{true, false}
use mathlib.Core.Path.{◌≡◌, refl, sym, ap, ap₂, ◌∙◌}
use Prim.Native.Nat.{ℕ, ◌-◌, ◌≤◌, ◌<◌}
use native.Mathlib.Omega.{arith}
use borrow.Author.Tests.{eq-eqb, ne_eqb, lt-ltb, le-ltb, le-leb, lt-leb}
use lib.Dec.{eqb}
use Rattle.lists.specs.Choice.{choose}
use Rattle.lists.proofs.Cases.{chosen, other, same_choice}
use Rattle.roles.specs.declared.Verb.{Verb}
use Rattle.group.specs.declared.State.{State}
use Rattle.group.specs.Verbs.{known}
use Rattle.group.specs.Advance.{advanced_by, lines_by}
use Rattle.day.specs.Read.{DayLine, entry, end}
use Rattle.day.specs.Day.{Stage, atPeriod, atServers, atEntries, atClose, Effect, stop, go, on, refusal, call_effect, entry_effect, end_effect, opening, in_place, line_effect, last_line, beyond}
use Rattle.feeding.specs.Fed.{Fed}
use Rattle.feeding.specs.Moves.{stopping, going, effect_move, place_refusal, frames_due, due_frames, frames_now, advancing, placed_move, line_move}
use Rattle.feeding.specs.Steps.{on_move}

-- ---- in place or not

pub in_place_lem : (g : Stage) (c : State) (s : Effect) → place_refusal g c ≡ 0 → in_place g c s ≡ s
unfolding place_refusal opening
in_place_lem atPeriod c s e = absurd (omega arith)
in_place_lem atServers c s e = rw (eq-eqb _ 0 e, opening)
in_place_lem atEntries c s e = refl
in_place_lem atClose c s e = absurd (omega arith)

pub out_of_place : (g : Stage) (c : State) (s : Effect) {n : ℕ} → place_refusal g c ≡ n → (n ≡ 0 → ⊥) → in_place g c s ≡ stop n
unfolding place_refusal opening
out_of_place atPeriod c s e h = ap stop e
out_of_place atServers c s e h = rw (ne_eqb _ 0 (λ z. h (sym e ∙ z)), opening) (ap stop e)
out_of_place atEntries c s e h = absurd (h (sym e))
out_of_place atClose c s e h = ap stop e

module _ (f : Fed) (room : ℕ) (l : DayLine) where
  now : due_frames f.day l ≡ 0 → placed_move f room l ≡ effect_move f (line_effect f.day l)
  unfolding placed_move
  now e = chosen _ (eq-eqb _ 0 e)

  -- a line that waits for no frame
  pub placed_now : frames_due f.day.channel l ≡ 0 → placed_move f room l ≡ effect_move f (line_effect f.day l)
  unfolding due_frames
  placed_now e = now (ap (λ (n : ℕ). choose (eqb (place_refusal f.day.stage f.day.channel) 0) n 0) e ∙ same_choice _ 0)

  -- an entry or `end`, with the effect s in its place
  module _ (s : State → Effect) (is : line_effect f.day l ≡ in_place f.day.stage f.day.channel (s f.day.channel)) where
    pub placed_on : {c : State} → place_refusal f.day.stage f.day.channel ≡ 0 → c ≡ f.day.channel → on_move f room c l (s c) ≡ placed_move f room l
    unfolding on_move placed_move due_frames
    placed_on {c} e q =
        let due : due_frames f.day l ≡ frames_due f.day.channel l = chosen 0 (eq-eqb _ 0 e) in
        ap (λ (x : State). on_move f room x l (s x)) q
        ∙ sym
        (ap₂ (λ (n : ℕ) (x : Effect). choose (eqb n 0) (effect_move f x) (advancing f f.day.channel (frames_now f.day.channel n room))) due
        (is ∙ in_place_lem f.day.stage f.day.channel (s f.day.channel) e))

    pub placed_not : {n : ℕ} → place_refusal f.day.stage f.day.channel ≡ n → (n ≡ 0 → ⊥) → stopping f n ≡ placed_move f room l
    unfolding due_frames
    placed_not {n} e h =
        sym
        (now (other _ (ne_eqb _ 0 (λ z. h (sym e ∙ z))))
        ∙ ap (effect_move f) (is ∙ out_of_place f.day.stage f.day.channel (s f.day.channel) e h))

  -- by its number
  pub placed_line : f.number ≤ last_line → placed_move f room l ≡ line_move f room l
  unfolding line_move
  placed_line h = sym (chosen _ (le-leb f.number last_line h))

  pub beyond-line : {n : ℕ} → last_line < f.number → beyond l ≡ stop n → stopping f n ≡ line_move f room l
  unfolding line_move
  beyond-line h e = sym (other _ (lt-leb f.number last_line h) ∙ ap (effect_move f) e)

-- ---- on the channel

module _ (f : Fed) (room : ℕ) (c : State) where
  on-now : (l : DayLine) (s : Effect) → frames_due c l ≡ 0 → effect_move f s ≡ on_move f room c l s
  unfolding on_move
  on-now l s e = sym (chosen _ (eq-eqb _ 0 e))

  on-later : (l : DayLine) (s : Effect) {n : ℕ} → frames_due c l ≡ n → 0 < n → advancing f c (frames_now c n room) ≡ on_move f room c l s
  unfolding on_move
  on-later l s {n} e h = sym (other _ (ne_eqb _ 0 (λ z. omega (arith, sym e ∙ z))) ∙ ap (λ (m : ℕ). advancing f c (frames_now c m room)) e)

  module _ (t : ℕ) (v : Verb) (a b : ℕ) where
    abbrev this : DayLine
    this = entry t v a b

    abbrev does : Effect
    does = entry_effect c t v a b

    -- 8
    pub entry-unknown : known c v a b ≡ false → stopping f 8 ≡ on_move f room c this does
    unfolding entry_effect
    entry-unknown e = ap (effect_move f) (sym (let z : does ≡ stop 8 = rw (e, entry_effect) in z)) ∙ on-now this does (other _ e)

    module _ (k : known c v a b ≡ true) where
      due : frames_due c this ≡ t - c.frame
      due = chosen 0 k

      -- 11
      pub entry_past : t < c.frame → going f (refusal c a 11) (on atEntries c) ≡ on_move f room c this does
      unfolding entry_effect
      entry_past h =
          ap (effect_move f) (sym (let z : does ≡ go (refusal c a 11) (on atEntries c) = rw (k, entry_effect) (rw (lt-ltb t c.frame h)) in z))
          ∙ on-now this does (due ∙ omega arith)

      pub entry-later : c.frame < t → advancing f c (frames_now c (t - c.frame) room) ≡ on_move f room c this does
      entry-later h = on-later this does due (omega arith)

      pub entry-now : t ≡ c.frame → effect_move f (call_effect [] c v a b) ≡ on_move f room c this does
      unfolding entry_effect advanced_by lines_by
      entry-now e =
          let none : t - c.frame ≡ 0 = omega arith in
          ap (effect_move f)
          (sym (let z : does ≡ call_effect (lines_by (t - c.frame) c) (advanced_by (t - c.frame) c) v a b = rw (k, entry_effect) (rw (le-ltb t c.frame (omega arith))) in z ∙ ap (λ (n : ℕ). call_effect (lines_by n c) (advanced_by n c) v a b) none))
          ∙ on-now this does (due ∙ none)

  module _ (t : ℕ) where
    abbrev ends : Effect
    ends = end_effect c t

    pub end-past : t < c.frame → going f (refusal c 0 11) (on atEntries c) ≡ on_move f room c (end t) ends
    unfolding end_effect
    end-past h = ap (effect_move f) (sym (let z : ends ≡ go (refusal c 0 11) (on atEntries c) = rw (lt-ltb t c.frame h, end_effect) in z)) ∙ on-now (end t) ends (omega arith)

    pub end_later : c.frame < t → advancing f c (frames_now c (t - c.frame) room) ≡ on_move f room c (end t) ends
    end_later h = on-later (end t) ends refl (omega arith)

    pub end-now : t ≡ c.frame → going f [] (on atClose c) ≡ on_move f room c (end t) ends
    unfolding end_effect advanced_by lines_by
    end-now e =
        let none : t - c.frame ≡ 0 = omega arith in
        ap (effect_move f)
        (sym (let z : ends ≡ go (lines_by (t - c.frame) c) (on atClose (advanced_by (t - c.frame) c)) = rw (le-ltb t c.frame (omega arith), end_effect) in z ∙ ap (λ (n : ℕ). go (lines_by n c) (on atClose (advanced_by n c))) none))
        ∙ on-now (end t) ends none
