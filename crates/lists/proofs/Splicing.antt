-- Laws of `splice`. Assumes nothing.
use mathlib.Core.Path.{◌≡◌, sym, ap, ◌∙◌}
use mathlib.Core.List.{List, [], ◌∷◌, ◌++◌, append_assoc}
use Prim.Native.Nat.{ℕ, suc, ◌+◌, ◌≤◌, ◌<◌}
use native.Mathlib.Numerals.{add-one}
use native.Mathlib.Omega.{arith}
use lib.ListN.{length, take, drop, set, length-append}
use lib.Seq.{paste, paste-zero, paste-suc, length-paste, take-length, take-append_seam, get_or-append_seam, take_at, length-take-le, drop-append-add, drop-drop}
use Rattle.lists.specs.Splice.{splice}

module _ {A : Type 0} where
  -- nothing written
  pub splice-none : (d : List A) (at : ℕ) → splice d at [] ≡ d
  splice-none d at = sym (paste-zero d at [])

  pub splice-length : (d : List A) (at : ℕ) (w : List A) → at + length w ≤ length d → length (splice d at w) ≡ length d
  splice-length d at w h =
      ap (λ (l : List A). length (take at d ++ l ++ drop (at + length w) d)) (sym (take-length w)) ∙ length-paste d at w (length w) h (omega arith)

  -- v written after w
  pub splices :
      (d : List A) (at : ℕ) (w v : List A) → at + length (w ++ v) ≤ length d →
      splice (splice d at w) (at + length w) v ≡ splice d at (w ++ v)
  splices d at w v h =
      let k = at + length w in
      let x = take at d ++ w in
      let e = length-append w v in
      let lx : length x ≡ k = length-append (take at d) w ∙ ap (λ (n : ℕ). n + length w) (length-take-le at d (omega arith)) in
      let j : k + length v ≡ at + length (w ++ v) = omega arith in
      ap (λ (l : List A). l ++ v ++ drop (k + length v) (x ++ drop k d)) (take_at x (drop k d) k lx)
      ∙ ap (λ (n : ℕ). x ++ v ++ drop (n + length v) (x ++ drop k d)) (sym lx)
      ∙ ap (λ (l : List A). x ++ v ++ l) (drop-append-add x (drop k d) (length v) ∙ drop-drop (length v) k d ∙ ap (λ (n : ℕ). drop n d) j)
      ∙ ap (λ (l : List A). l ++ drop (at + length (w ++ v)) d) (append_assoc (take at d) w v)

  -- one element more after what was written
  pub splice-more :
      (d : List A) (at : ℕ) (w : List A) (b : A) → at + length w < length d →
      set (splice d at w) (at + length w) b ≡ splice d at (w ++ (b ∷ []))
  splice-more d at w b h =
      let s = w ++ (b ∷ []) in
      let e : length s ≡ suc (length w) = length-append w (b ∷ []) ∙ add-one (length w) in
      ap (λ (l : List A). set (take at d ++ l ++ drop (at + length w) d) (at + length w) b) (sym (take-append_seam w (b ∷ [])))
      ∙ ap (set (paste d at s (length w)) (at + length w)) (sym (get_or-append_seam w b [] b))
      ∙ paste-suc d at s (length w) b h (omega (arith, e))
      ∙ ap (paste d at s) (sym e)
      ∙ ap (λ (l : List A). take at d ++ l ++ drop (at + length s) d) (take-length s)

  -- what a loop that copies w has written after its last turn
  pub splice_pasted : (d : List A) (at : ℕ) (w : List A) (j : ℕ) → j ≡ length w → paste d at w j ≡ splice d at w
  splice_pasted d at w j e = rw (e, take-length)
