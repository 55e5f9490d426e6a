-- Bytes written where they fit, one piece after the other; the pieces of a line. Assumes nothing.
use Rattle.std.specs.Prelude.{Result, Ok}
use mathlib.Core.Path.{◌≡◌, sym, ap, ap₂, ◌∙◌}
use mathlib.Core.List.{List, ◌++◌, append_assoc, append-nil}
use Prim.Native.Nat.{ℕ, ◌+◌, ◌-◌, ◌≤◌}
use native.Mathlib.Omega.{arith}
use borrow.Rule.Slice.PartMut.{mid_of, put_mid, mid_len, Post-is}
use lib.ListN.{length, take, drop, length-append}
use lib.Seq.{drop-length}
use Rattle.lists.specs.Splice.{splice}
use Rattle.lists.proofs.Splicing.{splice-length, splices}
use Rattle.text.specs.Digits.{digits}
use Rattle.text.specs.Words.{bytes}
use Rattle.text.specs.Write.{Writes}
use Rattle.timecode.specs.Label.{label}
use Rattle.lines.specs.Lines.{line_end, line}
use Rattle.text.proofs.Writing.{first_piece, writes-to, written-end, written-slice}
use Rattle.refusal.specs.declared.Refusal.{Refusal}

-- w written over a list of its length
splice_all : (m w : List ℕ) → length m ≡ length w → splice m 0 w ≡ w
splice_all m w e =
    let f : 0 + length w ≡ length m = omega arith in
    ap (λ (n : ℕ). w ++ drop n m) f ∙ ap (λ (l : List ℕ). w ++ l) (drop-length m) ∙ append-nil w

-- w written into the part of d that it fills
pub writes-part :
    {d w y : List ℕ} {at : ℕ} {r : Result ℕ Refusal} → at + length w ≤ length d → Writes (mid_of at ((at + length w) - at) d) 0 w r y →
    Writes d at w (Ok (at + length w)) (put_mid at ((at + length w) - at) d y)
writes-part {d} {w} {y} {at} h p =
    let e = at + length w in
    let n : length (mid_of at (e - at) d) ≡ length w = omega (arith, mid_len at e d h) in
    let is : y ≡ w = (first_piece p).slice (omega (arith, n)) ∙ splice_all (mid_of at (e - at) d) w n in
    writes-to
    h
    (omega arith)
    (ap₂ (λ (v z : List ℕ). take at d ++ (v ++ z)) is (Post-is at e d (omega arith)) ∙ sym (append_assoc (take at d) w (drop e d)))

-- v after w: its room, and both
module _ {d : List ℕ} {at : ℕ} {w : List ℕ} {k : ℕ} {d₁ : List ℕ} (v : List ℕ) (h : at + length (w ++ v) ≤ length d) (p : Writes d at w (Ok k) d₁) where
  fits : at + length w ≤ length d
  fits = omega (arith, length-append w v)

  pub room : k + length v ≤ length d₁
  room = omega (arith, length-append w v, written-end fits p, ap length (written-slice fits p) ∙ splice-length d at w fits)

  pub then : {r : ℕ} {d₂ : List ℕ} → Writes d₁ k v (Ok r) d₂ → Writes d at (w ++ v) (Ok r) d₂
  then q =
      writes-to
      h
      (omega (arith, length-append w v, written-end fits p, written-end room q))
      (written-slice room q ∙ ap₂ (λ (l : List ℕ) (n : ℕ). splice l n v) (written-slice fits p) (written-end fits p) ∙ splices d at w v h)

-- the pieces of a line: each has room after those before it, and together they are the line
module _ {d : List ℕ} {at a : ℕ} {d₁ : List ℕ} (t i : ℕ) (w : List ℕ) (h : at + length (line t i w) ≤ length d) (label-put : Writes d at (label t) (Ok a) d₁) where
  after-label : a + length (bytes "\t" ++ (digits i ++ line_end w)) ≤ length d₁
  unfolding line
  after-label = room (bytes "\t" ++ (digits i ++ line_end w)) h label-put

  pub tab-room : a + length (bytes "\t") ≤ length d₁
  tab-room = omega (arith, after-label)

  module _ {b : ℕ} {d₂ : List ℕ} (tab-put : Writes d₁ a (bytes "\t") (Ok b) d₂) where
    after-tab : b + length (digits i ++ line_end w) ≤ length d₂
    after-tab = room (digits i ++ line_end w) after-label tab-put

    pub digits-room : b + length (digits i) ≤ length d₂
    digits-room = omega (arith, after-tab, length-append (digits i) (line_end w))

    module _ {c : ℕ} {d₃ : List ℕ} (digits-put : Writes d₂ b (digits i) (Ok c) d₃) where
      pub end-room : c + length (line_end w) ≤ length d₃
      end-room = room (line_end w) after-tab digits-put

      pub line-put : {e : ℕ} {d₄ : List ℕ} → Writes d₃ c (line_end w) (Ok e) d₄ → Writes d at (line t i w) (Ok e) d₄
      unfolding line
      line-put end-put =
          then (bytes "\t" ++ (digits i ++ line_end w)) h label-put
          (then (digits i ++ line_end w) after-label tab-put (then (line_end w) after-tab digits-put end-put))
