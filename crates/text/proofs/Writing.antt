-- Laws of `Writes`, and writes one after the other. Assumes nothing.
use Rattle.std.specs.Prelude.{Result, Ok, Err, IsOk}
use Rattle.std.proofs.Common.{rules}
use mathlib.Core.Bool.{Bool, true, false}
use mathlib.Core.Path.{◌≡◌, refl, sym, ap, ap₂, ◌∙◌}
use mathlib.Core.List.{List, [], ◌∷◌, ◌++◌}
use mathlib.Core.Logic.{⊎_elim}
use Prim.Native.Nat.{ℕ, ◌+◌, ◌≤◌, ◌<◌}
use native.Mathlib.Omega.{arith}
use borrow.Author.Tests.{le-leb, lt-leb}
use lib.ListN.{length, set, length-append}
use Rattle.lists.specs.Splice.{splice}
use Rattle.lists.proofs.Cases.{less, chosen, other}
use Rattle.lists.proofs.Splicing.{splice-none, splice-length, splices, splice-more}
use Rattle.refusal.specs.Answer.{accepted, refused, number_of}
use Rattle.refusal.proofs.Answers.{not-both, one_value}
use Rattle.refusal.specs.declared.Refusal.{Refusal}
use Rattle.refusal.specs.declared.Refusal.TheVariants.{Short}
use Rattle.text.specs.Write.{of_written, writing, wrote, Writes, WritesIf}
use Rattle.text.specs.Steps.{Pieces}

module _ (d : List ℕ) (at : ℕ) (w : List ℕ) where
  writing-fits : at + length w ≤ length d → writing d at w ≡ accepted ((at + length w) ∷ [])
  unfolding writing
  writing-fits h = chosen _ (le-leb _ _ h)

  writing-short : length d < at + length w → writing d at w ≡ refused 9
  unfolding writing
  writing-short h = other _ (lt-leb _ _ h)

  wrote-fits : at + length w ≤ length d → wrote d at w ≡ splice d at w
  unfolding wrote
  wrote-fits h = chosen _ (le-leb _ _ h)

  wrote-short : length d < at + length w → wrote d at w ≡ d
  unfolding wrote
  wrote-short h = other _ (lt-leb _ _ h)

-- w does not fit, and nothing is written
pub writes_short : {d : List ℕ} {at : ℕ} {w : List ℕ} → length d < at + length w → Writes d at w (Err Short) d
writes_short {d} {at} {w} h = record { answer = sym (writing-short d at w h); slice = sym (wrote-short d at w h) }

-- w fits, and is written
pub writes-to :
    {d : List ℕ} {at : ℕ} {w : List ℕ} {r : ℕ} {d' : List ℕ} → at + length w ≤ length d → r ≡ at + length w → d' ≡ splice d at w →
    Writes d at w (Ok r) d'
writes-to {d} {at} {w} {r} {d'} h e s =
    record { answer = ap (λ (n : ℕ). accepted (n ∷ [])) e ∙ sym (writing-fits d at w h); slice = s ∙ sym (wrote-fits d at w h) }

-- where w fits: the place after it, and the slice
module _ {d : List ℕ} {at : ℕ} {w : List ℕ} {r : ℕ} {d' : List ℕ} (h : at + length w ≤ length d) (p : Writes d at w (Ok r) d') where
  pub written-end : r ≡ at + length w
  written-end = one_value (p.answer ∙ writing-fits d at w h)

  pub written-slice : d' ≡ splice d at w
  written-slice = p.slice ∙ wrote-fits d at w h

-- what fits is not refused
pub not_short :
    {A : Type 0} {d : List ℕ} {at : ℕ} {w : List ℕ} {k : Refusal} {d' : List ℕ} → at + length w ≤ length d → Writes d at w (Err k) d' → A
not_short {d = d} {at} {w} h p = not-both (p.answer ∙ writing-fits d at w h)

pub fits-is_ok : {d : List ℕ} {at : ℕ} {w : List ℕ} {d' : List ℕ} → at + length w ≤ length d → (r : Result ℕ Refusal) → Writes d at w r d' → IsOk r
fits-is_ok h (Ok n) p = search rules
fits-is_ok h (Err k) p = not_short h p

-- one byte more after what was written
pub writes_more :
    {d : List ℕ} {at : ℕ} {w : List ℕ} {r : ℕ} {d' : List ℕ} (b : ℕ) → at + length w < length d → Writes d at w (Ok r) d' →
    Writes d at (w ++ (b ∷ [])) (Ok (r + 1)) (set d' r b)
writes_more {d} {at} {w} {r} {d'} b h p =
    let k : at + length w ≤ length d = omega arith in
    let e = written-end k p in
    let l : length (w ++ (b ∷ [])) ≡ length w + 1 = length-append w (b ∷ []) in
    writes-to
    (omega (arith, l))
    (omega (arith, l, e))
    (ap (λ (n : ℕ). set d' n b) e ∙ ap (λ (x : List ℕ). set x (at + length w) b) (written-slice k p) ∙ splice-more d at w b h)

-- one byte
pub writes_one : {d : List ℕ} {at : ℕ} (b : ℕ) → at < length d → Writes d at (b ∷ []) (Ok (at + 1)) (set d at b)
writes_one {d} {at} b h = writes_more b (omega arith) (writes-to (omega arith) (omega arith) (sym (splice-none d at)))

-- a writer keeps the slice's length
pub writes-length : (d : List ℕ) (at : ℕ) (w : List ℕ) {d' : List ℕ} → d' ≡ wrote d at w → length d' ≡ length d
writes-length d at w e =
    ⊎_elim
    (λ l. ap length (e ∙ wrote-short d at w l))
    (λ l. ap length (e ∙ wrote-fits d at w l) ∙ splice-length d at w l)
    (less (length d) (at + length w))

-- ---- writes one after the other

pub first_piece : {d : List ℕ} {at : ℕ} {w : List ℕ} {r : Result ℕ Refusal} {d' : List ℕ} → Writes d at w r d' → Pieces d at w r d'
first_piece {d} {at} {w} p =
    record { answer = p.answer; slice = λ h. p.slice ∙ wrote-fits d at w h; kept = writes-length d at w p.slice }

-- the pieces of a w that fits are w written whole
pub whole : {d : List ℕ} {at : ℕ} {w : List ℕ} {r : Result ℕ Refusal} {d' : List ℕ} → at + length w ≤ length d → Pieces d at w r d' → Writes d at w r d'
whole {d} {at} {w} h p = record { answer = p.answer; slice = p.slice h ∙ sym (wrote-fits d at w h) }

module _ (d : List ℕ) (at : ℕ) (w v d₁ : List ℕ) (r : Result ℕ Refusal) (d₂ : List ℕ) where
  after-place :
      (k : ℕ) → Pieces d at w (Ok k) d₁ → of_written r ≡ writing d₁ k v → d₂ ≡ wrote d₁ k v → Pieces d at (w ++ v) r d₂
  after-place k p q s =
      ⊎_elim
      (λ l. not-both (sym (p.answer ∙ writing-short d at w l)))
      (λ l.
      let is : k ≡ at + length w = one_value (p.answer ∙ writing-fits d at w l) in
      let long = length-append w v in
      let kept = writes-length d₁ k v s ∙ p.kept in
      ⊎_elim
      (λ o.
      record {
        answer = q ∙ writing-short d₁ k v (omega (arith, is, p.kept, long)) ∙ sym (writing-short d at (w ++ v) o);
        slice = λ f. absurd (omega arith);
        kept = kept;
      })
      (λ o.
      let room : k + length v ≤ length d₁ = omega (arith, is, p.kept, long) in
      let last : k + length v ≡ at + length (w ++ v) = omega (arith, is, long) in
      record {
        answer = q ∙ writing-fits d₁ k v room ∙ ap (λ (n : ℕ). accepted (n ∷ [])) last ∙ sym (writing-fits d at (w ++ v) o);
        slice = λ f. s ∙ wrote-fits d₁ k v room ∙ ap₂ (λ (x : List ℕ) (n : ℕ). splice x n v) (p.slice l) is ∙ splices d at w v f;
        kept = kept;
      })
      (less (length d) (at + length (w ++ v))))
      (less (length d) (at + length w))

  after-refusal : (k : Refusal) → Pieces d at w (Err k) d₁ → of_written r ≡ refused (number_of k) → d₂ ≡ d₁ → Pieces d at (w ++ v) r d₂
  after-refusal k p q s =
      let long = length-append w v in
      ⊎_elim
      (λ l.
      record {
        answer = q ∙ p.answer ∙ writing-short d at w l ∙ sym (writing-short d at (w ++ v) (omega (arith, long)));
        slice = λ f. absurd (omega (arith, long));
        kept = ap length s ∙ p.kept;
      })
      (λ l. not-both (p.answer ∙ writing-fits d at w l))
      (less (length d) (at + length w))

-- v after w
pub on :
    {d : List ℕ} {at k : ℕ} {w v d₁ d₂ : List ℕ} {r : Result ℕ Refusal} → Pieces d at w (Ok k) d₁ → Writes d₁ k v r d₂ →
    Pieces d at (w ++ v) r d₂
on {d} {at} {k} {w} {v} {d₁} {d₂} {r} a b = after-place d at w v d₁ r d₂ k a b.answer b.slice

-- nothing after a refusal
pub stopped :
    {d : List ℕ} {at : ℕ} {w d₁ : List ℕ} {k : Refusal} (v : List ℕ) → Pieces d at w (Err k) d₁ → Pieces d at (w ++ v) (Err k) d₁
stopped {d} {at} {w} {d₁} {k} v p = after-refusal d at w v d₁ (Err k) d₁ k p refl refl

-- ---- a refusal that comes before 9

pub refuses-first :
    {ok : Bool} {d : List ℕ} {at : ℕ} {w : List ℕ} (k : Refusal) → ok ≡ false → WritesIf ok (number_of k) d at w (Err k) d
refuses-first k e = record { answer = sym (other _ e); slice = sym (other _ e) }

pub goes_on_lem :
    {ok : Bool} {k : ℕ} {d : List ℕ} {at : ℕ} {w : List ℕ} {r : Result ℕ Refusal} {d' : List ℕ} → ok ≡ true → Writes d at w r d' →
    WritesIf ok k d at w r d'
goes_on_lem e p = record { answer = p.answer ∙ sym (chosen _ e); slice = p.slice ∙ sym (chosen _ e) }
