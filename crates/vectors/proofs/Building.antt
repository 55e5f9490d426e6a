-- A day, a body a turn. Assumes nothing.
use Rattle.std.proofs.Common.{◌≡◌, ℕ, zero, suc, ◌+◌, ◌-◌, ◌<◌, ◌≤◌, List, ◌++◌, append_assoc, append-nil, add-one, arith, sym, ap, ◌∙◌, Result, Ok, Err}
use Rattle.refusal.specs.declared.Refusal.{Refusal}
use Rattle.text.specs.Write.{Writes}
use Rattle.text.specs.Steps.{Pieces}
use Rattle.text.proofs.Writing.{on, first_piece, stopped}
use Rattle.vectors.specs.Days.{times, day_of}

times_plus : (i j : ℕ) (s : List ℕ) → times (i + j) s ≡ times i s ++ times j s
times_plus i zero s = let e : i + 0 ≡ i = omega arith in rw (e, append-nil (times i s))
times_plus i (suc j) s =
    let e : i + suc j ≡ suc (i + j) = omega arith in
    rw e (ap (λ (l : List ℕ). l ++ s) (times_plus i j s) ∙ append_assoc (times i s) (times j s) s)

module _ (d head body : List ℕ) (n : ℕ) where
  -- the head stands there, and i bodies
  pub begin : {k : ℕ} {d₁ : List ℕ} → Writes d 0 head (Ok k) d₁ → Pieces d 0 (head ++ times 0 body) (Ok k) d₁
  begin w = rw append-nil (first_piece w)

  pub turn : (i : ℕ) {k m : ℕ} {d₁ d₂ : List ℕ} → Pieces d 0 (head ++ times i body) (Ok k) d₁ → Writes d₁ k body (Ok m) d₂ → Pieces d 0 (head ++ times (i + 1) body) (Ok m) d₂
  turn i p w = rw (add-one, ← append_assoc head (times i body) body) (on p w)

  -- where the head does not fit, or the next body
  pub head_not : (tail : List ℕ) {k : Refusal} {d₁ : List ℕ} → Writes d 0 head (Err k) d₁ → Pieces d 0 (day_of head n body tail) (Err k) d₁
  head_not tail w = stopped tail (stopped (times n body) (first_piece w))

  pub body_not :
      (tail : List ℕ) (i : ℕ) {m : ℕ} {k : Refusal} {d₁ d₂ : List ℕ} → i < n → Pieces d 0 (head ++ times i body) (Ok m) d₁ → Writes d₁ m body (Err k) d₂ →
      Pieces d 0 (day_of head n body tail) (Err k) d₂
  body_not tail i h p w =
      let e : n ≡ suc i + (n - suc i) = omega arith in
      let all : head ++ times n body ≡ ((head ++ times i body) ++ body) ++ times (n - suc i) body =
      ap (λ (x : ℕ). head ++ times x body) e
      ∙ ap (λ (l : List ℕ). head ++ l) (times_plus (suc i) (n - suc i) body)
      ∙ sym (append_assoc head (times i body ++ body) (times (n - suc i) body))
      ∙ ap (λ (l : List ℕ). l ++ times (n - suc i) body) (sym (append_assoc head (times i body) body)) in
      rw all (stopped tail (stopped (times (n - suc i) body) (on p w)))

  pub end :
      {tail : List ℕ} (i : ℕ) {k : ℕ} {r : Result ℕ Refusal} {d₁ d₂ : List ℕ} → n ≤ i → i ≤ n → Pieces d 0 (head ++ times i body) (Ok k) d₁ →
      Writes d₁ k tail r d₂ → Pieces d 0 (day_of head n body tail) r d₂
  end i h l p w = let e : n ≡ i = omega arith in rw e (on p w)
