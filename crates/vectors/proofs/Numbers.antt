-- The numbers of a line. Assumes nothing.
use Rattle.std.proofs.Common.{◌≡◌, ℕ, ◌+◌, ◌<◌, ◌≤◌, List, length, take, drop, sym, ap, ◌∙◌, arith, w64, Fits, le-ltb, lt-ltb}
use Rattle.std.specs.Prelude.{Option, None, option_map}
use Rattle.lists.specs.Lists.{up_to}
use Rattle.lists.proofs.Cases.{chosen, other}
use Rattle.asked.specs.Lines.{number_in}
use Rattle.vectors.specs.Days.{with_field, next_in, next_number}
use Rattle.vectors.specs.declared.Line.{Line}

-- the parts of a day lie in its file, and no place there is too large
module _ (l : Line) {n : ℕ} (h : (l.at + l.head + l.body + l.tail + l.shown ≤ n) × (n ≤ 1703936)) where
  pub head_in : l.at + l.head ≤ n
  head_in = omega arith

  pub body_in : l.at + l.head + l.body ≤ n
  body_in = omega arith

  pub tail_in : l.at + l.head + l.body + l.tail ≤ n
  tail_in = omega arith

  pub head-fits : Fits w64 (l.at + l.head)
  head-fits = record { fits = omega arith }

  pub body-fits : Fits w64 (l.at + l.head + l.body)
  body-fits = record { fits = omega arith }

  pub tail_fits : Fits w64 (l.at + l.head + l.body + l.tail)
  tail_fits = record { fits = omega arith }

-- the next number
module _ (at : ℕ) (s : List ℕ) (stop greatest : ℕ) {rest : List ℕ} {k : ℕ} (r : rest ≡ drop at s) (f : k ≡ up_to stop rest) where
  pub next_none : length rest ≤ k → None ≡ next_number at s stop greatest
  unfolding next_in
  next_none h =
      let none : length rest ≤ up_to stop rest = omega (arith, f) in
      sym (other _ (le-ltb _ _ none)) ∙ ap (λ (l : List ℕ). next_in at l stop greatest) r

  pub next_is :
      k < length rest → {a : Option ℕ} → a ≡ number_in greatest (take k rest) →
      option_map (λ (n : ℕ). record { n = n; at = at + k + 1 }) a ≡ next_number at s stop greatest
  unfolding next_in
  next_is h {a} e =
      let found : up_to stop rest < length rest = omega (arith, f) in
      ap (option_map (λ (n : ℕ). record { n = n; at = at + k + 1 })) e
      ∙ ap (λ (j : ℕ). with_field (take j rest) (at + j + 1) greatest) f
      ∙ sym (chosen _ (lt-ltb _ _ found))
      ∙ ap (λ (l : List ℕ). next_in at l stop greatest) r
