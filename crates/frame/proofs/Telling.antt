-- Lines counted first, then written. Assumes nothing.
use Rattle.std.specs.Prelude.{Ok, Err}
use mathlib.Core.Bool.{Bool, true, false}
use mathlib.Core.Path.{◌≡◌, refl, sym, ap, ◌∙◌}
use mathlib.Core.Logic.{⊎_elim}
use mathlib.Core.List.{List}
use Prim.Native.Nat.{ℕ, ◌+◌, ◌≤◌, ◌<◌}
use native.Mathlib.Omega.{arith}
use borrow.Author.Tests.{le-leb, lt-leb}
use lib.Dec.{leb}
use lib.ListN.{length}
use Rattle.lists.proofs.Cases.{less}
use Rattle.refusal.specs.declared.Refusal.TheVariants.{Short}
use Rattle.group.specs.declared.State.{State}
use Rattle.group.specs.Outcome.{Outcome}
use Rattle.group.specs.Answers.{Gives}
use Rattle.group.proofs.Answering.{is-short, is-long, gives-not, gives_so}
use Rattle.frame.specs.Steps.{Out}
use Rattle.frame.proofs.Writing.{after-fits, after-not}

module _ {wet : Bool} {d w d' : List ℕ} {r : ℕ} (p : Out wet d 0 w r d') where
  pub within : r ≤ length d → (length w ≤ length d) × (r ≡ length w)
  within h =
      ⊎_elim
      (λ l. absurd (let e : r ≡ length d + 1 = p.end (omega arith) ∙ after-not d 0 w (omega arith) in omega arith))
      (λ l. (l, p.end (omega arith) ∙ after-fits d 0 w (omega arith) ∙ (let e : 0 + length w ≡ length w = omega arith in e)))
      (less (length d) (length w))

  pub beyond : length d < r → length d < length w
  beyond h =
      ⊎_elim
      (λ l. l)
      (λ l. absurd (let e : r ≡ 0 + length w = p.end (omega arith) ∙ after-fits d 0 w (omega arith) in omega arith))
      (less (length d) (length w))

module _ (c : State) (o : Outcome) (d : List ℕ) (accepted : o.number ≡ 0) {n : ℕ} {d₁ : List ℕ} (dry : Out false d 0 o.lines n d₁) where
  pub too_short : length d₁ < n → Gives c o d (Err Short) 0 c d₁
  too_short h =
      let e : d₁ ≡ d = dry.dry refl in
      rw e (gives-not c o d Short (is-short o (length d) accepted (beyond dry (rw e at h))))

  pub told-all :
      {m : ℕ} {x : State} {d₂ : List ℕ} → n ≤ length d₁ → Out true d₁ 0 o.lines m d₂ → x ≡ o.channel →
      Gives c o d (Ok tt) m x d₂
  told-all {m} {x} {d₂} h q e =
      let same : d₁ ≡ d = dry.dry refl in
      let fit = within dry (rw same at h) in
      let wet : Out true d 0 o.lines m d₂ = rw same at q in
      let room : 0 + length o.lines ≤ length d = omega (arith, fit.0) in
      gives_so c o d (is-long o (length d) accepted fit.0)
      (wet.end (omega arith) ∙ after-fits d 0 o.lines room ∙ (let z : 0 + length o.lines ≡ length o.lines = omega arith in z)) e (wet.is refl room)

-- lines counted from a place on: whether they fit
pub counted-fits :
    {d : List ℕ} {at : ℕ} {w : List ℕ} {r : ℕ} {d' : List ℕ} → at ≤ length d → Out false d at w r d' → (leb r (length d') ≡ leb (at + length w) (length d)) × (d' ≡ d)
counted-fits {d} {at} {w} {r} {d'} h o =
    let same = o.dry refl in (
      ⊎_elim
          (λ l. let e : r ≡ length d + 1 = o.end (omega arith) ∙ after-not d at w l in lt-leb r (length d') (omega (arith, ap length same)) ∙ sym (lt-leb _ _ l))
          (λ l. let e : r ≡ at + length w = o.end (omega arith) ∙ after-fits d at w l in le-leb r (length d') (omega (arith, ap length same)) ∙ sym (le-leb _ _ l))
          (less (length d) (at + length w)),
      same,
    )
