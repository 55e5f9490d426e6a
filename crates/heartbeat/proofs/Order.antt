-- `higher` is strict and transitive, and of two different identities one is higher. What needs an
-- order of servers goes by these laws and not by the text of `higher`. Assumes nothing.
use mathlib.Core.Bool.{true, false}
use mathlib.Core.Path.{◌≡◌, refl, sym, ◌∙◌}
use mathlib.Core.Logic.{◌⊎◌, inl, inr, ⊎_elim}
use Prim.Native.Nat.{◌<◌}
use native.Mathlib.Omega.{arith}
use borrow.Author.Tests.{ltb-true, lt-ltb, le-ltb, eq-eqb, ne_eqb}
use Rattle.lists.proofs.Cases.{tested, less, equal, chosen, other}
use Rattle.heartbeat.specs.declared.Rank.{Rank}
use Rattle.heartbeat.specs.Rank.{higher}

-- the two ways to be higher
Above : Rank → Rank → Type 0
Above a b = ((a.priority ≡ b.priority) × (b.identity < a.identity)) ⊎ (b.priority < a.priority)

above : (a b : Rank) → higher a b ≡ true → Above a b
unfolding higher Above
above a b e =
    ⊎_elim
    (λ p. inl (p, ltb-true b.identity a.identity (sym (chosen _ (eq-eqb a.priority b.priority p)) ∙ e)))
    (λ p. inr (ltb-true b.priority a.priority (sym (other _ (ne_eqb a.priority b.priority p)) ∙ e)))
    (equal a.priority b.priority)

is-higher : (a b : Rank) → Above a b → higher a b ≡ true
unfolding higher Above
is-higher a b h =
    ⊎_elim
    (λ p. chosen _ (eq-eqb a.priority b.priority p.0) ∙ lt-ltb b.identity a.identity p.1)
    (λ p. other _ (ne_eqb a.priority b.priority (λ e. omega arith)) ∙ lt-ltb b.priority a.priority p)
    h

-- no server is higher than one of its own priority and identity
pub irreflexive : (a : Rank) → higher a a ≡ false
unfolding higher
irreflexive a = chosen _ (eq-eqb a.priority a.priority refl) ∙ le-ltb a.identity a.identity (omega arith)

-- of two servers at most one is higher
pub asymmetric : (a b : Rank) → higher a b ≡ true → higher b a ≡ false
unfolding Above
asymmetric a b e =
    ⊎_elim
    (λ h. absurd (⊎_elim
    (λ p. ⊎_elim (λ q. omega arith) (λ q. omega arith) (above b a h))
    (λ p. ⊎_elim (λ q. omega arith) (λ q. omega arith) (above b a h))
    (above a b e)))
    (λ h. h)
    (tested (higher b a))

pub transitive : (a b c : Rank) → higher a b ≡ true → higher b c ≡ true → higher a c ≡ true
unfolding Above
transitive a b c e f =
    is-higher a c
    (⊎_elim
    (λ p. ⊎_elim (λ q. inl (omega arith, omega arith)) (λ q. inr (omega arith)) (above b c f))
    (λ p. ⊎_elim (λ q. inr (omega arith)) (λ q. inr (omega arith)) (above b c f))
    (above a b e))

pub total : (a b : Rank) → (a.identity ≡ b.identity → ⊥) → (higher a b ≡ true) ⊎ (higher b a ≡ true)
unfolding Above
total a b d =
    ⊎_elim
    (λ p. inr (is-higher b a (inr p)))
    (λ p.
    ⊎_elim
    (λ q. inl (is-higher a b (inr q)))
    (λ q.
    ⊎_elim
    (λ l. inr (is-higher b a (inl (omega arith, l))))
    (λ l. inl (is-higher a b (inl (omega arith, omega arith))))
    (less a.identity b.identity))
    (less b.priority a.priority))
    (less a.priority b.priority)
