-- Two lists of heartbeats that fall, and have the same of each sender, are one. Assumes nothing.
use mathlib.Core.Bool.{true, not}
use mathlib.Core.Path.{◌≡◌, refl, sym, ap, subst, ◌∙◌}
use mathlib.Core.Logic.{◌⊎◌, inl, inr}
use mathlib.Core.List.Memᴰ
use mathlib.Core.List.{List, [], ◌∷◌, ◌++◌, Memᴰ}
use Prim.Native.Nat.{ℕ}
use borrow.Author.Tests.{eq-eqb, ne_eqb, not-true}
use lib.ListN.{get_or}
use Rattle.lists.specs.Lists.{every}
use Rattle.lists.proofs.Cases.{equal, fst_true, snd_true, on, clash}
use Rattle.lists.proofs.Clear.{every_mem}
use Rattle.heartbeat.specs.declared.Heartbeat.{Heartbeat}
use Rattle.heartbeat.specs.Rank.{higher}
use Rattle.heartbeat.specs.Heartbeat.{sender}
use Rattle.heartbeat.proofs.Order.{total}
use Rattle.wiring.specs.Heard.{from, falling}

pub from-own : (x : ℕ) (h : Heartbeat) (l : List Heartbeat) → h.tiebreaker ≡ x → from x (h ∷ l) ≡ h ∷ from x l
unfolding from
from-own x h l e = rw (eq-eqb h.tiebreaker x e, from)

pub from-skip : (x : ℕ) (h : Heartbeat) (l : List Heartbeat) → (h.tiebreaker ≡ x → ⊥) → from x (h ∷ l) ≡ from x l
unfolding from
from-skip x h l e = rw (ne_eqb h.tiebreaker x e, from)

pub from_nil : (x : ℕ) → from x [] ≡ []
unfolding from
from_nil x = refl

pub from-append : (x : ℕ) (a b : List Heartbeat) → from x (a ++ b) ≡ from x a ++ from x b
unfolding from
from-append x [] b = refl
from-append x (h ∷ a) b =
    on (equal h.tiebreaker x)
    (λ e. from-own x h (a ++ b) e ∙ ap (λ (l : List Heartbeat). h ∷ l) (from-append x a b) ∙ ap (λ (l : List Heartbeat). l ++ from x b) (sym (from-own x h a e)))
    (λ e. from-skip x h (a ++ b) e ∙ from-append x a b ∙ ap (λ (l : List Heartbeat). l ++ from x b) (sym (from-skip x h a e)))

pub from-none : (x : ℕ) (l : List Heartbeat) → ((h : Heartbeat) → Memᴰ h l → h.tiebreaker ≡ x → ⊥) → from x l ≡ []
from-none x [] f = from_nil x
from-none x (h ∷ l) f = from-skip x h l (f h (Memᴰ.head refl)) ∙ from-none x l (λ k m. f k (Memᴰ.tail m))

-- what is among those of a sender is in the list
pub of-from : (x : ℕ) (l : List Heartbeat) {h : Heartbeat} → Memᴰ h (from x l) → Memᴰ h l
of-from x [] {h} m = subst (Memᴰ h) (from_nil x) m
of-from x (k ∷ l) {h} m =
    on (equal k.tiebreaker x)
    (λ e.
    on (Memᴰ.cases_cons (subst (Memᴰ h) (from-own x k l e) m))
    (λ q. Memᴰ.head q)
    (λ r. Memᴰ.tail (of-from x l r)))
    (λ e. Memᴰ.tail (of-from x l (subst (Memᴰ h) (from-skip x k l e) m)))

pub to-from : (l : List Heartbeat) {h : Heartbeat} → Memᴰ h l → Memᴰ h (from h.tiebreaker l)
to-from [] m = absurd (Memᴰ.not-nil m)
to-from (k ∷ l) {h} m =
    on (equal k.tiebreaker h.tiebreaker)
    (λ e.
    subst (Memᴰ h) (sym (from-own h.tiebreaker k l e))
    (on (Memᴰ.cases_cons m) (λ q. Memᴰ.head q) (λ r. Memᴰ.tail (to-from l r))))
    (λ e.
    subst (Memᴰ h) (sym (from-skip h.tiebreaker k l e))
    (on (Memᴰ.cases_cons m) (λ q. absurd (e (ap (λ (x : Heartbeat). x.tiebreaker) (sym q)))) (to-from l)))

rest_of : List Heartbeat → List Heartbeat
rest_of [] = []
rest_of (h ∷ l) = l

-- the first of a list that falls is not below any that follows
first : (h k : Heartbeat) (l : List Heartbeat) → falling (k ∷ l) ≡ true → Memᴰ h l → higher (sender h) (sender k) ≡ true → ⊥
unfolding falling
first h k l f m e =
    clash e (not-true _ (every_mem (λ g. not (higher (sender g) (sender k))) l (fst_true (every (λ g. not (higher (sender g) (sender k))) l) (falling l) f) m))

falls-on : (k : Heartbeat) (l : List Heartbeat) → falling (k ∷ l) ≡ true → falling l ≡ true
unfolding falling
falls-on k l f = snd_true (every (λ g. not (higher (sender g) (sender k))) l) (falling l) f

abbrev Alike : List Heartbeat → List Heartbeat → Type 0
Alike a b = (h : Heartbeat) → Memᴰ h a ⊎ Memᴰ h b → from h.tiebreaker a ≡ from h.tiebreaker b

-- a heartbeat that begins one list stands in the other
there : (h : Heartbeat) (a b : List Heartbeat) → from h.tiebreaker (h ∷ a) ≡ from h.tiebreaker b → Memᴰ h b
there h a b e =
    of-from h.tiebreaker b (subst (Memᴰ h) (sym (from-own h.tiebreaker h a refl) ∙ e) (Memᴰ.head refl))

-- two lists that begin with heartbeats of one sender begin with the same, and so on
begin-alike : (h k : Heartbeat) (a b : List Heartbeat) → h.tiebreaker ≡ k.tiebreaker → Alike (h ∷ a) (k ∷ b) → (h ≡ k) × Alike a b
unfolding rest_of
begin-alike h k a b e same =
    let x = h.tiebreaker in
    let s : h ∷ from x a ≡ k ∷ from x b = sym (from-own x h a refl) ∙ same h (inl (Memᴰ.head refl)) ∙ from-own x k b (sym e) in
    let tails : from x a ≡ from x b = ap rest_of s in (
      ap (λ (l : List Heartbeat). get_or l 0 h) s,
      λ c m.
          on (equal x c.tiebreaker)
          (λ q. subst (λ (y : ℕ). from y a ≡ from y b) q tails)
          (λ q.
          sym (from-skip c.tiebreaker h a q)
          ∙ same c (on m (λ l. inl (Memᴰ.tail l)) (λ r. inr (Memᴰ.tail r)))
          ∙ from-skip c.tiebreaker k b (λ z. q (e ∙ z))),
    )

pub one-order : (a b : List Heartbeat) → falling a ≡ true → falling b ≡ true → Alike a b → a ≡ b
one-order [] [] f g same = refl
one-order [] (k ∷ b) f g same =
    absurd (Memᴰ.not-nil (there k b [] (sym (same k (inr (Memᴰ.head refl))))))
one-order (h ∷ a) [] f g same = absurd (Memᴰ.not-nil (there h a [] (same h (inl (Memᴰ.head refl)))))
one-order (h ∷ a) (k ∷ b) f g same =
    on (equal h.tiebreaker k.tiebreaker)
    (λ e.
    let r = begin-alike h k a b e same in
    ap (λ (y : Heartbeat). y ∷ a) r.0 ∙ ap (λ (l : List Heartbeat). k ∷ l) (one-order a b (falls-on h a f) (falls-on k b g) r.1))
    (λ e.
    absurd (on (total (sender h) (sender k) e)
    (λ p.
    on (Memᴰ.cases_cons (there h a (k ∷ b) (same h (inl (Memᴰ.head refl)))))
    (λ q. e (ap (λ (x : Heartbeat). x.tiebreaker) q))
    (λ m. first h k b g m p))
    (λ p.
    on (Memᴰ.cases_cons (there k b (h ∷ a) (sym (same k (inr (Memᴰ.head refl))))))
    (λ q. e (sym (ap (λ (x : Heartbeat). x.tiebreaker) q)))
    (λ m. first k h a f m p))))
