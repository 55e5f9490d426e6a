-- Answers of chains over a list, and of `from_fn`, in the words of `lists`. Assumes nothing.
use mathlib.Core.Bool.{Bool, true, false, not, cond, ◌&&◌}
use mathlib.Core.Path.{◌≡◌, refl, sym, ap, subst, ◌∙◌}
use mathlib.Core.List.{List, [], ◌∷◌, map}
use Prim.Native.Nat.{ℕ, zero, suc, ◌+◌, ◌<◌, ◌≤◌}
use native.Mathlib.Omega.{arith}
use borrow.Author.Tests.{lt-ltb, le-ltb}
use lib.Dec.{ltb}
use lib.ListN.{length, get_or, length-map, get_or-map}
use lib.Seq.{ext_get_or}
use denote.Param.Members.{Mut}
use Rattle.std.specs.Option.{unwrap_or}
use Rattle.std.proofs.Common.{Some, None}
use Rattle.std.specs.Fn.{Called}
use Rattle.std.specs.Array.{IsFromFnResult, IsFromFnResultFrom}
use Rattle.std.specs.List.{list_all, position_or_len}
use Rattle.lists.specs.Lists.{every, index_where}
use Rattle.lists.specs.Choice.{choose}
use Rattle.lists.proofs.Cases.{on, less, equal}

-- `all`
pub all-every : {A : Type 0} (p : A → Bool) (l : List A) → list_all p l ≡ every p l
all-every p [] = refl
all-every p (x ∷ l) = ap (λ (t : Bool). p x && t) (all-every p l)

-- `position`, or the length where nothing is found
first-index : {A : Type 0} (p : A → Bool) (l : List A) → position_or_len p l ≡ index_where p l
unfolding choose
first-index p [] = refl
first-index p (x ∷ l) = step (p x) (first-index p l)
  where
    step : (t : Bool) {m n : ℕ} → m ≡ n → cond (not t) (1 + m) 0 ≡ choose t 0 (suc n)
    step true e = refl
    step false e = omega arith

first-within : {A : Type 0} (p : A → Bool) (l : List A) → position_or_len p l ≤ length l
first-within p [] = omega arith
first-within p (x ∷ l) = step (p x) (first-within p l)
  where
    step : (t : Bool) {m n : ℕ} → m ≤ n → cond (not t) (1 + m) 0 ≤ suc n
    step true h = omega arith
    step false h = omega arith

pub position-index :
    {A : Type 0} (p : A → Bool) (l : List A) (n : ℕ) → length l ≡ n →
    unwrap_or (cond (ltb (position_or_len p l) (length l)) (Some (position_or_len p l)) None) n ≡ index_where p l
position-index p l n e =
    on (less (position_or_len p l) (length l))
    (λ h. simp (lt-ltb (position_or_len p l) (length l) h) (first-index p l))
    (λ h. simp (le-ltb (position_or_len p l) (length l) h) (let g = first-within p l in omega (arith, e, first-index p l)))

-- ---- `from_fn`, of a function that leaves what it captures

made-from :
    {F B : Type 0} {g : Mut F (ℕ × Unit {0}) B} {f : F} (ys : List B) (P : ℕ → B → Type 0) →
    ((i : ℕ) (y : B) (q : F) → Called g f (i, tt) y q → (q ≡ f) × P i y) → (n i : ℕ) → IsFromFnResultFrom g f ys i n →
    (k : ℕ) (d : B) → i ≤ k → k < i + n → P k (get_or ys k d)
made-from ys P call zero i made k d a b = absurd (omega arith)
made-from {F} {B} {g} {f} ys P call (suc n) i made k d a b =
    let here = call i made.1 made.0 made.3 in
    on (equal k i)
    (λ e. rw (e, made.2.1 d) here.1)
    (λ e. made-from ys P call n (i + 1) (subst (λ (h : F). IsFromFnResultFrom g h ys (i + 1) n) here.0 made.4) k d (omega arith) (omega arith))

-- an array whose elements are answered as those of a list
pub made_list :
    {F B : Type 0} {g : Mut F (ℕ × Unit {0}) B} {f : F} {ys l : List B} {n : ℕ} (d : B) → length l ≡ n →
    ((i : ℕ) (y : B) (q : F) → Called g f (i, tt) y q → (q ≡ f) × (y ≡ get_or l i d)) → IsFromFnResult g f ys n → ys ≡ l
made_list {F} {B} {g} {f} {ys} {l} {n} d long call made =
    ext_get_or d ys l (made.long ∙ sym long)
    (λ k h. made-from ys (λ i y. y ≡ get_or l i d) call n 0 made.each k d (omega arith) (omega (arith, made.long)))

-- an array whose elements are answered as h has those of a list
pub made_map :
    {F A B : Type 0} {g : Mut F (ℕ × Unit {0}) B} {f : F} {ys : List B} {n : ℕ} (h : A → B) (d : A) (xs : List A) → length xs ≡ n →
    ((i : ℕ) (y : B) (q : F) → Called g f (i, tt) y q → (q ≡ f) × (y ≡ h (get_or xs i d))) → IsFromFnResult g f ys n → ys ≡ map h xs
made_map h d xs long call made =
    made_list (h d) (length-map xs h ∙ long) (λ i y q k. let e = call i y q k in (e.0, e.1 ∙ sym (get_or-map h xs i d))) made
