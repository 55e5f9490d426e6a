-- Lists, place by place.
use Rattle.std.specs.Prelude.{Bool, true, false, cond, ◌&&◌, ◌||◌, List, [], ◌∷◌, ℕ, zero, suc, eqb}
use Rattle.lists.specs.Choice.{choose}

-- each element replaced by what f says of its place and of it, the first place being k
abbrev pub map_from : {A : Type 0} → ℕ → (ℕ → A → A) → List A → List A
map_from k f [] = []
map_from k f (x ∷ l) = f k x ∷ map_from (suc k) f l

-- the place of the first element that passes the test; the length where none does
abbrev pub index_where : {A : Type 0} → (A → Bool) → List A → ℕ
index_where p [] = 0
index_where p (x ∷ l) = choose (p x) 0 (suc (index_where p l))

-- every element passes the test
abbrev pub every : {A : Type 0} → (A → Bool) → List A → Bool
every p [] = true
every p (x ∷ l) = p x && every p l

-- some number below n passes the test
unfoldable pub any_below : ℕ → (ℕ → Bool) → Bool
any_below zero p = false
any_below (suc n) p = any_below n p || p n

-- how many below n pass the test p
unfoldable pub count_below : (ℕ → Bool) → ℕ → ℕ
count_below p zero = 0
count_below p (suc n) = cond (p n) (suc (count_below p n)) (count_below p n)

-- the two lists are equal
unfoldable pub same : List ℕ → List ℕ → Bool
same [] [] = true
same [] (y ∷ b) = false
same (x ∷ a) [] = false
same (x ∷ a) (y ∷ b) = eqb x y && same a b

-- x put before the first part
abbrev pub on_first : ℕ → List (List ℕ) → List (List ℕ)
on_first x [] = (x ∷ []) ∷ []
on_first x (l ∷ ls) = (x ∷ l) ∷ ls

-- the parts of a list between its elements c, empty parts too: always one part more than there are
-- elements c
unfoldable pub split_on : ℕ → List ℕ → List (List ℕ)
split_on c [] = [] ∷ []
split_on c (x ∷ s) = elim (eqb x c) [ true ↦ [] ∷ split_on c s | false ↦ on_first x (split_on c s) ]

-- the place of the first c; the length where there is none
unfoldable pub up_to : ℕ → List ℕ → ℕ
up_to c s = index_where (λ x. eqb x c) s
