-- "A number is written most significant digit first with no leading zero .. zero is the one digit
-- 0."
use Rattle.std.specs.Prelude.{true, false, List, [], ◌∷◌, ◌++◌, ℕ, zero, suc, ◌+◌, ◌/◌, ◌%◌, ltb}

-- the byte of the last digit of n
abbrev pub last_digit : ℕ → ℕ
last_digit n = 48 + n % 10

-- the last digits of n, at most k + 1 of them, where k is the first argument
abbrev pub digits_up_to : ℕ → ℕ → List ℕ
digits_up_to zero n = last_digit n ∷ []
digits_up_to (suc k) n = elim (ltb n 10) [ true ↦ last_digit n ∷ [] | false ↦ digits_up_to k (n / 10) ++ (last_digit n ∷ []) ]

-- all the digits of n: there are at most n + 1
unfoldable pub digits : ℕ → List ℕ
digits n = digits_up_to n n
