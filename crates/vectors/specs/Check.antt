-- FNV-1a, 64 bits.
use Rattle.std.specs.Prelude.{ℕ, ◌*◌, ◌%◌, ◌^◌, List, [], ◌∷◌, bit_xor}

-- one byte more: the exclusive or with it, times the factor
abbrev pub stepped : ℕ → ℕ → ℕ
stepped k x = (bit_xor k x * 1099511628211) % 2 ^ 64

abbrev pub check_from : ℕ → List ℕ → ℕ
check_from k [] = k
check_from k (x ∷ s) = check_from (stepped k x) s

unfoldable pub check_of : List ℕ → ℕ
check_of s = check_from 14695981039346656037 s
