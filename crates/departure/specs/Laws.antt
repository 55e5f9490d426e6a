-- Laws of departing. The contract of `compare` has them all (`Laws`, below).
use Rattle.std.specs.Prelude.{◌≡◌, List, [], ◌∷◌, ◌++◌, ℕ, suc, length}
use Rattle.day.specs.Read.{lines_in}
use Rattle.departure.specs.declared.Departure.TheVariants.{Same, At}
use Rattle.departure.specs.Departure.{departure}

-- `same` exactly where the two are equal, byte for byte
abbrev pub EqualIsSame : Type 0
EqualIsSame = (s : List ℕ) → departure s s ≡ Same

abbrev pub SameIsEqual : Type 0
SameIsEqual = (due found : List ℕ) → departure due found ≡ Same → due ≡ found

-- lines due and found that are apart at their first place: one of the two has no line there, or the
-- lines differ
pub data Apart : List (List ℕ) → List (List ℕ) → Type 0 where
  missing : {d : List ℕ} {ds : List (List ℕ)} → Apart (d ∷ ds) []
  surplus : {g : List ℕ} {gs : List (List ℕ)} → Apart [] (g ∷ gs)
  differ : {d g : List ℕ} {ds gs : List (List ℕ)} → (d ≡ g → ⊥) → Apart (d ∷ ds) (g ∷ gs)

-- every line before line n is equal in both, and they are apart at line n
pub record FirstApart (due found : List ℕ) (n : ℕ) : Type 0 where
  pub before : List (List ℕ)
  pub due-after : List (List ℕ)
  pub found_after : List (List ℕ)
  pub due-lines : lines_in due ≡ before ++ due-after
  pub found-lines : lines_in found ≡ before ++ found_after
  pub number : n ≡ suc (length before)
  pub apart : Apart due-after found_after

-- otherwise the number is that of the first line at which they are apart
abbrev pub DepartsAtTheFirst : Type 0
DepartsAtTheFirst = (due found : List ℕ) (n : ℕ) → departure due found ≡ At n → FirstApart due found n

-- and the other way round
abbrev pub TheFirstDeparts : Type 0
TheFirstDeparts = (due found : List ℕ) (n : ℕ) → FirstApart due found n → departure due found ≡ At n

pub record Laws : Type 0 where
  pub equal : EqualIsSame
  pub same : SameIsEqual
  pub first : DepartsAtTheFirst
  pub apart : TheFirstDeparts
