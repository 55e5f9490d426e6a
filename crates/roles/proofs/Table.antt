-- The table's rule: one test that is computed over the whole table, and the rule of each cell from
-- it. Assumes nothing.
use mathlib.Core.Bool.{Bool, true, ◌&&◌}
use mathlib.Core.Path.{◌≡◌, refl, ap₂}
use mathlib.Core.List.{List, [], ◌∷◌}
use Prim.Native.Nat.{ℕ, ◌<◌}
use borrow.Author.Tests.{ltb-true, eqb-true}
use lib.Dec.{ltb, eqb, lit<}
use lib.ListN.{get_or}
use Rattle.lists.specs.Choice.{choose}
use Rattle.lists.specs.Lists.{every, same}
use Rattle.lists.proofs.Cases.{fst_true, snd_true}
use Rattle.lists.proofs.Clear.{every-at}
use Rattle.lists.proofs.SameLoop.{same-equal}
use Rattle.refusal.specs.Answer.{Answer}
use Rattle.roles.specs.declared.Role.{Role}
use Rattle.roles.specs.declared.Role.TheVariants.{Down, Idle, Sync, Backup, Prospect, Primary}
use Rattle.roles.specs.declared.Verb.{Verb}
use Rattle.roles.specs.declared.Verb.TheVariants.{Start, Ready, Unready, Pass, Crash, Restart, Cut, Mend}
use Rattle.roles.specs.Roles.{role_number}
use Rattle.roles.specs.Verbs.{verb_number, from, enters, cell, of_cell}

-- the roles in the order of their numbers
abbrev pub roles : List Role
roles = Down ∷ Idle ∷ Sync ∷ Backup ∷ Prospect ∷ Primary ∷ []

abbrev verbs : List Verb
verbs = Start ∷ Ready ∷ Unready ∷ Pass ∷ Crash ∷ Restart ∷ Cut ∷ Mend ∷ []

same_answer : Answer → Answer → Bool
same_answer a b = eqb a.number b.number && same a.values b.values

-- the cell of a role and a verb says what document 01 says
right : Role → Verb → Bool
right r v = ltb (cell (role_number r) (verb_number v)) 15 && same_answer (of_cell (cell (role_number r) (verb_number v))) (enters v r)

row_right : Role → Bool
row_right r = every (right r) verbs

whole : every row_right roles ≡ true
unfolding row_right right same_answer of_cell enters from choose same
whole = refl

pub role-below : (r : Role) → role_number r < 6
role-below Down = lit< tt
role-below Idle = lit< tt
role-below Sync = lit< tt
role-below Backup = lit< tt
role-below Prospect = lit< tt
role-below Primary = lit< tt

pub verb-below : (v : Verb) → verb_number v < 8
verb-below Start = lit< tt
verb-below Ready = lit< tt
verb-below Unready = lit< tt
verb-below Pass = lit< tt
verb-below Crash = lit< tt
verb-below Restart = lit< tt
verb-below Cut = lit< tt
verb-below Mend = lit< tt

pub role-at : (r : Role) → get_or roles (role_number r) Down ≡ r
role-at Down = refl
role-at Idle = refl
role-at Sync = refl
role-at Backup = refl
role-at Prospect = refl
role-at Primary = refl

verb-at : (v : Verb) → get_or verbs (verb_number v) Start ≡ v
verb-at Start = refl
verb-at Ready = refl
verb-at Unready = refl
verb-at Pass = refl
verb-at Crash = refl
verb-at Restart = refl
verb-at Cut = refl
verb-at Mend = refl

right-at : (r : Role) (v : Verb) → right r v ≡ true
unfolding row_right
right-at r v =
    let row : row_right r ≡ true = rw (role-at r) at (every-at row_right roles (role_number r) Down whole (role-below r)) in
    rw (verb-at v) at (every-at (right r) verbs (verb_number v) Start row (verb-below v))

same_answer_lem : (a b : Answer) → same_answer a b ≡ true → a ≡ b
unfolding same_answer
same_answer_lem a b e =
    ap₂ (λ (n : ℕ) (vs : List ℕ). record { number = n; values = vs })
    (eqb-true a.number b.number (fst_true _ _ e))
    (same-equal a.values b.values (snd_true (eqb a.number b.number) _ e))

module _ (r : Role) (v : Verb) where
  pub cell-right : of_cell (cell (role_number r) (verb_number v)) ≡ enters v r
  unfolding right
  cell-right = same_answer_lem _ _ (snd_true (ltb (cell (role_number r) (verb_number v)) 15) _ (right-at r v))

  pub cell-small : cell (role_number r) (verb_number v) < 15
  unfolding right
  cell-small = ltb-true _ _ (fst_true _ _ (right-at r v))
