use mathlib.Core.Bool.{true, false}
use mathlib.Core.Logic.{⊎_elim}
use mathlib.Core.Path.{◌≡◌, refl}
use Rattle.roles.specs.declared.Role.{Role}
use Rattle.roles.specs.declared.Role.TheVariants.{Down, Idle, Sync, Backup, Prospect, Primary}
use Rattle.roles.specs.Roles.{is_active}
use Rattle.places.proofs.is_active.Goals as goal

-- a role that is none of the three
idle_role : (r : Role) → (r ≡ Backup → ⊥) → (r ≡ Prospect → ⊥) → (r ≡ Primary → ⊥) → false ≡ is_active r
unfolding is_active
idle_role Down b p q = refl
idle_role Idle b p q = refl
idle_role Sync b p q = refl
idle_role Backup b p q = absurd (b refl)
idle_role Prospect b p q = absurd (p refl)
idle_role Primary b p q = absurd (q refl)

pub returns-in-Backup : goal.returns-in-Backup
unfolding is_active
returns-in-Backup c = ⊎_elim (λ e. rw e refl) (λ o. ⊎_elim (λ e. rw e refl) (λ e. rw e refl) o) c.in-Backup.is

pub returns-in_default : goal.returns-in_default
returns-in_default c = idle_role c.args.role c.in_default.not-Backup c.in_default.not-Prospect c.in_default.not-Primary
