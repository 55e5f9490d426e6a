-- Roles. Assumes nothing.
use mathlib.Core.Bool.{Bool, not, ◌&&◌}
use mathlib.Core.Path.{◌≡◌, refl}
use Rattle.roles.specs.declared.Role.{Role}
use Rattle.roles.specs.declared.Role.TheVariants as role
use Rattle.roles.specs.Roles.{is_active}
use Rattle.places.specs.Roles.{still_in}

pub still-by : (r : Role) (b : Bool) → (not (is_active r) && not b) ≡ still_in r b
unfolding is_active
still-by role.Down b = refl
still-by role.Idle b = refl
still-by role.Sync b = refl
still-by role.Backup b = refl
still-by role.Prospect b = refl
still-by role.Primary b = refl
