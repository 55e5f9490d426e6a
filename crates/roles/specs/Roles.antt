-- The roles of a server.
use Rattle.std.specs.Prelude.{Bool, true, false, ℕ, eqb}
use Rattle.roles.specs.declared.Role.{Role}
use Rattle.roles.specs.declared.Role.TheVariants.{Down, Idle, Sync, Backup, Prospect, Primary}

-- The paper's detector states, for a reader: nothing cites them. `idles` is its Idle; `none` is
-- that of a server that is down. BeaterSuspected "is passed through inside a step and is never seen
-- after it".
pub data Detector : Type 0 where
  none idles beaterOK heartbeating : Detector

-- "A server is down, or in one of five roles, each with one detector state between calls"
abbrev pub detector : Role → Detector
detector Down = none
detector Idle = idles
detector Sync = idles
detector Backup = beaterOK
detector Prospect = heartbeating
detector Primary = heartbeating

-- a number for each role, in the order of document 01
abbrev pub role_number : Role → ℕ
role_number Down = 0
role_number Idle = 1
role_number Sync = 2
role_number Backup = 3
role_number Prospect = 4
role_number Primary = 5

abbrev pub in_role_of : Role → Role → Bool
in_role_of a b = eqb (role_number a) (role_number b)

-- (demand 3) "in backup, prospect or primary": the roles that hear and have timers
unfoldable pub is_active : Role → Bool
is_active Down = false
is_active Idle = false
is_active Sync = false
is_active Backup = true
is_active Prospect = true
is_active Primary = true

-- (demand 3) "prospect or primary": the roles that beat
unfoldable pub is_beating : Role → Bool
is_beating Down = false
is_beating Idle = false
is_beating Sync = false
is_beating Backup = false
is_beating Prospect = true
is_beating Primary = true
