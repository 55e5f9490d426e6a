-- A trace: what a group of servers does from frame to frame, as functions of a frame number and of
-- a server's index.
use Rattle.std.specs.Prelude.{◌≡◌, ◌≢◌, Bool, true, ℕ, ◌<◌}
use Rattle.roles.specs.declared.Role.{Role}
use Rattle.roles.specs.Roles.{is_active, is_beating}

-- The servers are the indices below `size`; `higher i j` says that i is higher than j. `role k i`
-- and the ages are those at the end of frame k, `sends k i` says that i sent anything in it, and
-- `reveals k i` that it sent a reveal.
pub record Trace : Type 0 where
  pub size : ℕ
  pub higher : ℕ → ℕ → Bool
  pub role : ℕ → ℕ → Role
  pub silence_age : ℕ → ℕ → ℕ
  pub beat_age : ℕ → ℕ → ℕ
  pub prospect_age : ℕ → ℕ → ℕ
  pub sends : ℕ → ℕ → Bool
  pub reveals : ℕ → ℕ → Bool

-- who is active when the trace begins
abbrev pub active_at0 : Trace → ℕ → Bool
active_at0 t i = is_active (t.role 0 i)

abbrev pub Active : Trace → ℕ → ℕ → Type 0
Active t k i = is_active (t.role k i) ≡ true

abbrev pub Beats : Trace → ℕ → ℕ → Type 0
Beats t k i = is_beating (t.role k i) ≡ true

-- in the step from frame k on, i hears a server that is higher than itself
pub record HearsHigher (t : Trace) (k i : ℕ) : Type 0 where
  pub who : ℕ
  pub known : who < t.size
  pub sent : t.sends k who ≡ true
  pub over : t.higher who i ≡ true

-- in the step from frame k on, i hears a reveal of a server that is lower than itself
pub record HearsLowReveal (t : Trace) (k i : ℕ) : Type 0 where
  pub who : ℕ
  pub known : who < t.size
  pub revealed : t.reveals k who ≡ true
  pub under : t.higher i who ≡ true

-- in the step from frame k on, i hears another server
pub record HearsAny (t : Trace) (k i : ℕ) : Type 0 where
  pub who : ℕ
  pub known : who < t.size
  pub other : who ≢ i
  pub sent : t.sends k who ≡ true
