-- The three timers one after the other. Assumes nothing.
use mathlib.Core.Path.{◌≡◌, ap, ◌∙◌}
use Prim.Native.Nat.{ℕ}
use Rattle.roles.specs.declared.Event.{Event}
use Rattle.periods.specs.declared.Period.{Period}
use Rattle.server.specs.declared.Server.{Server}
use Rattle.server.specs.declared.Timed.{Timed}
use Rattle.server.specs.Server.{after}
use Rattle.server.specs.Timers.{silent, beating, rising, after_silent, after_beating, after_rising, timed}

pub timing :
    (t : ℕ) (p : Period) (s : Server) {s₁ s₂ s₃ : Server} {e₁ e₂ e₃ : Event} →
    e₁ ≡ silent t p s → s₁ ≡ after t s e₁ → e₂ ≡ beating t p s₁ → s₂ ≡ after t s₁ e₂ → e₃ ≡ rising t p s₂ → s₃ ≡ after t s₂ e₃ →
    ◌≡◌ {A = Timed} (record { server = s₃; silent = e₁; beating = e₂; rising = e₃ }) (timed t p s)
unfolding after_silent after_beating after_rising
timing t p s {s₁} {s₂} {s₃} p₁ q₁ p₂ q₂ p₃ q₃ =
    let r₁ : s₁ ≡ after_silent t p s = q₁ ∙ ap (after t s) p₁ in
    let r₂ : s₂ ≡ after_beating t p (after_silent t p s) = q₂ ∙ ap (after t s₁) p₂ ∙ ap (after_beating t p) r₁ in
    let r₃ : s₃ ≡ after_rising t p (after_beating t p (after_silent t p s)) = q₃ ∙ ap (after t s₂) p₃ ∙ ap (after_rising t p) r₂ in
    cc (r₃, p₁, p₂ ∙ ap (beating t p) r₁, p₃ ∙ ap (rising t p) r₂)
