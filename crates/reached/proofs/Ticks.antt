-- The closed form of the timers of a frame. Assumes nothing.
use mathlib.Core.Bool.{Bool, true, false}
use mathlib.Core.Path.{◌≡◌, refl, sym, ap, ◌∙◌}
use Prim.Native.Nat.{ℕ, ◌+◌, ◌≤◌}
use native.Mathlib.Omega.{arith}
use borrow.Author.Tests.{eq-eqb, ne_eqb}
use Rattle.lists.specs.Choice.{choose}
use Rattle.lists.proofs.Cases.{tested, chosen, other, on, clash}
use Rattle.roles.specs.declared.Role.{Role}
use Rattle.roles.specs.declared.Role.TheVariants.{Down, Idle, Sync, Backup, Prospect, Primary}
use Rattle.roles.specs.declared.Event.{Event}
use Rattle.roles.specs.declared.Event.TheVariants.{Nothing, Beat}
use Rattle.periods.specs.declared.Period.{Period}
use Rattle.server.specs.declared.Server.{Server}
use Rattle.periods.specs.Period.{silence_limit, prospect_limit, beat_limit}
use Rattle.server.specs.Server.{in_role, set_beat, to_prospect, send_beat, send_reveal, after}
use Rattle.server.specs.Timers.{aged, silent_in, beating_in, rising_in, after_silent, after_beating, after_rising, timed}
use Rattle.roles.specs.Roles.{is_active}

module _ (p : Period) (t : ℕ) where
  -- each timer, by the role
  silent_as : (m : Server) {r : Role} → m.role ≡ r → after_silent t p m ≡ after t m (silent_in r (aged m.silence (silence_limit p) t))
  unfolding after_silent
  silent_as m e = ap (λ (r : Role). after t m (silent_in r (aged m.silence (silence_limit p) t))) e

  beating_as : (m : Server) {r : Role} → m.role ≡ r → after_beating t p m ≡ after t m (beating_in r (aged m.beat (beat_limit p) t))
  unfolding after_beating
  beating_as m e = ap (λ (r : Role). after t m (beating_in r (aged m.beat (beat_limit p) t))) e

  rising_as : (m : Server) {r : Role} → m.role ≡ r → after_rising t p m ≡ after t m (rising_in r (aged m.prospect (prospect_limit p) t))
  unfolding after_rising
  rising_as m e = ap (λ (r : Role). after t m (rising_in r (aged m.prospect (prospect_limit p) t))) e

  -- the three together, from each
  together : (m : Server) {a b d : Server} → after_silent t p m ≡ a → after_beating t p a ≡ b → after_rising t p b ≡ d → (timed t p m).server ≡ d
  together m e f g = ap (λ (x : Server). after_rising t p (after_beating t p x)) e ∙ ap (after_rising t p) f ∙ g

  -- down, idle, sync
  rest_in : (m : Server) (r : Role) → m.role ≡ r → is_active r ≡ false → (timed t p m).server ≡ m
  unfolding after is_active
  rest_in m Down e a = together m (silent_as m e) (beating_as m e) (rising_as m e)
  rest_in m Idle e a = together m (silent_as m e) (beating_as m e) (rising_as m e)
  rest_in m Sync e a = together m (silent_as m e) (beating_as m e) (rising_as m e)
  rest_in m Backup e a = absurd (clash refl a)
  rest_in m Prospect e a = absurd (clash refl a)
  rest_in m Primary e a = absurd (clash refl a)

  pub ticks-rest : (m : Server) → is_active m.role ≡ false → (timed t p m).server ≡ m
  ticks-rest m a = rest_in m m.role refl a

  -- a backup whose silence is not due
  pub ticks-wait : (m : Server) → m.role ≡ Backup → (m.silence + silence_limit p ≡ t → ⊥) → (timed t p m).server ≡ m
  unfolding after
  ticks-wait m e h =
      together m (silent_as m e ∙ ap (after t m) (other _ (ne_eqb (m.silence + silence_limit p) t h))) (beating_as m e) (rising_as m e)

  -- a backup whose silence is due: to prospect, with a reveal
  abbrev pub woken : Server → Server
  woken m = send_reveal (to_prospect t m)

  pub ticks-wake : 1 ≤ p.frames → (m : Server) → m.role ≡ Backup → m.silence + silence_limit p ≡ t → (timed t p m).server ≡ woken m
  unfolding after
  ticks-wake some m e h =
      together m
      (silent_as m e ∙ ap (after t m) (chosen _ (eq-eqb (m.silence + silence_limit p) t h)))
      (beating_as (woken m) refl ∙ ap (after t (woken m)) (other _ (ne_eqb (t + beat_limit p) t (λ z. omega arith))))
      (rising_as (woken m) refl ∙ ap (after t (woken m)) (other _ (ne_eqb (t + prospect_limit p) t (λ z. omega arith))))

  -- a beat that is due
  abbrev pub beaten : Server → Server
  beaten m = choose (aged m.beat (beat_limit p) t) (send_beat (set_beat t m)) m

  after_choice : (b : Bool) (m : Server) (e : Event) → after t m (choose b e Nothing) ≡ choose b (after t m e) m
  unfolding choose after
  after_choice true m e = refl
  after_choice false m e = refl

  beat-role : (m : Server) → (beaten m).role ≡ m.role
  beat-role m =
      on (tested (aged m.beat (beat_limit p) t))
      (λ e. ap (λ (x : Server). x.role) (chosen {a = send_beat (set_beat t m)} m e))
      (λ e. ap (λ (x : Server). x.role) (other {b = m} (send_beat (set_beat t m)) e))

  beat_prospect : (m : Server) → (beaten m).prospect ≡ m.prospect
  beat_prospect m =
      on (tested (aged m.beat (beat_limit p) t))
      (λ e. ap (λ (x : Server). x.prospect) (chosen {a = send_beat (set_beat t m)} m e))
      (λ e. ap (λ (x : Server). x.prospect) (other {b = m} (send_beat (set_beat t m)) e))

  pub ticks-primary : (m : Server) → m.role ≡ Primary → (timed t p m).server ≡ beaten m
  unfolding after
  ticks-primary m e =
      together m (silent_as m e) (beating_as m e ∙ after_choice (aged m.beat (beat_limit p) t) m Beat) (rising_as (beaten m) (beat-role m ∙ e))

  pub ticks_prospect : (m : Server) → m.role ≡ Prospect → (m.prospect + prospect_limit p ≡ t → ⊥) → (timed t p m).server ≡ beaten m
  unfolding after
  ticks_prospect m e h =
      together m (silent_as m e) (beating_as m e ∙ after_choice (aged m.beat (beat_limit p) t) m Beat)
      (rising_as (beaten m) (beat-role m ∙ e)
      ∙ ap (after t (beaten m)) (other _ (ne_eqb ((beaten m).prospect + prospect_limit p) t (λ z. h (ap (λ (n : ℕ). n + prospect_limit p) (sym (beat_prospect m)) ∙ z)))))

  pub ticks_ripe : (m : Server) → m.role ≡ Prospect → m.prospect + prospect_limit p ≡ t → (timed t p m).server ≡ in_role Primary (beaten m)
  unfolding after
  ticks_ripe m e h =
      together m (silent_as m e) (beating_as m e ∙ after_choice (aged m.beat (beat_limit p) t) m Beat)
      (rising_as (beaten m) (beat-role m ∙ e)
      ∙ ap (after t (beaten m)) (chosen _ (eq-eqb ((beaten m).prospect + prospect_limit p) t (ap (λ (n : ℕ). n + prospect_limit p) (beat_prospect m) ∙ h))))
