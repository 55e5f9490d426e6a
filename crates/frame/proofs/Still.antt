-- Servers that do nothing until a verb. Assumes nothing.
use mathlib.Core.Bool.{Bool, true, false}
use mathlib.Core.Path.{◌≡◌, refl, sym, ap, ap₂, subst, ◌∙◌}
use mathlib.Core.List.{List, [], ◌∷◌, ◌++◌}
use Prim.Native.Nat.{ℕ, suc, ◌+◌, ◌-◌, ◌≤◌, ◌<◌}
use native.Mathlib.Omega.{arith}
use lib.ListN.{length, get_or, drop, length-drop}
use lib.Seq.{get_or-drop}
use Rattle.lists.proofs.Cases.{clash, not_so}
use Rattle.heartbeat.specs.declared.Heartbeat.{Heartbeat}
use Rattle.roles.specs.declared.Role.{Role}
use Rattle.roles.specs.declared.Role.TheVariants.{Down, Idle, Sync, Backup, Prospect, Primary}
use Rattle.roles.specs.declared.Event.{Event}
use Rattle.roles.specs.declared.Event.TheVariants.{Nothing}
use Rattle.periods.specs.declared.Period.{Period}
use Rattle.server.specs.declared.Server.{Server}
use Rattle.server.specs.declared.Timed.{Timed}
use Rattle.server.specs.Server.{absent, cleared, sent_any, after}
use Rattle.server.specs.Hearing.{heard, hears_in, attending, heard_all}
use Rattle.roles.specs.Words.{said}
use Rattle.server.specs.Timers.{timed}
use Rattle.lines.specs.Lines.{lines_of}
use Rattle.group.specs.declared.State.{State}
use Rattle.group.specs.Hearing.{inbox}
use Rattle.group.specs.Frame.{heard_lines, timed_lines, hearing, turned, turn_lines, turns_lines}
use Rattle.places.specs.Roles.{still_in, is_still}
use Rattle.frame.specs.Steps.{Still, tick_lines, resting, Rests}
use Rattle.frame.proofs.Quiet.{clear_already, rests-down, rests-idle, rests-sync}

-- ---- one such server

-- its role is one of three, and it sent nothing
data StillRole (s : Server) : Type 0 where
  down : s.role ≡ Down → StillRole s
  idle : s.role ≡ Idle → StillRole s
  sync : s.role ≡ Sync → StillRole s

role_of_still : (s : Server) (r : Role) → s.role ≡ r → still_in r (sent_any s) ≡ true → StillRole s
role_of_still s Down q e = down q
role_of_still s Idle q e = idle q
role_of_still s Sync q e = sync q
role_of_still s Backup q e = absurd (clash e refl)
role_of_still s Prospect q e = absurd (clash e refl)
role_of_still s Primary q e = absurd (clash e refl)

unsent_in : (r : Role) (b : Bool) → still_in r b ≡ true → b ≡ false
unsent_in Down b e = not_so b e
unsent_in Idle b e = not_so b e
unsent_in Sync b e = not_so b e
unsent_in Backup b e = absurd (clash e refl)
unsent_in Prospect b e = absurd (clash e refl)
unsent_in Primary b e = absurd (clash e refl)

module _ (s : Server) (e : is_still s ≡ true) where
  pub still-unsent : sent_any s ≡ false
  still-unsent = unsent_in s.role (sent_any s) e

  still-role : StillRole s
  still-role = role_of_still s s.role refl e

  pub still_clear : cleared s ≡ s
  still_clear = clear_already s still-unsent

  -- it hears nothing
  still_one : (t : ℕ) (h : Heartbeat) → ((heard t s h).server ≡ s) × ((heard t s h).event ≡ Nothing)
  unfolding after
  still_one t h = by still-role
    where
      so : (r : Role) → s.role ≡ r → attending t r s ≡ s → hears_in r s h ≡ Nothing → ((heard t s h).server ≡ s) × ((heard t s h).event ≡ Nothing)
      so r q a b =
          let x = ap (λ (y : Role). attending t y s) q ∙ a in
          let z = ap (λ (y : Role). hears_in y s h) q ∙ b in
          (ap₂ (after t) x z, z)

      by : StillRole s → ((heard t s h).server ≡ s) × ((heard t s h).event ≡ Nothing)
      by (down q) = so Down q refl refl
      by (idle q) = so Idle q refl refl
      by (sync q) = so Sync q refl refl

  pub still-heard : (t : ℕ) (hs : List Heartbeat) → (heard_all t s hs ≡ s) × (heard_lines t s hs ≡ [])
  unfolding heard_all heard_lines lines_of
  still-heard t [] = (refl, refl)
  still-heard t (h ∷ hs) =
      let one = still_one t h in
      let rest = still-heard t hs in (
        ap (λ (x : Server). heard_all t x hs) one.0 ∙ rest.0,
        ap₂ (λ (x : Event) (y : Server). lines_of t s.identity (said x) ++ heard_lines t y hs) one.1 one.0 ∙ rest.1,
      )

  -- and its timers do nothing
  pub still-timed : (t : ℕ) (p : Period) → 0 < t → timed t p s ≡ resting s
  still-timed t p h = by still-role
    where
      by : StillRole s → timed t p s ≡ resting s
      by (down q) = (rests-down (t - 1) p s (t + 1) q).rests t (omega arith) (omega arith)
      by (idle q) = (rests-idle (t - 1) p s (t + 1) q).rests t (omega arith) (omega arith)
      by (sync q) = (rests-sync (t - 1) p s (t + 1) q).rests t (omega arith) (omega arith)

  pub still-rests : (t : ℕ) (p : Period) (r : ℕ) → Rests t p s r
  still-rests t p r = record { rests = λ u a b. still-timed u p (omega arith) }

  pub still-ticked : (t : ℕ) (p : Period) → 0 < t → ((timed t p s).server ≡ s) × (timed_lines t s.identity (timed t p s) ≡ [])
  unfolding timed_lines lines_of
  still-ticked t p h = (ap (λ (m : Timed). m.server) (still-timed t p h), ap (timed_lines t s.identity) (still-timed t p h))

  pub still-turned : (c : State) (t j : ℕ) → 0 < t → (turned c t j s ≡ s) × (turn_lines c t j s ≡ [])
  unfolding turned turn_lines hearing
  still-turned c t j h =
      let there : heard_all t (cleared s) (inbox c j) ≡ s = ap (λ (x : Server). heard_all t x (inbox c j)) still_clear ∙ (still-heard t (inbox c j)).0 in (
        ap (λ (x : Server). (timed t c.period x).server) there ∙ (still-ticked t c.period h).0,
        ap₂ (λ (x : List ℕ) (y : Server). x ++ timed_lines t s.identity (timed t c.period y)) (ap (λ (x : Server). heard_lines t x (inbox c j)) still_clear ∙ (still-heard t (inbox c j)).1) there
            ∙ (still-ticked t c.period h).1,
      )

-- ---- a loop ends where the rest is still

-- the lines of servers that are still are none
none_said : (c : State) (t k : ℕ) (l : List Server) → 0 < t → ((i : ℕ) → i < length l → is_still (get_or l i absent) ≡ true) → turns_lines c t k l ≡ []
unfolding turns_lines
none_said c t k [] h f = refl
none_said c t k (s ∷ l) h f =
    ap₂ (λ (x y : List ℕ). x ++ y) (still-turned s (f 0 (omega arith)) c t k h).1 (none_said c t (suc k) l h (λ i g. f (suc i) (omega arith)))

none-ticked : (t : ℕ) (p : Period) (l : List Server) → 0 < t → ((i : ℕ) → i < length l → is_still (get_or l i absent) ≡ true) → tick_lines t p l ≡ []
none-ticked t p [] h f = refl
none-ticked t p (s ∷ l) h f = ap₂ (λ (x y : List ℕ). x ++ y) (still-ticked s (f 0 (omega arith)) t p h).1 (none-ticked t p l h (λ i g. f (suc i) (omega arith)))

module _ {l : List Server} {n : ℕ} (v : Still n l) (long : length l ≡ 16) (j : ℕ) (h : n ≤ j) where
  dropped : (i : ℕ) → i < length (drop j l) → is_still (get_or (drop j l) i absent) ≡ true
  dropped i g = subst (λ (s : Server). is_still s ≡ true) (sym (get_or-drop j l i absent)) (v.still (j + i) (omega arith) (omega (arith, length-drop j l)))

  pub turns-end : (c : State) (t : ℕ) → 0 < t → turns_lines c t j (drop j l) ≡ []
  turns-end c t k = none_said c t j (drop j l) k dropped

  pub ticks-early : (t : ℕ) (p : Period) → 0 < t → tick_lines t p (drop j l) ≡ []
  ticks-early t p k = none-ticked t p (drop j l) k dropped
