-- Timers are younger than their limits: in every frame, whatever is heard and entered. Assumes
-- nothing.
use mathlib.Core.Bool.{true, false, ◌&&◌}
use mathlib.Core.Path.{◌≡◌, refl, sym, ap}
use mathlib.Core.List.{List, [], ◌∷◌}
use Prim.Native.Nat.{ℕ, ◌+◌, ◌<◌, ◌≤◌}
use native.Mathlib.Omega.{arith}
use Rattle.lists.proofs.Cases.{clash, by_choice}
use Rattle.heartbeat.specs.declared.Heartbeat.{Heartbeat}
use Rattle.roles.specs.declared.Role.{Role}
use Rattle.roles.specs.declared.Role.TheVariants.{Down, Idle, Sync, Backup, Prospect, Primary}
use Rattle.roles.specs.declared.Event.{Event}
use Rattle.roles.specs.declared.Event.TheVariants.{Nothing, ToBackup, ToProspectBeat, ToProspectReveal, Lower, LowerBeat, Beat}
use Rattle.periods.specs.declared.Period.{Period}
use Rattle.server.specs.declared.Server.{Server}
use Rattle.periods.specs.Period.{silence_limit, prospect_limit, beat_limit}
use Rattle.server.specs.Server.{after}
use Rattle.server.specs.Hearing.{from_higher, from_lower, for_this, lower_reveals, backup_hears, replies, prospect_hears, primary_hears, hears_in, attending, heard, heard_all}
use Rattle.roles.specs.Roles.{is_active, is_beating}
use Rattle.traces.proofs.Ways as ways

-- the timers of a server in the role r in frame t are not set later, and have not passed their
-- limits
pub record DueIn (p : Period) (t : ℕ) (r : Role) (silence beat prospect : ℕ) : Type 0 where
  pub silence-past : silence ≤ t
  pub beat-past : beat ≤ t
  pub prospect_past : prospect ≤ t
  pub silence-due : r ≡ Backup → t ≤ silence + silence_limit p
  pub beat-due : is_beating r ≡ true → t ≤ beat + beat_limit p
  pub prospect_due : r ≡ Prospect → t ≤ prospect + prospect_limit p

abbrev pub Due : Period → ℕ → Server → Type 0
Due p t s = DueIn p t s.role s.silence s.beat s.prospect

-- and have not reached them
pub record YoungIn (p : Period) (t : ℕ) (r : Role) (silence beat prospect : ℕ) : Type 0 where
  pub silence-past : silence ≤ t
  pub beat-past : beat ≤ t
  pub prospect_past : prospect ≤ t
  pub silence-young : r ≡ Backup → t < silence + silence_limit p
  pub beat-young : is_beating r ≡ true → t < beat + beat_limit p
  pub prospect_young : r ≡ Prospect → t < prospect + prospect_limit p

abbrev pub Young : Period → ℕ → Server → Type 0
Young p t s = YoungIn p t s.role s.silence s.beat s.prospect

-- a frame later the timers are due at most
pub due-next : {p : Period} {t : ℕ} {r : Role} {a b d : ℕ} → YoungIn p t r a b d → DueIn p (t + 1) r a b d
due-next y =
    record {
      silence-past = let h = y.silence-past in omega arith;
      beat-past = let h = y.beat-past in omega arith;
      prospect_past = let h = y.prospect_past in omega arith;
      silence-due = λ e. let h = y.silence-young e in omega arith;
      beat-due = λ e. let h = y.beat-young e in omega arith;
      prospect_due = λ e. let h = y.prospect_young e in omega arith;
    }

not-beating : {A : Type 0} (r : Role) → is_active r ≡ false → is_beating r ≡ true → A
not-beating r a b = absurd (clash (ways.beating-active r b) a)

-- a role that is not active has nothing due
idle-due : {p : Period} {t : ℕ} {r r' : Role} {a b d : ℕ} → DueIn p t r a b d → is_active r' ≡ false → DueIn p t r' a b d
unfolding is_active
idle-due {r' = r} y e =
    record {
      silence-past = y.silence-past;
      beat-past = y.beat-past;
      prospect_past = y.prospect_past;
      silence-due = λ q. absurd (clash (ap is_active q) e);
      beat-due = λ q. not-beating r e q;
      prospect_due = λ q. absurd (clash (ap is_active q) e);
    }

-- the events of hearing
pub data IsHearing : Event → Type 0 where
  nothing : IsHearing Nothing
  backs : IsHearing ToBackup
  beats : IsHearing ToProspectBeat
  reveals : IsHearing ToProspectReveal
  notes : IsHearing Lower
  notes-replies : IsHearing LowerBeat
  answers : IsHearing Beat

module _ (p : Period) (t : ℕ) where
  due_backup : {r : Role} {a b d : ℕ} → DueIn p t r a b d → DueIn p t Backup t b d
  unfolding is_beating
  due_backup y =
      record {
        silence-past = omega arith;
        beat-past = y.beat-past;
        prospect_past = y.prospect_past;
        silence-due = λ _. omega arith;
        beat-due = λ q. absurd (clash q refl);
        prospect_due = λ q. absurd (clash (ap is_beating q) refl);
      }

  due_prospect : {r : Role} {a b d : ℕ} → DueIn p t r a b d → DueIn p t Prospect a t t
  unfolding is_beating
  due_prospect y =
      record {
        silence-past = y.silence-past;
        beat-past = omega arith;
        prospect_past = omega arith;
        silence-due = λ q. absurd (clash refl (ap is_beating q));
        beat-due = λ _. omega arith;
        prospect_due = λ _. omega arith;
      }

  due-beat : {r : Role} {a b d : ℕ} → DueIn p t r a b d → DueIn p t r a t d
  due-beat y =
      record {
        silence-past = y.silence-past;
        beat-past = omega arith;
        prospect_past = y.prospect_past;
        silence-due = y.silence-due;
        beat-due = λ _. omega arith;
        prospect_due = y.prospect_due;
      }

  due-attending : (r : Role) (s : Server) → s.role ≡ r → Due p t s → Due p t (attending t r s)
  due-attending Down s e y = y
  due-attending Idle s e y = y
  due-attending Sync s e y = y
  due-attending Backup s e y = rw (sym e) at (due_backup y)
  due-attending Prospect s e y = y
  due-attending Primary s e y = y

  -- what hearing makes of a server leaves its timers due at most
  due-hearing : (s : Server) {e : Event} → IsHearing e → Due p t s → Due p t (after t s e)
  unfolding after
  due-hearing s nothing y = y
  due-hearing s backs y = due_backup y
  due-hearing s beats y = due_prospect y
  due-hearing s reveals y = due_prospect y
  due-hearing s notes y = y
  due-hearing s notes-replies y = due-beat y
  due-hearing s answers y = due-beat y

-- hearing has no other events
pub hears-only : (r : Role) (s : Server) (h : Heartbeat) → IsHearing (hears_in r s h)
unfolding backup_hears prospect_hears primary_hears
hears-only Down s h = nothing
hears-only Idle s h = nothing
hears-only Sync s h = nothing
hears-only Backup s h = by_choice IsHearing (for_this s h) (λ _. beats) (λ _. by_choice IsHearing (lower_reveals s h) (λ _. reveals) (λ _. nothing))
hears-only Prospect s h = by_choice IsHearing (from_higher s h) (λ _. backs) (λ _. by_choice IsHearing (replies s h) (λ _. answers) (λ _. nothing))
hears-only Primary s h =
    by_choice IsHearing (from_higher s h) (λ _. backs)
    (λ _. by_choice IsHearing (replies s h) (λ _. notes-replies) (λ _. by_choice IsHearing (from_lower s h) (λ _. notes) (λ _. nothing)))

pub due-heard : (p : Period) (t : ℕ) (s : Server) (hs : List Heartbeat) → Due p t s → Due p t (heard_all t s hs)
unfolding heard_all
due-heard p t s [] y = y
due-heard p t s (h ∷ hs) y =
    due-heard p t (heard t s h).server hs
    (due-hearing p t (attending t s.role s) (hears-only s.role s h) (due-attending p t s.role s refl y))
