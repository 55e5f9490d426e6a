-- Frames in which nobody hears what was sent: only timers run. Assumes nothing.
use mathlib.Core.Bool.{Bool, true}
use mathlib.Core.Path.{◌≡◌, refl, sym, ap, ap₂, subst, ◌∙◌}
use mathlib.Core.List.{List, [], ◌∷◌, ◌++◌}
use Prim.Native.Nat.{ℕ, zero, suc, ◌+◌, ◌≤◌, ◌<◌}
use native.Mathlib.Omega.{arith}
use lib.ListN.{length, get_or}
use Rattle.lists.specs.Lists.{map_from}
use Rattle.heartbeat.specs.declared.Heartbeat.{Heartbeat}
use Rattle.server.specs.declared.Server.{Server}
use Rattle.server.specs.Server.{absent, cleared}
use Rattle.server.specs.Timers.{timed}
use Rattle.group.specs.declared.State.{State}
use Rattle.group.specs.Hearing.{inbox}
use Rattle.server.specs.Hearing.{heard_all}
use Rattle.group.specs.Frame.{heard_lines, timed_lines, hearing, turned, turn_lines, turns_lines, advanced, frame_lines}
use Rattle.places.specs.Roles.{is_still}
use Rattle.frame.specs.Steps.{Out, clearing, Still, Ran, Runs, ticked, tick_lines, TicksAll}
use Rattle.frame.proofs.Still.{still_clear}

-- what a place has after the map
at-cleared : (k i : ℕ) (l : List Server) → i < length l → get_or (map_from k clearing l) i absent ≡ cleared (get_or l i absent)
at-cleared k i [] h = absurd (omega arith)
at-cleared k zero (s ∷ l) h = refl
at-cleared k (suc i) (s ∷ l) h = at-cleared (suc k) i l (omega arith)

pub cleared-still : {n : ℕ} {l : List Server} → length l ≡ 16 → Still n l → Still n (map_from 0 clearing l)
cleared-still {n} {l} long v =
    record {
      few = v.few;
      still =
          λ i h g.
          let e = v.still i h g in
          subst (λ (s : Server). is_still s ≡ true) (sym (at-cleared 0 i l (omega arith) ∙ still_clear (get_or l i absent) e)) e;
    }

module _ (c : State) (t : ℕ) where
  turn-unheard : (j : ℕ) (s : Server) → inbox c j ≡ [] → (turned c t j s ≡ ticked t c.period j (cleared s)) × (turn_lines c t j s ≡ timed_lines t s.identity (timed t c.period (cleared s)))
  unfolding turned turn_lines hearing heard_all heard_lines
  turn-unheard j s e = (
    ap (λ (hs : List Heartbeat). (timed t c.period (heard_all t (cleared s) hs)).server) e,
    ap (λ (hs : List Heartbeat). heard_lines t (cleared s) hs ++ timed_lines t s.identity (timed t c.period (heard_all t (cleared s) hs))) e,
  )

  turns-unheard :
      (k : ℕ) (l : List Server) → ((j : ℕ) → k ≤ j → j < k + length l → inbox c j ≡ []) →
      (map_from k (turned c t) l ≡ map_from k (ticked t c.period) (map_from k clearing l)) × (turns_lines c t k l ≡ tick_lines t c.period (map_from k clearing l))
  unfolding turns_lines
  turns-unheard k [] f = (refl, refl)
  turns-unheard k (s ∷ l) f =
      let one = turn-unheard k s (f k (omega arith) (omega arith)) in
      let rest = turns-unheard (suc k) l (λ j h g. f j (omega arith) (omega arith)) in
      (ap₂ (λ (x : Server) (m : List Server). x ∷ m) one.0 rest.0, ap₂ (λ (x y : List ℕ). x ++ y) one.1 rest.1)

-- the timers of the cleared servers are the frame
pub unheard_run :
    (c : State) → length c.servers ≡ 16 → ((j : ℕ) → j < 16 → inbox c j ≡ []) → {wet : Bool} {d : List ℕ} {at : ℕ} {r : Ran} {d' : List ℕ} →
    TicksAll wet (c.frame + 1) c.period (map_from 0 clearing c.servers) d at r d' → Runs wet c d at r d'
unfolding advanced frame_lines
unheard_run c long f {wet} {d} {at} {r} {d'} v =
    let q = turns-unheard c (c.frame + 1) 0 c.servers (λ j h g. f j (omega arith)) in
    record { servers = v.servers ∙ sym q.0; out = subst (λ (x : List ℕ). Out wet d at x r.at d') (sym q.1) v.out }
