-- The lines of a frame, server by server. Assumes nothing.
use mathlib.Core.Bool.{Bool, false}
use mathlib.Core.Path.{◌≡◌, refl, sym, ap, subst, ◌∙◌}
use mathlib.Core.List.{List, ◌++◌}
use Prim.Native.Nat.{ℕ, ◌+◌, ◌<◌}
use native.Mathlib.Numerals.{add-one}
use lib.ListN.{length, drop, get_or, set}
use lib.Seq.{drop-cons, set-get_or}
use Rattle.lists.specs.Lists.{map_from}
use Rattle.heartbeat.specs.declared.Heartbeat.{Heartbeat}
use Rattle.periods.specs.declared.Period.{Period}
use Rattle.server.specs.declared.Server.{Server}
use Rattle.server.specs.declared.Timed.{Timed}
use Rattle.server.specs.Server.{absent, cleared}
use Rattle.server.specs.Timers.{timed}
use Rattle.group.specs.declared.State.{State}
use Rattle.frame.specs.Answers.{ticks_in}
use Rattle.frame.specs.Steps.{Ran, Out, Does, Turns, any_sent, Runs, TicksAt, TicksAll, tick_lines, resting}
use Rattle.frame.specs.declared.Told.{Told}
use Rattle.group.specs.Hearing.{inbox}
use Rattle.server.specs.Hearing.{heard_all}
use Rattle.group.specs.Frame.{heard_lines, timed_lines, hearing, turned, turn_lines, turns_lines, advanced, frame_lines}
use Rattle.frame.proofs.Quiet.{no_timer, ticks-frame}
use Rattle.frame.proofs.Hearings.{no_ticks}

module _ (c : State) (t : ℕ) (l : List Server) where
  pub lines_more : (i : ℕ) (d : Server) → i < length l → turns_lines c t i (drop i l) ≡ turn_lines c t i (get_or l i d) ++ turns_lines c t (i + 1) (drop (i + 1) l)
  unfolding turns_lines
  lines_more i d h = rw (add-one, drop-cons l i d h)

-- a turn in which all of the inbox is heard
pub turn_is :
    (c : State) (t j : ℕ) (s : Server) {hs : List Heartbeat} {wet : Bool} {d : List ℕ} {at : ℕ} {r : Told} {d' : List ℕ} → hs ≡ inbox c j →
    Turns hs t c.period wet s d at r d' → (r.server ≡ turned c t j s) × Out wet d at (turn_lines c t j s) r.at d'
unfolding turned turn_lines hearing
turn_is c t j s {hs} {wet} {d} {at} {r} {d'} e p = (
  p.server ∙ ap (λ (x : List Heartbeat). (timed t c.period (heard_all t (cleared s) x)).server) e,
  subst (λ (x : List Heartbeat). Out wet d at (heard_lines t (cleared s) x ++ timed_lines t s.identity (timed t c.period (heard_all t (cleared s) x))) r.at d') e p.out,
)

-- the timers of a server are those of an equal one
pub does_as :
    (t : ℕ) (p : Period) {wet : Bool} {s x : Server} {d : List ℕ} {at : ℕ} {r : Told} {d' : List ℕ} → s ≡ x →
    Does wet (timed t p s).server (timed_lines t s.identity (timed t p s)) d at r d' → Does wet (timed t p x).server (timed_lines t x.identity (timed t p x)) d at r d'
does_as t p {wet} {s} {x} {d} {at} {r} {d'} e v = subst (λ (y : Server). Does wet (timed t p y).server (timed_lines t y.identity (timed t p y)) d at r d') e v

-- all servers after their turns are those of the next channel
pub frame-runs :
    (c : State) {wet : Bool} {d : List ℕ} {at n : ℕ} {l : List Server} {d' : List ℕ} → l ≡ map_from 0 (turned c (c.frame + 1)) c.servers →
    Out wet d at (turns_lines c (c.frame + 1) 0 c.servers) n d' → Runs wet c d at (record { servers = l; at = n }) d'
unfolding advanced frame_lines
frame-runs c e o = record { servers = e; out = o }

-- ---- a frame in which only timers run

module _ (t : ℕ) (p : Period) (l : List Server) where
  pub ticks-more : (i : ℕ) (d : Server) → i < length l → tick_lines t p (drop i l) ≡ timed_lines t (get_or l i d).identity (timed t p (get_or l i d)) ++ tick_lines t p (drop (i + 1) l)
  ticks-more i d h = rw (add-one, drop-cons l i d h)

-- the timers of a place where none is due
pub ticks-none :
    (t : ℕ) (p : Period) (l : List Server) (j : ℕ) {s : Server} {wet : Bool} {d : List ℕ} {at : ℕ} → s ≡ get_or l j absent → ticks_in s.role t p s ≡ false →
    TicksAt wet t p l j d at (record { servers = l; at = at }) d
ticks-none t p l j {s} {wet} {d} {at} e h =
    let x = get_or l j absent in
    let rest : timed t p x ≡ resting x = subst (λ (y : Server). timed t p y ≡ resting y) e (no_timer t p s s.role refl h) in
    let v = no_ticks t p x rest in
    record { servers = sym (ap (set l j) (ap (λ (m : Timed). m.server) rest) ∙ set-get_or l j absent); out = v.out }

-- the timers of a place where an equal server stands
pub ticks_as :
    {t : ℕ} {p : Period} {l : List Server} {j : ℕ} {x : Server} {wet : Bool} {d : List ℕ} {at : ℕ} {r : Ran} {d' : List ℕ} → get_or l j absent ≡ x → TicksAt wet t p l j d at r d' →
    (r.servers ≡ set l j (timed t p x).server) × Out wet d at (timed_lines t x.identity (timed t p x)) r.at d'
ticks_as {t} {p} {l} {j} {x} {wet} {d} {at} {r} {d'} e v =
    (v.servers ∙ ap (λ (y : Server). set l j (timed t p y).server) e, subst (λ (y : Server). Out wet d at (timed_lines t y.identity (timed t p y)) r.at d') e v.out)

-- a frame in which only timers run, after one in which nobody sent
pub ticks_run :
    (c : State) → any_sent c.servers ≡ false → length c.servers ≡ 16 → {wet : Bool} {d : List ℕ} {at : ℕ} {r : Ran} {d' : List ℕ} →
    TicksAll wet (c.frame + 1) c.period c.servers d at r d' → Runs wet c d at r d'
ticks_run c quiet long {wet} {d} {at} {r} {d'} v =
    let q = ticks-frame c quiet long in
    record { servers = v.servers ∙ sym q.0; out = subst (λ (x : List ℕ). Out wet d at x r.at d') (sym q.1) v.out }
