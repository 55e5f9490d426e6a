-- Servers stay small. Assumes nothing.
use mathlib.Core.Bool.{Bool}
use mathlib.Core.Path.{◌≡◌, sym, ap, subst, ◌∙◌}
use mathlib.Core.List.{List, [], ◌∷◌}
use Prim.Native.Nat.{ℕ, zero, suc, ◌+◌, ◌≤◌, ◌<◌}
use native.Mathlib.Omega.{arith}
use borrow.Author.Tests.{ltb-true, eq-eqb}
use lib.Dec.{ltb, eqb}
use lib.ListN.{length, get_or, set, replicate, length-set, length-replicate, get_or-eq_default}
use Rattle.lists.specs.Choice.{choose}
use Rattle.lists.proofs.Cases.{less, chosen, on, by_choice}
use Rattle.refusal.specs.Answer.{Answer}
use Rattle.heartbeat.specs.declared.Heartbeat.{Heartbeat}
use Rattle.roles.specs.declared.Role.{Role}
use Rattle.roles.specs.declared.Role.TheVariants.{Down, Idle, Sync, Backup, Prospect, Primary}
use Rattle.roles.specs.declared.Event.{Event}
use Rattle.roles.specs.declared.Event.TheVariants as event
use Rattle.periods.specs.declared.Period.{Period}
use Rattle.server.specs.declared.Server.{Server}
use Rattle.roles.specs.declared.Verb.{Verb}
use Rattle.roles.specs.declared.Verb.TheVariants.{Start, Ready, Unready, Pass, Crash, Restart, Cut, Mend}
use Rattle.server.specs.Server.{absent, idle, one_more, most_beats, cleared, after}
use Rattle.server.specs.Hearing.{backup_hears, prospect_hears, primary_hears, hears_in, attending, heard, heard_all}
use Rattle.server.specs.Timers.{silent_in, beating_in, rising_in, after_silent, after_beating, after_rising, timed}
use Rattle.roles.specs.Verbs.{entering, verb_event, verb_happens}
use Rattle.group.specs.declared.State.{State}
use Rattle.group.specs.declared.Table.{Table}
use Rattle.group.specs.Table.{most, empty, stands_before, enter, add_refusal, added, fresh}
use Rattle.group.specs.Hearing.{place}
use Rattle.group.specs.Frame.{hearing, turned, advanced}
use Rattle.group.specs.Verbs.{did}
use Rattle.group.specs.Advance.{advanced_by}
use Rattle.group.proofs.Places.{place-advanced, long-advanced}
use Rattle.group.proofs.Made.{length-enter, table_empty, table-added, same-servers}
use Rattle.feeding.specs.Bound.{Small, SmallChannel}

-- ---- one server

small-absent : Small absent
small-absent = record { identity = omega arith; beats = omega arith; pass = omega arith }

-- an event with no great identity
abbrev Plain : Event → Type 0
Plain event.Nothing = 0 < 1
Plain event.ToBackup = 0 < 1
Plain event.ToProspectBeat = 0 < 1
Plain event.ToProspectReveal = 0 < 1
Plain event.Lower = 0 < 1
Plain event.LowerBeat = 0 < 1
Plain event.Beat = 0 < 1
Plain event.ToPrimary = 0 < 1
Plain event.ToSync = 0 < 1
Plain event.ToIdle = 0 < 1
Plain event.ToDown = 0 < 1
Plain (event.Passed b) = b < 65536

plain : 0 < 1
plain = omega arith

most-beats : (n : ℕ) → one_more n ≤ most_beats
unfolding one_more
most-beats n = by_choice (λ (k : ℕ). k ≤ most_beats) (ltb n most_beats) (λ t. let h = ltb-true n most_beats t in omega arith) (λ t. omega arith)

small-after : (t : ℕ) (s : Server) (e : Event) → Small s → Plain e → Small (after t s e)
unfolding after
small-after t s event.Nothing q p = q
small-after t s event.ToBackup q p = record { identity = q.identity; beats = q.beats; pass = q.pass }
small-after t s event.ToProspectBeat q p = record { identity = q.identity; beats = most-beats s.beats; pass = q.pass }
small-after t s event.ToProspectReveal q p = record { identity = q.identity; beats = q.beats; pass = q.pass }
small-after t s event.Lower q p = q
small-after t s event.LowerBeat q p = record { identity = q.identity; beats = most-beats s.beats; pass = q.pass }
small-after t s event.Beat q p = record { identity = q.identity; beats = most-beats s.beats; pass = q.pass }
small-after t s event.ToPrimary q p = record { identity = q.identity; beats = q.beats; pass = q.pass }
small-after t s event.ToSync q p = record { identity = q.identity; beats = q.beats; pass = q.pass }
small-after t s event.ToIdle q p = record { identity = q.identity; beats = q.beats; pass = q.pass }
small-after t s event.ToDown q p = record { identity = q.identity; beats = q.beats; pass = q.pass }
small-after t s (event.Passed b) q p = record { identity = q.identity; beats = q.beats; pass = p }

hears-plain : (r : Role) (s : Server) (h : Heartbeat) → Plain (hears_in r s h)
unfolding backup_hears prospect_hears primary_hears
hears-plain Down s h = plain
hears-plain Idle s h = plain
hears-plain Sync s h = plain
hears-plain Backup s h = by_choice Plain _ (λ t. plain) (λ t. by_choice Plain _ (λ t. plain) (λ t. plain))
hears-plain Prospect s h = by_choice Plain _ (λ t. plain) (λ t. by_choice Plain _ (λ t. plain) (λ t. plain))
hears-plain Primary s h = by_choice Plain _ (λ t. plain) (λ t. by_choice Plain _ (λ t. plain) (λ t. by_choice Plain _ (λ t. plain) (λ t. plain)))

attending-small : (t : ℕ) (r : Role) (s : Server) → Small s → Small (attending t r s)
attending-small t Down s q = q
attending-small t Idle s q = q
attending-small t Sync s q = q
attending-small t Backup s q = record { identity = q.identity; beats = q.beats; pass = q.pass }
attending-small t Prospect s q = q
attending-small t Primary s q = q

heard-small : (t : ℕ) (s : Server) (hs : List Heartbeat) → Small s → Small (heard_all t s hs)
unfolding heard_all
heard-small t s [] q = q
heard-small t s (h ∷ hs) q =
    heard-small t (heard t s h).server hs (small-after t (attending t s.role s) (hears_in s.role s h) (attending-small t s.role s q) (hears-plain s.role s h))

silent-plain : (r : Role) (b : Bool) → Plain (silent_in r b)
silent-plain Down b = plain
silent-plain Idle b = plain
silent-plain Sync b = plain
silent-plain Backup b = by_choice Plain b (λ t. plain) (λ t. plain)
silent-plain Prospect b = plain
silent-plain Primary b = plain

beating-plain : (r : Role) (b : Bool) → Plain (beating_in r b)
beating-plain Down b = plain
beating-plain Idle b = plain
beating-plain Sync b = plain
beating-plain Backup b = plain
beating-plain Prospect b = by_choice Plain b (λ t. plain) (λ t. plain)
beating-plain Primary b = by_choice Plain b (λ t. plain) (λ t. plain)

rising-plain : (r : Role) (b : Bool) → Plain (rising_in r b)
rising-plain Down b = plain
rising-plain Idle b = plain
rising-plain Sync b = plain
rising-plain Backup b = plain
rising-plain Prospect b = by_choice Plain b (λ t. plain) (λ t. plain)
rising-plain Primary b = plain

timed-small : (t : ℕ) (p : Period) (s : Server) → Small s → Small (timed t p s).server
unfolding after_silent after_beating after_rising
timed-small t p s q =
    let a = small-after t s _ q (silent-plain s.role _) in
    let b = small-after t (after_silent t p s) _ a (beating-plain (after_silent t p s).role _) in
    small-after t (after_beating t p (after_silent t p s)) _ b (rising-plain (after_beating t p (after_silent t p s)).role _)

turned-small : (c : State) (t j : ℕ) (s : Server) → Small s → Small (turned c t j s)
unfolding turned hearing
turned-small c t j s q = timed-small t c.period _ (heard-small t (cleared s) _ (record { identity = q.identity; beats = omega arith; pass = omega arith }))

-- a verb
happens-plain : (v : Verb) (b : ℕ) (a : Answer) → b < 65536 → Plain (verb_happens v b a)
unfolding verb_happens entering
happens-plain v b a h = by_choice Plain _ (λ t. event-plain v) (λ t. plain)
  where
    entered : (k : ℕ) → Plain (entering k)
    entered k = by_choice Plain _ (λ t. plain) (λ t. by_choice Plain _ (λ t. plain) (λ t. by_choice Plain _ (λ t. plain) (λ t. plain)))

    event-plain : (w : Verb) → Plain (verb_event w b (get_or a.values 0 0))
    event-plain Start = entered (get_or a.values 0 0)
    event-plain Ready = entered (get_or a.values 0 0)
    event-plain Unready = entered (get_or a.values 0 0)
    event-plain Pass = h
    event-plain Crash = entered (get_or a.values 0 0)
    event-plain Restart = entered (get_or a.values 0 0)
    event-plain Cut = plain
    event-plain Mend = plain

-- ---- all servers

every_set : (l : List Server) (k : ℕ) (x : Server) → ((i : ℕ) → Small (get_or l i absent)) → Small x → (i : ℕ) → Small (get_or (set l k x) i absent)
every_set [] k x h q i = small-absent
every_set (s ∷ l) zero x h q zero = q
every_set (s ∷ l) zero x h q (suc i) = h (suc i)
every_set (s ∷ l) (suc k) x h q zero = h 0
every_set (s ∷ l) (suc k) x h q (suc i) = every_set l k x (λ j. h (suc j)) q i

every-enter : (n : Server) (l : List Server) → ((i : ℕ) → Small (get_or l i absent)) → Small n → (i : ℕ) → Small (get_or (enter n l) i absent)
unfolding enter
every-enter n [] h q i = small-absent
every-enter n (s ∷ l) h q zero = by_choice Small (stands_before n s) (λ t. q) (λ t. h 0)
every-enter n (s ∷ l) h q (suc i) = every-enter (choose (stands_before n s) s n) l (λ j. h (suc j)) (by_choice Small (stands_before n s) (λ t. h 0) (λ t. q)) i

every-empty : (n i : ℕ) → Small (get_or (replicate n absent) i absent)
every-empty zero i = small-absent
every-empty (suc n) zero = small-absent
every-empty (suc n) (suc i) = every-empty n i

-- ---- channels

pub calm-empty : (p : ℕ) → SmallChannel (fresh empty p)
calm-empty p =
    let e = same-servers (replicate most absent) table_empty in
    record { places = ap length e ∙ length-replicate most absent; small = λ i. subst (λ (l : List Server). Small (get_or l i absent)) (sym e) (every-empty most i) }

pub calm-added :
    (t : Table) (i p n : ℕ) → i < 65536 → add_refusal t i ≡ 0 → length t.servers ≡ most → ((k : ℕ) → Small (get_or t.servers k absent)) →
    SmallChannel (fresh (added t i p) n)
unfolding added
calm-added t i p n h z long small =
    let l = enter (idle i p) t.servers in
    let is : (added t i p).servers ≡ l = ap (λ (x : Table). x.servers) (chosen _ (eq-eqb (add_refusal t i) 0 z)) in
    let same = same-servers (added t i p).servers (table-added t i p z) ∙ is in
    record {
      places = ap length same ∙ length-enter (idle i p) t.servers ∙ long;
      small =
          λ k.
          subst (λ (m : List Server). Small (get_or m k absent)) (sym same)
          (every-enter (idle i p) t.servers small (record { identity = h; beats = omega arith; pass = omega arith }) k);
    }

calm-next : (c : State) → SmallChannel c → SmallChannel (advanced c)
calm-next c q =
    record {
      places = long-advanced c ∙ q.places;
      small =
          λ i.
          on (less i (length c.servers))
          (λ h. subst Small (sym (place-advanced c i h)) (turned-small c (c.frame + 1) i (place c i) (q.small i)))
          (λ h. subst Small (sym (get_or-eq_default (advanced c).servers absent (let e = long-advanced c in omega arith))) small-absent);
    }

pub calm-by : (n : ℕ) (c : State) → SmallChannel c → SmallChannel (advanced_by n c)
unfolding advanced_by
calm-by zero c q = q
calm-by (suc n) c q = calm-by n (advanced c) (calm-next c q)

pub calm-did : (c : State) (v : Verb) (a b : ℕ) → b < 65536 → SmallChannel c → SmallChannel (did c v a b)
unfolding did
calm-did c v a b h q =
    record {
      places = length-set c.servers _ _ ∙ q.places;
      small = every_set c.servers _ _ q.small (small-after c.frame (place c _) _ (q.small _) (happens-plain v b _ h));
    }
