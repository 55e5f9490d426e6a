-- No move goes back: not to a line before, and not to a day without its period. Assumes nothing.
use mathlib.Core.Bool.{Bool, true, false}
use mathlib.Core.Path.{◌≡◌, refl}
use mathlib.Core.List.{List, [], ◌∷◌}
use Prim.Native.Nat.{ℕ, ◌+◌, ◌≤◌}
use native.Mathlib.Omega.{arith}
use lib.Dec.{ltb, eqb}
use lib.ListN.{length, length-append}
use Rattle.lists.proofs.Cases.{tested, on, clash, by_choice}
use Rattle.group.specs.declared.State.{State}
use Rattle.group.specs.Table.{fresh_refusal}
use Rattle.group.specs.Verbs.{known, verb_outcome}
use Rattle.roles.specs.declared.Verb.{Verb}
use Rattle.day.specs.Read.{DayLine, wrong, period, server, entry, end, line_read}
use Rattle.day.specs.Day.{Stage, atPeriod, atServers, atEntries, atClose, Day, Effect, stop, go, table_of, period_effect, add_effect, server_effect, call_effect, entry_effect, end_effect, opening, in_place, line_effect, beyond}
use Rattle.feeding.specs.Fed.{Fed, closed, waits, with_byte, taken, taken_bytes}
use Rattle.feeding.specs.Moves.{Move, effect_move, placed_move, line_move, step_move, both, steps_move, last_move}
use Rattle.feeding.proofs.Taking.{taken_none, taken_more, count_none, count-more}
use Rattle.feed.specs.Answers.{unmade}
use Rattle.printer.specs.Print.{rest_move, turn_move}
use Rattle.printer.proofs.Turning.{turn_step, turn-rest, none-taken}

-- g comes after f, with n bytes taken: on the same line these are all
pub record Later (f : Fed) (n : ℕ) (g : Fed) : Type 0 where
  pub number : f.number ≤ g.number
  pub line : g.number ≡ f.number → length g.line ≡ length f.line + n
  pub made : unmade g.day.stage ≡ true → unmade f.day.stage ≡ true

pub later_same : {f : Fed} → Later f 0 f
later_same = record { number = omega arith; line = λ e. omega arith; made = λ e. e }

later-then : {f g h : Fed} → Later f 0 g → Later g 0 h → Later f 0 h
later-then p q =
    let a = p.number in
    let b = q.number in
    record {
      number = omega arith;
      line = λ e. let c = p.line (omega arith) in let d = q.line (omega arith) in omega arith;
      made = λ e. p.made (q.made e);
    }

-- ---- lines

-- a line that goes on leaves a day with its period
data Onward : Effect → Type 0 where
  stops : {n : ℕ} → Onward (stop n)
  goes : {w : List ℕ} {e : Day} → unmade e.stage ≡ false → Onward (go w e)

period-on : (g : Stage) (p : ℕ) → Onward (period_effect g p)
period-on atPeriod p = goes refl
period-on atServers p = stops
period-on atEntries p = stops
period-on atClose p = stops

server-on : (g : Stage) (c : State) (i p : ℕ) → Onward (server_effect g c i p)
unfolding add_effect
server-on atPeriod c i p = stops
server-on atServers c i p = by_choice Onward _ (λ t. goes refl) (λ t. stops)
server-on atEntries c i p = stops
server-on atClose c i p = stops

call-on : (w : List ℕ) (c : State) (v : Verb) (a b : ℕ) → Onward (call_effect w c v a b)
unfolding call_effect
call-on w c v a b = on (tested (eqb (verb_outcome c v a b).number 0)) (λ e. rw (e, call_effect) (goes refl)) (λ e. rw (e, call_effect) (goes refl))

entry-on : (c : State) (t : ℕ) (v : Verb) (a b : ℕ) → Onward (entry_effect c t v a b)
unfolding entry_effect
entry-on c t v a b =
    on (tested (known c v a b))
    (λ e. on (tested (ltb t c.frame)) (λ o. rw (e, entry_effect) (rw o (goes refl))) (λ o. rw (e, entry_effect) (rw o (call-on _ _ v a b))))
    (λ e. rw (e, entry_effect) stops)

end_on : (c : State) (t : ℕ) → Onward (end_effect c t)
unfolding end_effect
end_on c t = on (tested (ltb t c.frame)) (λ e. rw (e, end_effect) (goes refl)) (λ e. rw (e, end_effect) (goes refl))

opening_on : (c : State) (x : Effect) → Onward x → Onward (opening c x)
unfolding opening
opening_on c x h = on (tested (eqb (fresh_refusal (table_of c) c.period.frames) 0)) (λ e. rw (e, opening) h) (λ e. rw (e, opening) stops)

placed_on : (g : Stage) (c : State) (x : Effect) → Onward x → Onward (in_place g c x)
placed_on atPeriod c x h = stops
placed_on atServers c x h = opening_on c x h
placed_on atEntries c x h = h
placed_on atClose c x h = stops

line_on : (d : Day) (l : DayLine) → Onward (line_effect d l)
line_on d (wrong n) = stops
line_on d (period p) = period-on d.stage p
line_on d (server i p) = server-on d.stage d.channel i p
line_on d (entry t v a b) = placed_on d.stage d.channel _ (entry-on d.channel t v a b)
line_on d (end t) = placed_on d.stage d.channel _ (end_on d.channel t)

beyond-on : (l : DayLine) → Onward (beyond l)
beyond-on (wrong n) = stops
beyond-on (period p) = stops
beyond-on (server i p) = stops
beyond-on (entry t v a b) = stops
beyond-on (end t) = stops

-- ---- moves

abbrev Goes : Fed → Move → Type 0
Goes f m = Later f 0 m.fed

effect_later : (f : Fed) {x : Effect} → Onward x → Goes f (effect_move f x)
effect_later f stops = record { number = omega arith; line = λ e. omega arith; made = λ e. e }
effect_later f (goes h) = record { number = omega arith; line = λ z. absurd (omega arith); made = λ z. absurd (clash z h) }

step-later : (f : Fed) (room : ℕ) → Goes f (step_move f room)
unfolding step_move line_move placed_move
step-later f room =
    by_choice (Goes f) _
    (λ t.
    by_choice (Goes f) _
    (λ t. by_choice (Goes f) _ (λ t. effect_later f (line_on f.day (line_read f.line))) (λ t. record { number = omega arith; line = λ e. omega arith; made = λ e. absurd (clash e refl) }))
    (λ t. effect_later f (beyond-on (line_read f.line))))
    (λ t. later_same)

steps-later : (f : Fed) (room : ℕ) → Goes f (steps_move f room)
unfolding both
steps-later f room = by_choice (Goes f) _ (λ t. later-then (step-later f room) (step-later (step_move f room).fed _)) (λ t. step-later f room)

last-later : (f : Fed) → Goes f (last_move f)
unfolding last_move
last-later f = by_choice (Goes f) _ (λ t. later_same) (λ t. record { number = omega arith; line = λ e. omega arith; made = λ e. e })

taken-later : (f : Fed) (s : List ℕ) → Later f (taken_bytes f s) (taken f s)
unfolding taken taken_bytes
taken-later f [] = later_same
taken-later f (x ∷ s) =
    on (tested (closed f))
    (λ e. rw (taken_none f (x ∷ s) e, count_none f (x ∷ s) e) later_same)
    (λ e.
    rw (taken_more f x s e, count-more f x s e)
    (let q = taken-later (with_byte f x) s in
    let n = q.number in
    let k = length-append f.line (x ∷ []) in
    record { number = omega arith; line = λ z. let a = q.line z in omega arith; made = λ z. q.made z }))

pub turn-later : (f : Fed) (s : List ℕ) (last : Bool) (room : ℕ) → Later f (taken_bytes f s) (turn_move f s last room).fed
unfolding taken_bytes
turn-later f s last room =
    on (tested (waits f))
    (λ e. rw (turn_step f s last room e, none-taken f s e) (steps-later f room))
    (λ e. rw (turn-rest f s last room e) (rest s))
  where
    rest : (s : List ℕ) → Later f (taken_bytes f s) (rest_move f s last).fed
    rest [] = by_choice (Goes f) last (λ t. last-later f) (λ t. later_same)
    rest (x ∷ s) = taken-later f (x ∷ s)
