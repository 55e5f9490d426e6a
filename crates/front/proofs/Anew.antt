-- The laws of specs/Anew.antt. Assumes nothing.
use mathlib.Core.Bool.{Bool, true, false, not, ◌&&◌, ◌||◌}
use mathlib.Core.Path.{◌≡◌, refl, sym, ap, ap₂, ◌∙◌}
use mathlib.Core.List.{List, [], ◌∷◌, ◌++◌, map}
use Prim.Native.Nat.{ℕ, ◌+◌, ◌<◌}
use native.Mathlib.Omega.{arith}
use borrow.Author.Tests.{ltb-true, lt-ltb}
use lib.Dec.{eqb}
use lib.ListN.{length}
use Rattle.lists.specs.Choice.{choose}
use Rattle.lists.proofs.Cases.{and_true, clash, chosen, by_choice}
use Rattle.refusal.specs.Answer.{accepted, refused, of_verdict}
use Rattle.timecode.specs.Label.{day_length}
use Rattle.heartbeat.specs.declared.Heartbeat.{Heartbeat}
use Rattle.periods.specs.declared.Period.{Period}
use Rattle.roles.specs.declared.Role.{Role}
use Rattle.roles.specs.declared.Role.TheVariants.{Down, Idle, Sync, Backup, Prospect, Primary}
use Rattle.roles.specs.declared.Event.{Event}
use Rattle.roles.specs.declared.Event.TheVariants.{Nothing, ToBackup, ToProspectBeat, ToProspectReveal, Lower, LowerBeat, Beat, ToPrimary, ToIdle}
use Rattle.roles.specs.declared.Verb.{Verb}
use Rattle.roles.specs.declared.Verb.TheVariants.{Start, Ready, Unready, Pass, Crash, Restart, Cut, Mend}
use Rattle.roles.specs.Roles.{in_role_of, is_active, is_beating}
use Rattle.roles.specs.Verbs.{enters, entering, verb_event, verb_happens}
use Rattle.server.specs.declared.Server.{Server}
use Rattle.server.specs.declared.Heard.{Heard}
use Rattle.server.specs.declared.Timed.{Timed}
use Rattle.server.specs.Server.{in_role, set_beat, to_prospect, send_beat, beat_now, send_reveal, cleared, sent_any, after}
use Rattle.server.specs.Hearing.{from_higher, from_lower, for_this, lower_reveals, backup_hears, replies, prospect_hears, primary_hears, hears, attending, heard}
use Rattle.server.specs.Timers.{silent, beating, rising, after_silent, after_beating, after_rising, timed}
use Rattle.server.specs.Verbs.{verb_answer}
use Rattle.server.proofs.Sent.{reveal_any, beat-any}
use Rattle.front.specs.declared.Front.{Front}
use Rattle.front.specs.Front.{fresh, with_server, goes_on, risen, happens}
use Rattle.front.specs.Anew.{Step, begin, hear, tick, act, of_begin, of_hear, of_tick, of_act, stepped, answered, moved, answers, by_begin, by_hear, by_tick, by_act, CallsAreSteps, frames, nothing, InactiveWaits, LateIsFresh, RenewedGoesOn}

pub calls_are_steps : CallsAreSteps
unfolding stepped answered
calls_are_steps f f' x a (by_begin c) = (c.front, ap of_begin c.number)
calls_are_steps f f' x a (by_hear c) = (c.front, ap of_hear c.answer)
calls_are_steps f f' x a (by_tick c) = (c.front, ap of_tick c.answer)
calls_are_steps f f' x a (by_act c) = (c.front, cc)

-- ---- frames in which nothing happens

-- "down, idle, sync: nothing"
deaf : (t : ℕ) (r : Role) (s : Server) (h : Heartbeat) → is_active r ≡ false → heard t (in_role r s) h ≡ record { server = in_role r s; event = Nothing }
unfolding is_active after
deaf t Down s h e = refl
deaf t Idle s h e = refl
deaf t Sync s h e = refl
deaf t Backup s h e = absurd (clash refl e)
deaf t Prospect s h e = absurd (clash refl e)
deaf t Primary s h e = absurd (clash refl e)

-- and no timer
timeless : (t : ℕ) (p : Period) (r : Role) (s : Server) → is_active r ≡ false →
    timed t p (in_role r s) ≡ record { server = in_role r s; silent = Nothing; beating = Nothing; rising = Nothing }
unfolding is_active after after_silent after_beating after_rising
timeless t p Down s e = refl
timeless t p Idle s e = refl
timeless t p Sync s e = refl
timeless t p Backup s e = absurd (clash refl e)
timeless t p Prospect s e = absurd (clash refl e)
timeless t p Primary s e = absurd (clash refl e)

-- the steps xs take f to g, and nothing happens in the role r
record Waits (r : Role) (f : Front) (xs : List Step) (g : Front) : Type 0 where
  front : moved f xs ≡ g
  answers : answers f xs ≡ map (nothing r) xs

-- one step more, in front
more : {r : Role} {f₀ f : Front} {xs : List Step} {g : Front} (x : Step) → stepped f₀ x ≡ f → answered f₀ x ≡ nothing r x → Waits r f xs g → Waits r f₀ (x ∷ xs) g
unfolding moved answers
more {r} {f₀} {f} {xs} x e a w =
    record { front = ap (λ (k : Front). moved k xs) e ∙ w.front; answers = ap₂ ◌∷◌ a (ap (λ (k : Front). answers k xs) e ∙ w.answers) }

abbrev at : Server → Period → ℕ → Front
at s p t = record { server = s; frame = t; period = p }

module _ (s : Server) (p : Period) (e : is_active s.role ≡ false) where
  hear-none : {xs : List Step} {g : Front} (t : ℕ) (hs : List Heartbeat) → Waits s.role (at s p t) xs g → Waits s.role (at s p t) (map hear hs ++ xs) g
  unfolding stepped answered
  hear-none t [] w = w
  hear-none t (h ∷ hs) w =
      more (hear h) (ap (λ (k : Heard). with_server k.server (at s p t)) (deaf t s.role s h e))
      (ap (λ (k : Heard). of_hear (record { event = k.event; role = k.server.role })) (deaf t s.role s h e)) (hear-none t hs w)

  tick-none : {xs : List Step} {g : Front} (t : ℕ) → Waits s.role (at s p t) xs g → Waits s.role (at s p t) (tick ∷ xs) g
  unfolding stepped answered
  tick-none t w =
      more tick (ap (λ (k : Timed). with_server k.server (at s p t)) (timeless t p s.role s e))
      (ap (λ (k : Timed). of_tick (record { silent = k.silent; beating = k.beating; rising = k.rising; role = k.server.role })) (timeless t p s.role s e)) w

  begin-none : {xs : List Step} {g : Front} (t : ℕ) → t + 1 < day_length →
      Waits s.role (at (cleared s) p (t + 1)) xs g → Waits s.role (at s p t) (begin ∷ xs) g
  unfolding stepped answered
  begin-none t d w = more begin (chosen _ (lt-ltb _ _ d)) (ap of_begin (chosen _ (lt-ltb _ _ d))) w

waits : (s : Server) (p : Period) (t : ℕ) (hs : List Heartbeat) (hss : List (List Heartbeat)) → is_active s.role ≡ false →
    t + length (hs ∷ hss) < day_length →
    Waits s.role (at s p t) (frames (hs ∷ hss)) (at (cleared s) p (t + length (hs ∷ hss)))
unfolding frames moved answers
waits s p t hs [] e d =
    begin-none s p e t (omega arith) (hear-none (cleared s) p e (t + 1) hs (tick-none (cleared s) p e (t + 1) (record { front = refl; answers = refl })))
waits s p t hs (hs' ∷ hss) e d =
    let later : (t + 1) + length (hs' ∷ hss) ≡ t + length (hs ∷ hs' ∷ hss) = omega arith in
    begin-none s p e t (omega arith)
    (hear-none (cleared s) p e (t + 1) hs (tick-none (cleared s) p e (t + 1) (rw later at (waits (cleared s) p (t + 1) hs' hss e (omega arith)))))

pub inactive_waits : InactiveWaits
inactive_waits f hs hss e d =
    let w = waits f.server f.period f.frame hs hss e (ltb-true _ _ d) in
    (w.front, w.answers)

pub late_is_fresh : LateIsFresh
unfolding frames moved answers is_active
late_is_fresh i p n [] d = (refl, refl)
late_is_fresh i p n (hs ∷ hss) d =
    let all : 0 + length (hs ∷ hss) ≡ length (hs ∷ hss) = omega arith in
    rw all at (inactive_waits (fresh i p n) hs hss refl (rw all d))

-- ---- what is looked at of a server

-- a timer where the role has it
abbrev held : Bool → ℕ → ℕ
held true n = n
held false n = 0

-- its timers in the role that has them; of what it sent, only whether it did
abbrev seen_as : Bool → Server → Server
seen_as sent s =
    record {
      identity = s.identity;
      priority = s.priority;
      role = s.role;
      silence = held (in_role_of s.role Backup) s.silence;
      beat = held (is_beating s.role) s.beat;
      prospect = held (in_role_of s.role Prospect) s.prospect;
      beats = 0;
      reveal = sent;
      pass = 0;
    }

-- and that only of a prospect or primary, since no other replies
unfoldable pub seen : Server → Server
seen s = seen_as (is_beating s.role && sent_any s) s

-- E looks at nothing else
Looks : {A : Type 0} → (Server → A) → Type 0
Looks E = (s : Server) → E (seen s) ≡ E s

-- nor does E after F, where F keeps what is looked at
look_on : {A : Type 0} (F : Server → Server) (E : Server → A) → Looks (λ s. seen (F s)) → Looks E → Looks (λ s. E (F s))
unfolding Looks
look_on F E f e s = sym (e (F (seen s))) ∙ ap E (f s) ∙ e (F s)

-- whether it sent is seen
sent-seen : (b : Bool) (s : Server) → sent_any (seen_as b s) ≡ b
unfolding sent_any choose
sent-seen true s = refl
sent-seen false s = refl

seen_twice : (r : Role) (s : Server) → seen (seen (in_role r s)) ≡ seen (in_role r s)
unfolding seen is_beating
seen_twice Down s = refl
seen_twice Idle s = refl
seen_twice Sync s = refl
seen_twice Backup s = refl
seen_twice Prospect s = ap (λ (b : Bool). seen_as b (in_role Prospect s)) (sent-seen _ (in_role Prospect s))
seen_twice Primary s = ap (λ (b : Bool). seen_as b (in_role Primary s)) (sent-seen _ (in_role Primary s))

-- nothing is sent in a new frame
seen-cleared : (r : Role) (s : Server) → seen (cleared (seen (in_role r s))) ≡ seen (cleared (in_role r s))
unfolding seen is_beating sent_any choose
seen-cleared Down s = refl
seen-cleared Idle s = refl
seen-cleared Sync s = refl
seen-cleared Backup s = refl
seen-cleared Prospect s = refl
seen-cleared Primary s = refl

-- an event makes the same of two servers, as far as it is looked at
record Same (t : ℕ) (s s' : Server) (e : Event) : Type 0 where
  same : seen (after t s e) ≡ seen (after t s' e)

either : {t : ℕ} {s s' : Server} {a b : Event} (d : Bool) → Same t s s' a → Same t s s' b → Same t s s' (choose d a b)
either {t} {s} {s'} d x y = by_choice (Same t s s') d (λ _. x) (λ _. y)

-- nothing happens

nothing-same : (t : ℕ) (s : Server) → Same t (seen s) s Nothing
unfolding after
nothing-same t s = record { same = seen_twice s.role s }

lower-same : (t : ℕ) (s : Server) → Same t (seen s) s Lower
unfolding after
lower-same t s = record { same = seen_twice s.role s }

-- two that beat and have sent
both-sent : (x y : Server) → is_beating x.role ≡ true → is_beating y.role ≡ true → sent_any x ≡ true → sent_any y ≡ true → seen_as true x ≡ seen_as true y → seen x ≡ seen y
unfolding seen
both-sent x y b d m n e = ap (λ (k : Bool). seen_as k x) (and_true b m) ∙ e ∙ sym (ap (λ (k : Bool). seen_as k y) (and_true d n))

raised-beat : (t : ℕ) (x y : Server) → seen_as true (to_prospect t x) ≡ seen_as true (to_prospect t y) → Same t x y ToProspectBeat
unfolding after is_beating
raised-beat t x y e =
    record { same = both-sent (send_beat (to_prospect t x)) (send_beat (to_prospect t y)) refl refl (beat-any (to_prospect t x)) (beat-any (to_prospect t y)) e }

raised_reveal : (t : ℕ) (x y : Server) → seen_as true (to_prospect t x) ≡ seen_as true (to_prospect t y) → Same t x y ToProspectReveal
unfolding after is_beating
raised_reveal t x y e =
    let a = send_reveal (to_prospect t x) in
    let b = send_reveal (to_prospect t y) in
    record { same = both-sent a b refl refl (reveal_any a refl) (reveal_any b refl) e }

beats-same : (t : ℕ) (x y : Server) → is_beating x.role ≡ true → is_beating y.role ≡ true → seen_as true (set_beat t x) ≡ seen_as true (set_beat t y) →
    Same t x y Beat × Same t x y LowerBeat
unfolding after
beats-same t x y b d e =
    let q = both-sent (beat_now t x) (beat_now t y) b d (beat-any (set_beat t x)) (beat-any (set_beat t y)) e in
    (record { same = q }, record { same = q })

primary-same : (t : ℕ) (s : Server) → Same t (seen (in_role Prospect s)) (in_role Prospect s) ToPrimary
unfolding seen after is_beating sent_any
primary-same t s = record { same = ap (λ (b : Bool). seen_as b (in_role Primary s)) (sent-seen _ (in_role Prospect s)) }

-- hearing

hear_looks : (t : ℕ) (h : Heartbeat) (r : Role) (s : Server) →
    let k = in_role r s in
    (hears (seen k) h ≡ hears k h) × Same t (attending t r (seen k)) (attending t r k) (hears k h)
unfolding seen after is_beating for_this backup_hears replies prospect_hears primary_hears
hear_looks t h Down s = (refl, record { same = refl })
hear_looks t h Idle s = (refl, record { same = refl })
hear_looks t h Sync s = (refl, record { same = refl })
hear_looks t h Backup s = (refl, either _ (raised-beat t _ _ refl) (either _ (raised_reveal t _ _ refl) (record { same = refl })))
hear_looks t h Prospect s =
    let k = in_role Prospect s in (
      ap (λ (b : Bool). choose (from_higher k h) ToBackup (choose (lower_reveals k h && not b) Beat Nothing)) (sent-seen _ k),
      either _ (record { same = refl }) (either _ (beats-same t (seen k) k refl refl refl).0 (nothing-same t k)),
    )
hear_looks t h Primary s =
    let k = in_role Primary s in (
      ap (λ (b : Bool). choose (from_higher k h) ToBackup (choose (lower_reveals k h && not b) LowerBeat (choose (from_lower k h) Lower Nothing))) (sent-seen _ k),
      either _ (record { same = refl }) (either _ (beats-same t (seen k) k refl refl refl).1 (either _ (lower-same t k) (nothing-same t k))),
    )

heard_looks : (t : ℕ) (h : Heartbeat) → Looks (λ s. seen (heard t s h).server)
unfolding Looks seen
heard_looks t h s =
    let l = hear_looks t h s.role s in
    ap (λ (e : Event). seen (after t (attending t s.role (seen s)) e)) l.0 ∙ l.1.same

-- timers: E looks at nothing else, and makes the same of the server

Sees : ℕ → (Server → Event) → Server → Type 0
Sees t E s = (E (seen s) ≡ E s) × Same t (seen s) s (E s)

silent_sees : (t : ℕ) (p : Period) (r : Role) (s : Server) → Sees t (silent t p) (in_role r s)
unfolding Sees seen after is_beating
silent_sees t p Down s = (refl, record { same = refl })
silent_sees t p Idle s = (refl, record { same = refl })
silent_sees t p Sync s = (refl, record { same = refl })
silent_sees t p Backup s = (refl, either _ (raised_reveal t _ _ refl) (record { same = refl }))
silent_sees t p Prospect s = (refl, nothing-same t (in_role Prospect s))
silent_sees t p Primary s = (refl, nothing-same t (in_role Primary s))

beating_sees : (t : ℕ) (p : Period) (r : Role) (s : Server) → Sees t (beating t p) (in_role r s)
unfolding Sees seen after is_beating
beating_sees t p Down s = (refl, record { same = refl })
beating_sees t p Idle s = (refl, record { same = refl })
beating_sees t p Sync s = (refl, record { same = refl })
beating_sees t p Backup s = (refl, record { same = refl })
beating_sees t p Prospect s =
    let k = in_role Prospect s in
    (refl, either _ (beats-same t (seen k) k refl refl refl).0 (nothing-same t k))
beating_sees t p Primary s =
    let k = in_role Primary s in
    (refl, either _ (beats-same t (seen k) k refl refl refl).0 (nothing-same t k))

rising_sees : (t : ℕ) (p : Period) (r : Role) (s : Server) → Sees t (rising t p) (in_role r s)
unfolding Sees seen after is_beating
rising_sees t p Down s = (refl, record { same = refl })
rising_sees t p Idle s = (refl, record { same = refl })
rising_sees t p Sync s = (refl, record { same = refl })
rising_sees t p Backup s = (refl, record { same = refl })
rising_sees t p Prospect s = (refl, either _ (primary-same t s) (nothing-same t (in_role Prospect s)))
rising_sees t p Primary s = (refl, nothing-same t (in_role Primary s))

-- verbs

entering-same : (t : ℕ) (s : Server) (k : ℕ) → Same t (seen s) s (entering k)
unfolding seen after is_beating entering
entering-same t s k = either _ (record { same = refl }) (either _ (record { same = refl }) (either _ (record { same = refl }) (record { same = refl })))

event-same : (t : ℕ) (s : Server) (v : Verb) (b k : ℕ) → Same t (seen s) s (verb_event v b k)
unfolding seen after is_beating
event-same t s Start b k = entering-same t s k
event-same t s Ready b k = entering-same t s k
event-same t s Unready b k = entering-same t s k
event-same t s Pass b k = record { same = refl }
event-same t s Crash b k = entering-same t s k
event-same t s Restart b k = entering-same t s k
event-same t s Cut b k = nothing-same t s
event-same t s Mend b k = nothing-same t s

verb_sees : (t : ℕ) (v : Verb) (b : ℕ) (s : Server) → Sees t (λ k. verb_happens v b (verb_answer v b k)) s
unfolding Sees seen verb_happens verb_answer
verb_sees t v b s = (refl, either _ (event-same t s v b _) (nothing-same t s))

-- what is looked at of a server after an event that looks at nothing else
after_looks : (t : ℕ) (E : Server → Event) → ((s : Server) → Sees t E s) → Looks (λ s. seen (after t s (E s)))
unfolding Looks Sees
after_looks t E l s = ap (λ (e : Event). seen (after t (seen s) e)) (l s).0 ∙ (l s).1.same

module _ (t : ℕ) (p : Period) where
  abbrev second : Server → Server
  second s = after_beating t p (after_silent t p s)

  silent_looks : Looks (λ s. seen (after_silent t p s))
  unfolding after_silent
  silent_looks = after_looks t (silent t p) (λ s. silent_sees t p s.role s)

  second_looks : Looks (λ s. seen (second s))
  unfolding after_beating
  second_looks = look_on (after_silent t p) (λ s. seen (after_beating t p s)) silent_looks (after_looks t (beating t p) (λ s. beating_sees t p s.role s))

  timed_looks : Looks (λ s. seen (timed t p s).server)
  unfolding after_rising
  timed_looks = look_on second (λ s. seen (after_rising t p s)) second_looks (after_looks t (rising t p) (λ s. rising_sees t p s.role s))

-- ---- what is looked at of a front

abbrev pub seen_front : Front → Front
seen_front f = with_server (seen f.server) f

begun_looks : (d : Bool) (f : Front) → seen_front (choose d (risen (seen_front f)) (seen_front f)) ≡ seen_front (choose d (risen f) f)
unfolding choose seen
begun_looks true f = ap (λ (s : Server). with_server s (risen f)) (seen-cleared f.server.role f.server)
begun_looks false f = ap (λ (s : Server). with_server s f) (seen_twice f.server.role f.server)

stepped_looks : (f : Front) (x : Step) → seen_front (stepped (seen_front f) x) ≡ seen_front (stepped f x)
unfolding stepped seen Looks verb_answer
stepped_looks f begin = begun_looks (goes_on f) f
stepped_looks f (hear h) = ap (λ (s : Server). with_server s f) (heard_looks f.frame h f.server)
stepped_looks f tick = ap (λ (s : Server). with_server s f) (timed_looks f.frame f.period f.server)
stepped_looks f (act v b) =
    ap (λ (s : Server). with_server s f) (after_looks f.frame (λ s. verb_happens v b (verb_answer v b s)) (verb_sees f.frame v b) f.server)

answered_looks : (f : Front) (x : Step) → answered (seen_front f) x ≡ answered f x
unfolding answered stepped seen Looks Sees verb_answer
answered_looks f begin = refl
answered_looks f (hear h) =
    λ i. of_hear (record { event = (hear_looks f.frame h f.server.role f.server).0 i; role = (stepped_looks f (hear h) i).server.role })
answered_looks f tick =
    let t = f.frame in
    let p = f.period in
    λ i. of_tick (record {
      silent = (silent_sees t p f.server.role f.server).0 i;
      beating = look_on (after_silent t p) (beating t p) (silent_looks t p) (λ s. (beating_sees t p s.role s).0) f.server i;
      rising = look_on (second t p) (rising t p) (second_looks t p) (λ s. (rising_sees t p s.role s).0) f.server i;
      role = (stepped_looks f tick i).server.role;
    })
answered_looks f (act v b) = λ i. of_act (verb_answer v b f.server).number (happens v b f) (stepped_looks f (act v b) i).server.role

answers_look : (f : Front) (xs : List Step) → answers (seen_front f) xs ≡ answers f xs
unfolding answers
answers_look f [] = refl
answers_look f (x ∷ xs) =
    ap₂ ◌∷◌ (answered_looks f x)
    (sym (answers_look (stepped (seen_front f) x) xs) ∙ ap (λ (g : Front). answers g xs) (stepped_looks f x) ∙ answers_look (stepped f x) xs)

moved_looks : (f : Front) (xs : List Step) → seen_front (moved (seen_front f) xs) ≡ seen_front (moved f xs)
unfolding moved seen
moved_looks f [] = ap (λ (s : Server). with_server s f) (seen_twice f.server.role f.server)
moved_looks f (x ∷ xs) =
    sym (moved_looks (stepped (seen_front f) x) xs) ∙ ap (λ (g : Front). seen_front (moved g xs)) (stepped_looks f x) ∙ moved_looks (stepped f x) xs

-- two fronts of which the same is seen answer the same, and go on so
pub same_answer_lem : (f g : Front) (x : Step) → seen_front f ≡ seen_front g → answered f x ≡ answered g x
same_answer_lem f g x e = sym (answered_looks f x) ∙ ap (λ (k : Front). answered k x) e ∙ answered_looks g x

pub same_step : (f g : Front) (x : Step) → seen_front f ≡ seen_front g → seen_front (stepped f x) ≡ seen_front (stepped g x)
same_step f g x e = sym (stepped_looks f x) ∙ ap (λ (k : Front). seen_front (stepped k x)) e ∙ stepped_looks g x

pub same-risen : (f g : Front) → seen_front f ≡ seen_front g → seen_front (risen f) ≡ seen_front (risen g)
unfolding choose
same-risen f g e = sym (begun_looks true f) ∙ ap (λ (k : Front). seen_front (risen k)) e ∙ begun_looks true g

-- ---- a front made anew

-- a restart that is accepted
pub restarts : (b : ℕ) (s : Server) → (verb_answer Restart b s).number ≡ 0 → verb_happens Restart b (verb_answer Restart b s) ≡ ToIdle
unfolding verb_answer verb_happens enters entering choose
restarts b s = go (eqb s.identity 0 || false) (in_role_of s.role Down)
  where
    go : (x y : Bool) → let a = choose x (refused 2) (choose y (accepted (1 ∷ [])) (refused 13)) in a.number ≡ 0 → verb_happens Restart b a ≡ ToIdle
    go true y e = absurd (omega arith)
    go false true e = refl
    go false false e = absurd (omega arith)

pub renewed_goes_on : RenewedGoesOn
unfolding seen is_beating after
renewed_goes_on b f f' r xs e a =
    let g = with_server (in_role Idle f.server) f in
    let to : f' ≡ g =
    a.front ∙ ap (λ (x : Event). with_server (after f.frame f.server x) f) (restarts b f.server (sym a.number ∙ ap of_verdict e)) in
    let same = sym (moved_looks g xs) in (
      ap (λ (k : Front). answers k xs) to ∙ sym (answers_look g xs),
      rw to (record {
        frame = ap (λ (k : Front). k.frame) same;
        period = ap (λ (k : Front). k.period) same;
        identity = ap (λ (k : Front). k.server.identity) same;
        priority = ap (λ (k : Front). k.server.priority) same;
        role = ap (λ (k : Front). k.server.role) same;
      }),
    )
