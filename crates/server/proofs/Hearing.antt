-- Heartbeats heard one after the other, and replies. Assumes nothing.
use mathlib.Core.Bool.{true, false, not}
use mathlib.Core.Path.{◌≡◌, refl, ap, ◌∙◌}
use mathlib.Core.List.{List, [], ◌∷◌, ◌++◌}
use Prim.Native.Nat.{ℕ}
use Rattle.lists.proofs.Cases.{chosen, other, by_choice, and_right, clash}
use Rattle.heartbeat.specs.declared.Heartbeat.{Heartbeat}
use Rattle.roles.specs.declared.Role.{Role}
use Rattle.roles.specs.declared.Role.TheVariants.{Down, Idle, Sync, Backup, Prospect, Primary}
use Rattle.roles.specs.declared.Event.{Event}
use Rattle.roles.specs.Roles.{is_beating}
use Rattle.server.specs.declared.Server.{Server}
use Rattle.server.specs.Server.{set_silence, set_beat, to_prospect, beat_now, send_reveal, sent_by, sent_any, after}
use Rattle.server.specs.Hearing.{from_higher, from_lower, for_this, lower_reveals, backup_hears, replies, prospect_hears, primary_hears, hears_in, attending, heard, heard_all}
use Rattle.server.proofs.Sent.{reveal_any, beat-any}

-- of two lists, the first is heard first
pub heard-append : (t : ℕ) (s : Server) (a b : List Heartbeat) → heard_all t s (a ++ b) ≡ heard_all t (heard_all t s a) b
unfolding heard_all
heard-append t s [] b = refl
heard-append t s (h ∷ a) b = heard-append t (heard t s h).server a b

-- ---- replies

-- who has sent does not reply
pub sent_no_reply : (s : Server) (h : Heartbeat) → sent_any s ≡ true → replies s h ≡ false
unfolding replies
sent_no_reply s h e = and_right (lower_reveals s h) (ap not e)

-- a reply of a prospect or primary, in the role r
pub reply_as : (t : ℕ) (s : Server) (h : Heartbeat) (r : Role) → is_beating r ≡ true → from_higher s h ≡ false → replies s h ≡ true → after t (attending t r s) (hears_in r s h) ≡ beat_now t s
unfolding after is_beating prospect_hears primary_hears
reply_as t s h Down b u y = absurd (clash b refl)
reply_as t s h Idle b u y = absurd (clash b refl)
reply_as t s h Sync b u y = absurd (clash b refl)
reply_as t s h Backup b u y = absurd (clash b refl)
reply_as t s h Prospect b u y = ap (after t s) (other _ u ∙ chosen _ y)
reply_as t s h Primary b u y = ap (after t s) (other _ u ∙ chosen _ y)

-- without one it sends nothing
pub unasked_as : (t : ℕ) (s : Server) (h : Heartbeat) (r : Role) → is_beating r ≡ true → replies s h ≡ false → sent_by (after t (attending t r s) (hears_in r s h)) ≡ sent_by s
unfolding after sent_by is_beating prospect_hears primary_hears
unasked_as t s h Down b y = absurd (clash b refl)
unasked_as t s h Idle b y = absurd (clash b refl)
unasked_as t s h Sync b y = absurd (clash b refl)
unasked_as t s h Backup b y = absurd (clash b refl)
unasked_as t s h Prospect b y =
    by_choice (λ (e : Event). sent_by (after t s e) ≡ sent_by s) (from_higher s h) (λ _. refl) (λ _. ap (λ (e : Event). sent_by (after t s e)) (other _ y))
unasked_as t s h Primary b y =
    by_choice (λ (e : Event). sent_by (after t s e) ≡ sent_by s) (from_higher s h) (λ _. refl)
    (λ _.
    ap (λ (e : Event). sent_by (after t s e)) (other _ y)
    ∙ by_choice (λ (e : Event). sent_by (after t s e) ≡ sent_by s) (from_lower s h) (λ _. refl) (λ _. refl))

-- what was sent is not taken back by hearing
sent_as_lem : (t : ℕ) (s : Server) (h : Heartbeat) (r : Role) → sent_any s ≡ true → sent_any (after t (attending t r s) (hears_in r s h)) ≡ true
unfolding after sent_any backup_hears prospect_hears primary_hears
sent_as_lem t s h Down a = a
sent_as_lem t s h Idle a = a
sent_as_lem t s h Sync a = a
sent_as_lem t s h Backup a =
    let x = to_prospect t (set_silence t s) in
    by_choice (λ (e : Event). sent_any (after t (set_silence t s) e) ≡ true) (for_this s h) (λ _. beat-any x)
    (λ _. by_choice (λ (e : Event). sent_any (after t (set_silence t s) e) ≡ true) (lower_reveals s h) (λ _. reveal_any (send_reveal x) refl) (λ _. a))
sent_as_lem t s h Prospect a =
    by_choice (λ (e : Event). sent_any (after t s e) ≡ true) (from_higher s h) (λ _. a)
    (λ _. by_choice (λ (e : Event). sent_any (after t s e) ≡ true) (replies s h) (λ _. beat-any (set_beat t s)) (λ _. a))
sent_as_lem t s h Primary a =
    by_choice (λ (e : Event). sent_any (after t s e) ≡ true) (from_higher s h) (λ _. a)
    (λ _.
    by_choice (λ (e : Event). sent_any (after t s e) ≡ true) (replies s h) (λ _. beat-any (set_beat t s))
    (λ _. by_choice (λ (e : Event). sent_any (after t s e) ≡ true) (from_lower s h) (λ _. a) (λ _. a)))

pub sent-heard : (t : ℕ) (s : Server) (hs : List Heartbeat) → sent_any s ≡ true → sent_any (heard_all t s hs) ≡ true
unfolding heard_all
sent-heard t s [] a = a
sent-heard t s (h ∷ hs) a = sent-heard t (heard t s h).server hs (sent_as_lem t s h s.role a)
