-- One event appends what it sends, where nothing stands in the way. Assumes nothing.
use mathlib.Core.Bool.{false}
use mathlib.Core.Path.{◌≡◌, refl, sym, ap, ap₂, ◌∙◌}
use mathlib.Core.List.{List, [], ◌∷◌, ◌++◌, append_assoc, append-nil}
use Prim.Native.Nat.{ℕ, ◌+◌, ◌<◌}
use borrow.Author.Tests.{eq-eqb, ne_eqb, lt-ltb}
use lib.ListN.{replicate, replicate-append-replicate}
use Rattle.lists.specs.Choice.{choose}
use Rattle.lists.proofs.Cases.{chosen, other}
use Rattle.heartbeat.specs.declared.Heartbeat.{Heartbeat}
use Rattle.roles.specs.declared.Event.TheVariants.{Nothing, ToBackup, ToProspectBeat, ToProspectReveal, Lower, LowerBeat, Beat, ToPrimary, ToSync, ToIdle, ToDown, Passed}
use Rattle.server.specs.declared.Server.{Server}
use Rattle.server.specs.Server.{plain_of, reveal_of, pass_of, send_pass, most_beats, one_more, sent_by, after}
use Rattle.settling.specs.Sending.{Appends}

-- ---- one event

-- what sends nothing leaves what was sent
silently : (l : List Heartbeat) → l ≡ l ++ []
silently l = sym (append-nil l)

-- what a server without a pass sent
sent-unpassed : (s : Server) → s.pass ≡ 0 → sent_by s ≡ replicate s.beats (plain_of s) ++ choose s.reveal (reveal_of s ∷ []) []
unfolding sent_by
sent-unpassed s z =
    ap (λ (l : List Heartbeat). replicate s.beats (plain_of s) ++ (choose s.reveal (reveal_of s ∷ []) [] ++ l)) (chosen _ (eq-eqb s.pass 0 z))
    ∙ ap (λ (l : List Heartbeat). replicate s.beats (plain_of s) ++ l) (append-nil (choose s.reveal (reveal_of s ∷ []) []))

-- and without a reveal
sent-plain : (s : Server) → s.pass ≡ 0 → s.reveal ≡ false → sent_by s ≡ replicate s.beats (plain_of s)
sent-plain s z r =
    sent-unpassed s z
    ∙ ap (λ (l : List Heartbeat). replicate s.beats (plain_of s) ++ l) (other _ r)
    ∙ append-nil (replicate s.beats (plain_of s))

-- one more beat
beat-behind : (s m : Server) → s.pass ≡ 0 → s.reveal ≡ false → s.beats < 15 → m.pass ≡ s.pass → m.reveal ≡ s.reveal → m.beats ≡ one_more s.beats → plain_of m ≡ plain_of s → sent_by m ≡ sent_by s ++ (plain_of s ∷ [])
unfolding one_more
beat-behind s m z r l p q n e =
    sent-plain m (p ∙ z) (q ∙ r)
    ∙ ap₂ replicate (n ∙ chosen most_beats (lt-ltb s.beats 15 l)) e
    ∙ sym (replicate-append-replicate s.beats 1 (plain_of s))
    ∙ ap (λ (x : List Heartbeat). x ++ (plain_of s ∷ [])) (sym (sent-plain s z r))

-- a reveal
pub reveal_appends : (t : ℕ) (s : Server) → s.pass ≡ 0 → s.reveal ≡ false → Appends t s ToProspectReveal
unfolding after choose
reveal_appends t s z r =
    sent-unpassed (after t s ToProspectReveal) z ∙ ap (λ (x : List Heartbeat). x ++ (reveal_of s ∷ [])) (sym (sent-plain s z r))

-- a pass
pub pass_appends : (t : ℕ) (s : Server) (b : ℕ) → s.pass ≡ 0 → (b ≡ 0 → ⊥) → Appends t s (Passed b)
unfolding after sent_by
pass_appends t s b z h =
    ap (λ (l : List Heartbeat). replicate s.beats (plain_of s) ++ (choose s.reveal (reveal_of s ∷ []) [] ++ l)) (other _ (ne_eqb b 0 h))
    ∙ sym (append_assoc (replicate s.beats (plain_of s)) (choose s.reveal (reveal_of s ∷ []) []) (pass_of (send_pass b s) ∷ []))
    ∙ ap (λ (x : List Heartbeat). x ++ (pass_of (send_pass b s) ∷ [])) (sym (sent-unpassed s z))

pub beat_appends : (t : ℕ) (s : Server) → s.pass ≡ 0 → s.reveal ≡ false → s.beats < 15 → Appends t s ToProspectBeat
unfolding after
beat_appends t s z r l = beat-behind s (after t s ToProspectBeat) z r l refl refl refl refl

pub timer_appends : (t : ℕ) (s : Server) → s.pass ≡ 0 → s.reveal ≡ false → s.beats < 15 → Appends t s Beat
unfolding after
timer_appends t s z r l = beat-behind s (after t s Beat) z r l refl refl refl refl

pub note_appends : (t : ℕ) (s : Server) → s.pass ≡ 0 → s.reveal ≡ false → s.beats < 15 → Appends t s LowerBeat
unfolding after
note_appends t s z r l = beat-behind s (after t s LowerBeat) z r l refl refl refl refl

pub nothing_appends : (t : ℕ) (s : Server) → Appends t s Nothing
unfolding after
nothing_appends t s = silently (sent_by s)

pub backup_appends : (t : ℕ) (s : Server) → Appends t s ToBackup
unfolding after sent_by
backup_appends t s = silently (sent_by s)

pub lower_appends : (t : ℕ) (s : Server) → Appends t s Lower
unfolding after
lower_appends t s = silently (sent_by s)

pub primary_appends : (t : ℕ) (s : Server) → Appends t s ToPrimary
unfolding after sent_by
primary_appends t s = silently (sent_by s)

pub sync_appends : (t : ℕ) (s : Server) → Appends t s ToSync
unfolding after sent_by
sync_appends t s = silently (sent_by s)

pub idle_appends : (t : ℕ) (s : Server) → Appends t s ToIdle
unfolding after sent_by
idle_appends t s = silently (sent_by s)

pub down_appends : (t : ℕ) (s : Server) → Appends t s ToDown
unfolding after sent_by
down_appends t s = silently (sent_by s)
