-- After any list of calls, every event of the next frame and every verb appends what it sends.
-- Assumes nothing.
use mathlib.Core.Bool.{true, false, not, ◌&&◌, ◌||◌}
use mathlib.Core.Path.{◌≡◌, refl, sym, ap, subst, ◌∙◌}
use mathlib.Core.Logic.{◌⊎◌, inl, inr}
use mathlib.Core.List.{List, [], ◌∷◌, ◌++◌, append-nil}
use Prim.Native.Nat.{ℕ, suc, ◌+◌, ◌<◌, ◌≤◌}
use native.Mathlib.Omega.{arith}
use borrow.Author.Tests.{eq-eqb, ne_eqb, eqb-true, eqb-false, lt-ltb, le-ltb, not-true}
use lib.Dec.{eqb, ltb}
use lib.ListN.{get_or, get_or-eq_default}
use Rattle.lists.specs.Choice.{choose}
use Rattle.lists.specs.Lists.{every}
use Rattle.lists.proofs.Cases.{tested, less, equal, chosen, other, and_true, fst_true, snd_true, on, clash, by_choice, not_first, or_false}
use Rattle.lists.proofs.Clear.{every_front}
use Rattle.refusal.specs.Answer.{Answer}
use Rattle.heartbeat.specs.declared.Rank.{Rank}
use Rattle.heartbeat.specs.declared.Heartbeat.{Heartbeat}
use Rattle.heartbeat.specs.Rank.{higher}
use Rattle.heartbeat.specs.Heartbeat.{sender}
use Rattle.roles.specs.declared.Role.{Role}
use Rattle.roles.specs.declared.Role.TheVariants.{Down, Idle, Sync, Backup, Prospect, Primary}
use Rattle.roles.specs.declared.Verb.{Verb}
use Rattle.roles.specs.declared.Verb.TheVariants.{Start, Ready, Unready, Pass, Crash, Restart, Cut, Mend}
use Rattle.roles.specs.declared.Event.{Event}
use Rattle.roles.specs.declared.Event.TheVariants.{Nothing, ToBackup, ToProspectBeat, ToProspectReveal, Lower, LowerBeat, Beat}
use Rattle.periods.specs.declared.Period.{Period}
use Rattle.server.specs.declared.Server.{Server}
use Rattle.periods.specs.Period.{silence_limit, prospect_limit, beat_limit}
use Rattle.server.specs.Server.{absent, set_silence, cleared, one_more, sent_by, sent_any, after}
use Rattle.server.specs.Hearing.{from_higher, from_lower, for_this, lower_reveals, backup_hears, replies, prospect_hears, primary_hears, hears_in, hears, attending, heard, heard_all}
use Rattle.server.specs.Timers.{aged, silent_in, beating_in, rising_in, after_silent, after_beating}
use Rattle.roles.specs.Verbs.{from, enters, entering, verb_event, verb_happens}
use Rattle.server.specs.Verbs.{verb_answer}
use Rattle.group.specs.declared.State.{State}
use Rattle.group.specs.Table.{fresh}
use Rattle.group.specs.Hearing.{place, inbox}
use Rattle.group.specs.Verbs.{place_of, happens}
use Rattle.group.specs.Calls.{channel_after}
use Rattle.group.proofs.Laws.{rank-one, rank-heard}
use Rattle.roles.specs.Roles.{is_active, is_beating}
use Rattle.traces.proofs.Ways as ways
use Rattle.server.proofs.Hearing.{heard-append}
use Rattle.group.proofs.Inbox.{Falls}
use Rattle.reached.proofs.Heard.{hear_as, rest_all, lower-all, higher_no_call}
use Rattle.reached.proofs.Kept.{RevealerBeats, unrevealed, revealer-heard}
use Rattle.reached.proofs.Sound.{Sound, hears-falls, hears-apart, senders-differ}
use Rattle.reached.proofs.Made.{sound-fresh}
use Rattle.reached.proofs.Reached.{sound-after}
use Rattle.reached.proofs.Few.{marks, marked, marked_append, few-marked}
use Rattle.settling.specs.Sending.{Appends, TimersAppend, AppendsAll, SentInOrder, SendersAlwaysDiffer}
use Rattle.settling.proofs.Ordered.{beat_appends, timer_appends, note_appends, reveal_appends, pass_appends, nothing_appends, backup_appends, lower_appends, primary_appends, sync_appends, idle_appends, down_appends}

-- ---- while hearing

-- a server in the midst of hearing in frame t
pub record Midway (t : ℕ) (s : Server) : Type 0 where
  pub unpassed : s.pass ≡ 0
  -- it has sent nothing, or set its beat timer in this frame
  pub timer : ((s.beats ≡ 0) × (s.reveal ≡ false)) ⊎ (s.beat ≡ t)

more-beats : (n : ℕ) → one_more n ≤ suc n
unfolding one_more
more-beats n =
    on (less n 15)
    (λ h. let e : ◌≡◌ {A = ℕ} (choose (ltb n 15) (n + 1) 15) (n + 1) = chosen 15 (lt-ltb n 15 h) in omega (arith, e))
    (λ h. let e : ◌≡◌ {A = ℕ} (choose (ltb n 15) (n + 1) 15) 15 = other (n + 1) (le-ltb n 15 h) in omega (arith, e))

-- an event that sends nothing, and one that does
midway-nothing : (t : ℕ) (s : Server) → Midway t s → Midway t (after t s Nothing)
unfolding after
midway-nothing t s m = m

midway_backup : (t : ℕ) (s : Server) → Midway t s → Midway t (after t s ToBackup)
unfolding after
midway_backup t s m = record { unpassed = m.unpassed; timer = m.timer }

midway-lower : (t : ℕ) (s : Server) → Midway t s → Midway t (after t s Lower)
unfolding after
midway-lower t s m = m

midway_reveal : (t : ℕ) (s : Server) → Midway t s → Midway t (after t s ToProspectReveal)
unfolding after
midway_reveal t s m = record { unpassed = m.unpassed; timer = inr refl }

midway-beat : (t : ℕ) (s : Server) → Midway t s → Midway t (after t s ToProspectBeat)
unfolding after
midway-beat t s m = record { unpassed = m.unpassed; timer = inr refl }

midway_reply : (t : ℕ) (s : Server) → Midway t s → Midway t (after t s Beat)
unfolding after
midway_reply t s m = record { unpassed = m.unpassed; timer = inr refl }

midway_note : (t : ℕ) (s : Server) → Midway t s → Midway t (after t s LowerBeat)
unfolding after
midway_note t s m = record { unpassed = m.unpassed; timer = inr refl }

-- one heartbeat, in each role
midway_as : (t : ℕ) (s : Server) (h : Heartbeat) (r : Role) → Midway t s → Midway t (after t (attending t r s) (hears_in r s h))
unfolding backup_hears prospect_hears primary_hears
midway_as t s h Down m = midway-nothing t s m
midway_as t s h Idle m = midway-nothing t s m
midway_as t s h Sync m = midway-nothing t s m
midway_as t s h Backup m =
    let x = set_silence t s in
    let n : Midway t x = record { unpassed = m.unpassed; timer = m.timer } in
    by_choice (λ e. Midway t (after t x e)) (for_this s h)
    (λ e. midway-beat t x n)
    (λ e. by_choice (λ v. Midway t (after t x v)) (lower_reveals s h) (λ f. midway_reveal t x n) (λ f. midway-nothing t x n))
midway_as t s h Prospect m =
    by_choice (λ v. Midway t (after t s v)) (from_higher s h)
    (λ f. midway_backup t s m)
    (λ f. by_choice (λ v. Midway t (after t s v)) (replies s h) (λ g. midway_reply t s m) (λ g. midway-nothing t s m))
midway_as t s h Primary m =
    by_choice (λ v. Midway t (after t s v)) (from_higher s h)
    (λ f. midway_backup t s m)
    (λ f.
    by_choice (λ v. Midway t (after t s v)) (replies s h)
    (λ g. midway_note t s m)
    (λ g. by_choice (λ v. Midway t (after t s v)) (from_lower s h) (λ k. midway-lower t s m) (λ k. midway-nothing t s m)))

midway-all : (t : ℕ) (s : Server) (hs : List Heartbeat) → Midway t s → Midway t (heard_all t s hs)
unfolding heard_all
midway-all t s [] m = m
midway-all t s (h ∷ hs) m = midway-all t (heard t s h).server hs (midway_as t s h s.role m)

identity-one : (t : ℕ) (s : Server) (h : Heartbeat) → (heard t s h).server.identity ≡ s.identity
unfolding heard_all
identity-one t s h = ap (λ (r : Rank). r.identity) (rank-heard t s (h ∷ []))

-- ---- how many beats: one for each pass, and a reply only of a server that then beats on

-- so it is after the event e
abbrev FewAfter : ℕ → Server → ℕ → Event → Type 0
FewAfter t x n e = is_beating (after t x e).role ≡ false → (after t x e).beats ≤ n

few-higher : (t : ℕ) (s : Server) (h : Heartbeat) (r : Role) → s.role ≡ r → from_higher s h ≡ true → (heard t s h).server.beats ≤ s.beats + choose (marks s.identity h) 1 0
unfolding after backup_hears prospect_hears primary_hears for_this
few-higher t s h Down e u = let q = ap (λ (x : Server). x.beats) (hear_as t s h e) in omega (arith, q)
few-higher t s h Idle e u = let q = ap (λ (x : Server). x.beats) (hear_as t s h e) in omega (arith, q)
few-higher t s h Sync e u = let q = ap (λ (x : Server). x.beats) (hear_as t s h e) in omega (arith, q)
few-higher t s h Backup e u =
    let q = ap (λ (x : Server). x.beats) (hear_as t s h e) in
    on (tested (marks s.identity h))
    (λ m.
    let one : ◌≡◌ {A = ℕ} (choose (marks s.identity h) 1 0) 1 = chosen 0 m in
    let z : (after t (set_silence t s) (backup_hears s h)).beats ≡ one_more s.beats = ap (λ (v : Event). (after t (set_silence t s) v).beats) (chosen _ m) in
    let b = more-beats s.beats in
    omega (arith, q, one, z, b))
    (λ m.
    let z : (after t (set_silence t s) (backup_hears s h)).beats ≡ s.beats = ap (λ (v : Event). (after t (set_silence t s) v).beats) (other _ m ∙ other _ (higher_no_call s h u)) in
    omega (arith, q, z))
few-higher t s h Prospect e u =
    let q = ap (λ (x : Server). x.beats) (hear_as t s h e) in
    let z : (after t s (prospect_hears s h)).beats ≡ s.beats = ap (λ (v : Event). (after t s v).beats) (chosen _ u) in
    omega (arith, q, z)
few-higher t s h Primary e u =
    let q = ap (λ (x : Server). x.beats) (hear_as t s h e) in
    let z : (after t s (primary_hears s h)).beats ≡ s.beats = ap (λ (v : Event). (after t s v).beats) (chosen _ u) in
    omega (arith, q, z)

few-upper : (t : ℕ) (s : Server) (hs : List Heartbeat) → every (from_higher s) hs ≡ true → (heard_all t s hs).beats ≤ s.beats + marked s.identity hs
unfolding heard_all
few-upper t s [] u = omega arith
few-upper t s (h ∷ hs) u =
    let x = (heard t s h).server in
    let a = few-upper t x hs (subst (λ (r : Rank). every (λ y. higher (sender y) r) hs ≡ true) (sym (rank-one t s h)) (snd_true (from_higher s h) (every (from_higher s) hs) u)) in
    let b = few-higher t s h s.role refl (fst_true (from_higher s h) (every (from_higher s) hs) u) in
    let i = ap (λ (n : ℕ). marked n hs) (identity-one t s h) in
    omega (arith, a, b, i)

few-lower : (t : ℕ) (s : Server) (h : Heartbeat) (n : ℕ) (r : Role) → s.role ≡ r → is_beating r ≡ false → s.beats ≤ n → is_beating (heard t s h).server.role ≡ false → (heard t s h).server.beats ≤ n
unfolding after backup_hears is_beating
few-lower t s h n Down e f l b = let q = ap (λ (x : Server). x.beats) (hear_as t s h e) in omega (arith, q)
few-lower t s h n Idle e f l b = let q = ap (λ (x : Server). x.beats) (hear_as t s h e) in omega (arith, q)
few-lower t s h n Sync e f l b = let q = ap (λ (x : Server). x.beats) (hear_as t s h e) in omega (arith, q)
few-lower t s h n Backup e f l b =
    let x = set_silence t s in
    let q = hear_as t s h e in
    let d : FewAfter t x n (backup_hears s h) =
    by_choice (FewAfter t x n) (for_this s h) (λ _ z. absurd (clash refl z))
    (λ _. by_choice (FewAfter t x n) (lower_reveals s h) (λ _ z. absurd (clash refl z)) (λ _ z. l)) in
    subst (λ (y : Server). is_beating y.role ≡ false → y.beats ≤ n) (sym q) d b
few-lower t s h n Prospect e f l b = absurd (clash refl f)
few-lower t s h n Primary e f l b = absurd (clash refl f)

few-under :
    (t : ℕ) (s : Server) (hs : List Heartbeat) (n : ℕ) → every (from_lower s) hs ≡ true → (is_beating s.role ≡ false → s.beats ≤ n) → is_beating (heard_all t s hs).role ≡ false →
    (heard_all t s hs).beats ≤ n
unfolding heard_all
few-under t s [] n l f b = f b
few-under t s (h ∷ hs) n l f b =
    on (tested (is_beating s.role))
    (λ z. absurd (on (lower-all t s (h ∷ hs) z l) (λ e. clash (ap (λ (x : Server). is_beating x.role) e ∙ z) b) (λ e. clash (ap (λ (x : Server). is_beating x.role) e ∙ z) b)))
    (λ z.
    few-under t (heard t s h).server hs n
    (subst (λ (r : Rank). every (λ y. higher r (sender y)) hs ≡ true) (sym (rank-one t s h)) (snd_true (from_lower s h) (every (from_lower s) hs) l))
    (few-lower t s h n s.role refl z (f z)) b)

-- a server that does not beat has sent a plain beat for each pass at the most
few-heard : (t : ℕ) (s : Server) (hs : List Heartbeat) → Falls s hs → s.beats ≡ 0 → is_beating (heard_all t s hs).role ≡ false → (heard_all t s hs).beats ≤ marked s.identity hs
few-heard t s hs f z =
    let e = ap (heard_all t s) f.parts ∙ heard-append t s f.upper f.under in
    let m = ap (marked s.identity) f.parts ∙ marked_append s.identity f.upper f.under in
    let x = heard_all t s f.upper in
    let u = few-upper t s f.upper f.highers in
    rw e (few-under t x f.under (marked s.identity hs)
    (subst (λ (r : Rank). every (λ y. higher r (sender y)) f.under ≡ true) (sym (rank-heard t s f.upper)) f.lowers)
    (λ _. omega (arith, u, z, m)))

-- ---- the events of hearing

-- who has sent nothing has sent no beat and no reveal
unsent : (s : Server) → not (sent_any s) ≡ true → (s.beats ≡ 0) × (s.reveal ≡ false)
unfolding sent_any
unsent s e =
    let no = not-true (sent_any s) e in
    on (equal s.beats 0)
    (λ z. (z, on (tested s.reveal) (λ r. absurd (clash (chosen _ (eq-eqb s.beats 0 z) ∙ chosen _ r) no)) (λ r. r)))
    (λ z. absurd (clash (other _ (ne_eqb s.beats 0 z)) no))

hear_appends :
    (t : ℕ) (s : Server) (h : Heartbeat) (k : ℕ) (r : Role) → s.role ≡ r → Midway t s → RevealerBeats s → (is_beating s.role ≡ false → s.beats ≤ k) → k + choose (marks s.identity h) 1 0 ≤ 15 →
    Appends t (attending t r s) (hears_in r s h)
unfolding backup_hears prospect_hears primary_hears replies for_this is_beating
hear_appends t s h k Down e m v w l = nothing_appends t s
hear_appends t s h k Idle e m v w l = nothing_appends t s
hear_appends t s h k Sync e m v w l = nothing_appends t s
hear_appends t s h k Backup e m v w l =
    let x = set_silence t s in
    let un = unrevealed s v (ap is_beating e) in
    by_choice (Appends t x) (marks s.identity h)
    (λ f.
    let few = w (ap is_beating e) in
    let one : ◌≡◌ {A = ℕ} (choose (marks s.identity h) 1 0) 1 = chosen 0 f in
    beat_appends t x m.unpassed un (omega (arith, few, one, l)))
    (λ f.
    by_choice (Appends t x) (lower_reveals s h)
    (λ g. reveal_appends t x m.unpassed un)
    (λ g. nothing_appends t x))
hear_appends t s h k Prospect e m v w l =
    by_choice (Appends t s) (from_higher s h)
    (λ f. backup_appends t s)
    (λ f. by_choice (Appends t s) (replies s h) (λ g. let n = unsent s (snd_true (lower_reveals s h) _ g) in timer_appends t s m.unpassed n.1 (omega (arith, n.0))) (λ g. nothing_appends t s))
hear_appends t s h k Primary e m v w l =
    by_choice (Appends t s) (from_higher s h)
    (λ f. backup_appends t s)
    (λ f.
    by_choice (Appends t s) (replies s h)
    (λ g. let n = unsent s (snd_true (lower_reveals s h) _ g) in note_appends t s m.unpassed n.1 (omega (arith, n.0)))
    (λ g. by_choice (Appends t s) (from_lower s h) (λ j. lower_appends t s) (λ j. nothing_appends t s)))

-- ---- the timers

module _ (t : ℕ) (p : Period) (some : 1 ≤ p.frames) where
  silent_appends : (m : Server) (r : Role) → m.role ≡ r → m.pass ≡ 0 → RevealerBeats m → Appends t m (silent_in r (aged m.silence (silence_limit p) t))
  unfolding is_beating
  silent_appends m Down e z v = nothing_appends t m
  silent_appends m Idle e z v = nothing_appends t m
  silent_appends m Sync e z v = nothing_appends t m
  silent_appends m Backup e z v =
      by_choice (Appends t m) (aged m.silence (silence_limit p) t)
      (λ f. reveal_appends t m z (unrevealed m v (ap is_beating e)))
      (λ f. nothing_appends t m)
  silent_appends m Prospect e z v = nothing_appends t m
  silent_appends m Primary e z v = nothing_appends t m

  -- a due beat is that of a server that has sent nothing
  due_appends : (m : Server) → Midway t m → aged m.beat (beat_limit p) t ≡ true → Appends t m Beat
  due_appends m w due =
      let e = eqb-true (m.beat + beat_limit p) t due in
      on w.timer
      (λ r. let z = r.0 in timer_appends t m w.unpassed r.1 (omega (arith, z)))
      (λ q. absurd (omega (arith, q, e, some)))

  beating_appends : (m : Server) (r : Role) → Midway t m → Appends t m (beating_in r (aged m.beat (beat_limit p) t))
  beating_appends m Down w = nothing_appends t m
  beating_appends m Idle w = nothing_appends t m
  beating_appends m Sync w = nothing_appends t m
  beating_appends m Backup w = nothing_appends t m
  beating_appends m Prospect w = by_choice (Appends t m) (aged m.beat (beat_limit p) t) (due_appends m w) (λ f. nothing_appends t m)
  beating_appends m Primary w = by_choice (Appends t m) (aged m.beat (beat_limit p) t) (due_appends m w) (λ f. nothing_appends t m)

  rising_appends : (m : Server) (r : Role) → Appends t m (rising_in r (aged m.prospect (prospect_limit p) t))
  rising_appends m Down = nothing_appends t m
  rising_appends m Idle = nothing_appends t m
  rising_appends m Sync = nothing_appends t m
  rising_appends m Backup = nothing_appends t m
  rising_appends m Prospect = by_choice (Appends t m) (aged m.prospect (prospect_limit p) t) (λ f. primary_appends t m) (λ f. nothing_appends t m)
  rising_appends m Primary = nothing_appends t m

  midway-silent : (m : Server) (r : Role) → Midway t m → Midway t (after t m (silent_in r (aged m.silence (silence_limit p) t)))
  midway-silent m Down w = midway-nothing t m w
  midway-silent m Idle w = midway-nothing t m w
  midway-silent m Sync w = midway-nothing t m w
  midway-silent m Backup w =
      by_choice (λ e. Midway t (after t m e)) (aged m.silence (silence_limit p) t)
      (λ f. midway_reveal t m w)
      (λ f. midway-nothing t m w)
  midway-silent m Prospect w = midway-nothing t m w
  midway-silent m Primary w = midway-nothing t m w

-- ---- prefixes of what is heard

rest_of : List Heartbeat → List Heartbeat
rest_of [] = []
rest_of (h ∷ l) = l

prefix_parts :
    (s : Server) (a b u w : List Heartbeat) → a ++ b ≡ u ++ w → every (from_higher s) u ≡ true → every (from_lower s) w ≡ true → Falls s a
unfolding rest_of
prefix_parts s [] b u w e f g = record { upper = []; under = []; parts = refl; highers = refl; lowers = refl }
prefix_parts s (x ∷ a) b [] w e f g =
    record {
      upper = [];
      under = x ∷ a;
      parts = refl;
      highers = refl;
      lowers = every_front (from_lower s) (x ∷ a) b (ap (every (from_lower s)) e ∙ g);
    }
prefix_parts s (x ∷ a) b (y ∷ u) w e f g =
    let r = prefix_parts s a b u w (ap rest_of e) (snd_true (from_higher s y) (every (from_higher s) u) f) g in
    record {
      upper = x ∷ r.upper;
      under = r.under;
      parts = ap (λ (l : List Heartbeat). x ∷ l) r.parts;
      highers = and_true
          (ap (λ (l : List Heartbeat). from_higher s (get_or l 0 x)) e ∙ fst_true (from_higher s y) (every (from_higher s) u) f)
          r.highers;
      lowers = r.lowers;
    }

-- ---- verbs

-- whoever may pass is primary
passer : (r : Role) → (enters Pass r).number ≡ 0 → r ≡ Primary
unfolding enters from choose
passer Down e = absurd (omega (arith, e))
passer Idle e = absurd (omega (arith, e))
passer Sync e = absurd (omega (arith, e))
passer Backup e = absurd (omega (arith, e))
passer Prospect e = absurd (omega (arith, e))
passer Primary e = refl

entering_appends : (t : ℕ) (s : Server) (k : ℕ) → Appends t s (entering k)
unfolding entering
entering_appends t s k =
    by_choice (Appends t s) (eqb k 0)
    (λ e. down_appends t s)
    (λ e.
    by_choice (Appends t s) (eqb k 1)
    (λ f. idle_appends t s)
    (λ f. by_choice (Appends t s) (eqb k 2) (λ g. sync_appends t s) (λ g. backup_appends t s)))

-- a pass that is answered is that of a primary, to somebody
pass-taken : (b : ℕ) (s : Server) → (verb_answer Pass b s).number ≡ 0 → (b ≡ 0 → ⊥) × (s.role ≡ Primary)
unfolding verb_answer
pass-taken b s e =
    let a = not_first (λ (x : Answer). x.number ≡ 0) (eqb s.identity 0 || eqb b 0) e (λ z. omega (arith, z)) in
    let d = not_first (λ (x : Answer). x.number ≡ 0) (eqb b s.identity) a.1 (λ z. omega (arith, z)) in
    (eqb-false b 0 (or_false (eqb s.identity 0) (eqb b 0) a.0).1, passer s.role d.1)

event_appends :
    (t : ℕ) (s : Server) (v : Verb) (b k : ℕ) → (is_beating s.role ≡ true → s.pass ≡ 0) → (verb_answer v b s).number ≡ 0 → Appends t s (verb_event v b k)
event_appends t s Start b k u e = entering_appends t s k
event_appends t s Ready b k u e = entering_appends t s k
event_appends t s Unready b k u e = entering_appends t s k
event_appends t s Pass b k u e = let r = pass-taken b s e in pass_appends t s b (u (ways.primary-beats r.1)) r.0
event_appends t s Crash b k u e = entering_appends t s k
event_appends t s Restart b k u e = entering_appends t s k
event_appends t s Cut b k u e = nothing_appends t s
event_appends t s Mend b k u e = nothing_appends t s

verb_appends : (t : ℕ) (s : Server) (v : Verb) (b : ℕ) → (is_beating s.role ≡ true → s.pass ≡ 0) → Appends t s (verb_happens v b (verb_answer v b s))
unfolding verb_happens
verb_appends t s v b u =
    let a = verb_answer v b s in
    by_choice (Appends t s) (eqb a.number 0)
    (λ e. event_appends t s v b (get_or a.values 0 0) u (eqb-true a.number 0 e))
    (λ e. nothing_appends t s)

-- ---- the channel

module _ (c : State) (sound : Sound c) where
  abbrev now : ℕ
  now = c.frame + 1

  -- whatever a place has heard so far, if it has revealed, it beats
  revealer-past : (i : ℕ) → i < 16 → (past rest : List Heartbeat) → inbox c i ≡ past ++ rest → RevealerBeats (heard_all now (cleared (place c i)) past)
  revealer-past i l past rest e =
      let s = cleared (place c i) in
      on (tested (is_active (place c i).role))
      (λ a.
      let f = hears-falls c sound i l a in
      revealer-heard now s past (prefix_parts s past rest f.upper f.under (sym e ∙ f.parts) f.highers f.lowers) refl)
      (λ a. subst RevealerBeats (sym (rest_all now s past a)) (λ q. absurd (clash q refl)))

  midway : (i : ℕ) (past : List Heartbeat) → Midway now (heard_all now (cleared (place c i)) past)
  midway i past = midway-all now (cleared (place c i)) past (record { unpassed = refl; timer = inl (refl, refl) })

  -- and if it does not beat, it has sent a plain beat for each pass at the most
  few_past :
      (i : ℕ) → i < 16 → (past rest : List Heartbeat) → inbox c i ≡ past ++ rest → is_beating (heard_all now (cleared (place c i)) past).role ≡ false →
      (heard_all now (cleared (place c i)) past).beats ≤ marked (place c i).identity past
  few_past i l past rest e =
      let s = cleared (place c i) in
      on (tested (is_active (place c i).role))
      (λ a.
      let f = hears-falls c sound i l a in
      few-heard now s past (prefix_parts s past rest f.upper f.under (sym e ∙ f.parts) f.highers f.lowers) refl)
      (λ a b. let q = ap (λ (x : Server). x.beats) (rest_all now s past a) in omega (arith, q))

  begun : (s : Server) → sent_by (cleared s) ≡ []
  unfolding sent_by choose
  begun s = refl

  hearing_appends :
      (i : ℕ) → i < 16 → (past : List Heartbeat) (h : Heartbeat) (rest : List Heartbeat) → inbox c i ≡ past ++ (h ∷ rest) →
      let s = heard_all now (cleared (place c i)) past in Appends now (attending now s.role s) (hears s h)
  hearing_appends i l past h rest e =
      let x = (place c i).identity in
      let s = heard_all now (cleared (place c i)) past in
      let id : s.identity ≡ x = ap (λ (r : Rank). r.identity) (rank-heard now (cleared (place c i)) past) in
      let same = ap {B = ℕ} (λ (n : ℕ). choose (marks n h) 1 0) id in
      let all15 = few-marked x c i (hears-apart c sound i) l in
      let split = ap (marked x) e ∙ marked_append x past (h ∷ rest) in
      hear_appends now s h (marked x past) s.role refl (midway i past) (revealer-past i l past (h ∷ rest) e) (few_past i l past (h ∷ rest) e) (omega (arith, same, all15, split))

  timers-append : (i : ℕ) → i < 16 → TimersAppend now c (heard_all now (cleared (place c i)) (inbox c i))
  unfolding after_silent after_beating
  timers-append i l =
      let m = heard_all now (cleared (place c i)) (inbox c i) in
      let w = midway i (inbox c i) in
      let v = revealer-past i l (inbox c i) [] (sym (append-nil (inbox c i))) in
      let s = after_silent now c.period m in
      let y = midway-silent now c.period sound.period m m.role w in
      record {
        silence = silent_appends now c.period sound.period m m.role refl w.unpassed v;
        beat = beating_appends now c.period sound.period s s.role y;
        rise = rising_appends now c.period sound.period (after_beating now c.period s) (after_beating now c.period s).role;
      }

  verbs-append : (v : Verb) (a b : ℕ) → Appends c.frame (place c (place_of c a)) (happens c v a b)
  verbs-append v a b = verb_appends c.frame (place c (place_of c a)) v b (unpassed (place_of c a))
    where
      -- beyond the places nobody beats
      unpassed : (i : ℕ) → is_beating (place c i).role ≡ true → (place c i).pass ≡ 0
      unpassed i e =
          on (less i 16)
          (sound.unpassed i)
          (λ g h.
          let z = sound.long in
          ap (λ (x : Server). x.pass) (get_or-eq_default c.servers absent {n = i} (omega (arith, z, g))))
          e

  pub in_order : AppendsAll c
  in_order = record { begins = λ i l. begun (place c i); hearing = hearing_appends; timers = timers-append; verbs = verbs-append }

pub sent_in_order : SentInOrder
sent_in_order t n ks ok = let c = fresh t n in in_order (channel_after c ks) (sound-after c ks (sound-fresh t n ok))

pub senders_always_differ : SendersAlwaysDiffer
senders_always_differ t n ks ok = let c = fresh t n in senders-differ (channel_after c ks) (sound-after c ks (sound-fresh t n ok))
