-- Laws of every call. Assumes nothing.
use mathlib.Core.Bool.{Bool, true, false, not}
use mathlib.Core.Path.{◌≡◌, refl, sym, ap, ap₂, subst, ◌∙◌}
use mathlib.Core.Logic.{⊎_elim, ◌≢◌, inl, inr}
use mathlib.Core.List.{List, [], ◌∷◌, ◌++◌}
use Prim.Native.Nat.{ℕ, zero, suc, ◌+◌, ◌-◌, ◌≤◌, ◌<◌}
use native.Mathlib.Nat.{zero-add}
use native.Mathlib.Omega.{arith}
use borrow.Author.Tests.{eq-eqb, ne_eqb, eqb-true, lt-ltb, ltb-true, lt-leb, le-leb}
use lib.Dec.{ltb, eqb, leb}
use lib.ListN.{length, drop, get_or, set, replicate, length-append, length-set, length-replicate}
use lib.Seq.{get_or-set_same, get_or-set_other}
use Rattle.lists.specs.Choice.{choose}
use Rattle.lists.specs.Lists.{map_from}
use Rattle.lists.proofs.Cases.{clash, tested, less, equal, on, chosen, other, by_choice, and_true, and_left, and_right, snd_true}
use Rattle.heartbeat.specs.declared.Heartbeat.{Heartbeat}
use Rattle.heartbeat.specs.Heartbeat.{sender, is_set}
use Rattle.heartbeat.proofs.Order.{asymmetric}
use Rattle.timecode.specs.Label.{day_length}
use Rattle.timecode.specs.Read.{in_day}
use Rattle.roles.specs.declared.Role.{Role}
use Rattle.roles.specs.declared.Role.TheVariants.{Down, Idle, Sync, Backup, Prospect, Primary}
use Rattle.roles.specs.declared.Event.{Event}
use Rattle.roles.specs.declared.Event.TheVariants.{Nothing, ToBackup, ToProspectBeat, ToProspectReveal, Lower, LowerBeat, Beat, ToPrimary, ToSync, ToIdle, ToDown, Passed}
use Rattle.roles.specs.declared.Verb.{Verb}
use Rattle.roles.specs.declared.Verb.TheVariants.{Start, Ready, Unready, Pass, Crash, Restart, Cut, Mend}
use Rattle.periods.specs.declared.Period.{Period}
use Rattle.server.specs.declared.Server.{Server}
use Rattle.server.specs.Server.{absent, rank_of, set_beat, cleared, sent_any, after}
use Rattle.server.specs.Hearing.{from_higher, from_lower, replies, prospect_hears, primary_hears, hears_in, attending, heard, heard_all}
use Rattle.roles.specs.Words.{said}
use Rattle.roles.specs.Roles.{is_beating}
use Rattle.group.specs.Laws.{reply_said, note_said}
use Rattle.server.specs.Timers.{silent, beating, rising, after_silent, after_beating, after_rising, timed}
use Rattle.server.proofs.Sent.{beat-any}
use Rattle.server.proofs.Hearing.{sent_no_reply, reply_as, unasked_as, sent-heard}
use Rattle.group.specs.declared.State.{State}
use Rattle.group.specs.Outcome.{Outcome, number_in, channel_in, written_in, slice_in}
use Rattle.group.specs.Table.{most}
use Rattle.group.specs.Hearing.{place, link_of, whole, no_place, hears_from, comes, next_among, next_sender, senders_after, sent_by_all, inbox}
use Rattle.group.specs.Frame.{hearing, turned, advanced, frame_lines}
use Rattle.group.specs.Verbs.{place_of, happens, links_after, did}
use Rattle.group.specs.Advance.{step_outcome, advanced_by, lines_by, time_refusal, fitting, frames_within, within_outcome}
use Rattle.group.specs.Links.{cut_by_verb}
use Rattle.group.specs.Calls.{Call, verb, advance, advance_to, outcome_of, slice_of, call_number, call_channel, call_slice, channel_after, numbers_of}
use Rattle.group.specs.Laws.{call_lines, RefusedChangesNothing, AcceptedWritesItsLines, KeepsItsTable, EveryCallKeepsTheTable, frame_then, FramesCounted, OthersStay, OtherLinksStay, ItsLinkIsAsCut, NothingSentNothingHeard, RevealsGetReplies, NothingElseGetsOne, NotReplied, OnlyANoteIsMade, ListsJoin, lines_after, AsManyAdvances, AreAdvances, WithinIsAdvances, OneMoreDoesNotFit, Laws}
use Rattle.group.proofs.Answering.{is-long}
use Rattle.group.proofs.Places.{frame-after}
use Rattle.group.proofs.Made.{tables_in_order, fresh_has_its_table}
use Rattle.group.proofs.Remade.{adding-makes}
use Rattle.group.proofs.Heard.{all_hear_in_order}

-- ---- what a call gets

-- an outcome that gets 0 gets it by itself, and its lines fit
got-0 : (o : Outcome) (n : ℕ) → number_in o n ≡ 0 → (o.number ≡ 0) × (length o.lines ≤ n)
unfolding number_in
got-0 o n e =
    ⊎_elim
    (λ z.
    let q = sym (chosen {a = choose (leb (length o.lines) n) 0 9} o.number (eq-eqb o.number 0 z)) ∙ e in
    (z, ⊎_elim (λ h. absurd (let r = sym (other {b = 9} 0 (lt-leb (length o.lines) n h)) ∙ q in omega (arith, r))) (λ h. h) (less n (length o.lines))))
    (λ z. absurd (z (sym (other {b = o.number} _ (ne_eqb o.number 0 z)) ∙ e)))
    (equal o.number 0)

module _ (c : State) (k : Call) where
  pub taken : call_number c k ≡ 0 → ((outcome_of c k).number ≡ 0) × (length (call_lines c k) ≤ length (slice_of k))
  unfolding call_number
  taken e = got-0 (outcome_of c k) (length (slice_of k)) e

  accepted : call_number c k ≡ 0 → call_channel c k ≡ (outcome_of c k).channel
  unfolding call_number call_channel channel_in
  accepted e = chosen _ (eq-eqb (number_in (outcome_of c k) (length (slice_of k))) 0 e)

  refused : call_number c k ≢ 0 → call_channel c k ≡ c
  unfolding call_number call_channel channel_in
  refused e = other _ (ne_eqb (number_in (outcome_of c k) (length (slice_of k))) 0 e)

  -- what holds of the same channel and of the outcome's holds of the channel that is handed back
  handed : (P : State → Type 0) → P c → (call_number c k ≡ 0 → P (outcome_of c k).channel) → P (call_channel c k)
  handed P same new = ⊎_elim (λ e. subst P (sym (accepted e)) (new e)) (λ e. subst P (sym (refused e)) same) (equal (call_number c k) 0)

pub refused_changes_nothing : RefusedChangesNothing
unfolding call_number call_slice slice_in written_in
refused_changes_nothing c k e =
    let o = outcome_of c k in
    let no : eqb (number_in o (length (slice_of k))) 0 ≡ false = ne_eqb (number_in o (length (slice_of k))) 0 e in
    record { channel = refused c k e; slice = other _ no; written = other _ no }

pub accepted_writes_its_lines : AcceptedWritesItsLines
unfolding call_number call_slice slice_in written_in
accepted_writes_its_lines c k e =
    let o = outcome_of c k in
    let yes : eqb (number_in o (length (slice_of k))) 0 ≡ true = eq-eqb _ 0 e in
    record {
      room = (taken c k e).1;
      slice = chosen _ yes ∙ ap (λ (n : ℕ). o.lines ++ drop n (slice_of k)) (zero-add (length o.lines));
      written = chosen _ yes;
    }

pub others_stay : OthersStay
unfolding did
others_stay c v a b d i h =
    handed c (verb v a b d) (λ x. place x i ≡ place c i) refl (λ _. get_or-set_other c.servers (place_of c a) i _ absent h)

-- ---- links

links_stay : (v : Verb) (k m : ℕ) (l : List Bool) → m ≢ k → get_or (links_after v k l) m false ≡ get_or l m false
links_stay Start k m l h = refl
links_stay Ready k m l h = refl
links_stay Unready k m l h = refl
links_stay Pass k m l h = refl
links_stay Crash k m l h = refl
links_stay Restart k m l h = refl
links_stay Cut k m l h = get_or-set_other l k m false false h
links_stay Mend k m l h = get_or-set_other l k m true false h

pub other_links_stay : OtherLinksStay
unfolding did
other_links_stay c v a b d i j h =
    handed c (verb v a b d) (λ x. whole x i j ≡ whole c i j) refl (λ _. links_stay v (link_of (place_of c a) (place_of c b)) (link_of i j) c.whole h)

twice : (b : Bool) → b ≡ not (not b)
twice true = refl
twice false = refl

link_as_cut : (v : Verb) (k : ℕ) (l : List Bool) → k < length l → get_or (links_after v k l) k false ≡ not (cut_by_verb v (not (get_or l k false)))
link_as_cut Start k l h = twice _
link_as_cut Ready k l h = twice _
link_as_cut Unready k l h = twice _
link_as_cut Pass k l h = twice _
link_as_cut Crash k l h = twice _
link_as_cut Restart k l h = twice _
link_as_cut Cut k l h = get_or-set_same l k false false h
link_as_cut Mend k l h = get_or-set_same l k true false h

pub its_link_is_as_cut : ItsLinkIsAsCut
unfolding did
its_link_is_as_cut c v a b d e h =
    ap (λ (x : State). whole x (place_of c a) (place_of c b)) (accepted c (verb v a b d) e)
    ∙ link_as_cut v (link_of (place_of c a) (place_of c b)) c.whole h

-- ---- identity and priority

pub rank-after : (t : ℕ) (s : Server) (e : Event) → rank_of (after t s e) ≡ rank_of s
unfolding after
rank-after t s Nothing = refl
rank-after t s ToBackup = refl
rank-after t s ToProspectBeat = refl
rank-after t s ToProspectReveal = refl
rank-after t s Lower = refl
rank-after t s LowerBeat = refl
rank-after t s Beat = refl
rank-after t s ToPrimary = refl
rank-after t s ToSync = refl
rank-after t s ToIdle = refl
rank-after t s ToDown = refl
rank-after t s (Passed b) = refl

rank-attending : (t : ℕ) (r : Role) (s : Server) → rank_of (attending t r s) ≡ rank_of s
rank-attending t Down s = refl
rank-attending t Idle s = refl
rank-attending t Sync s = refl
rank-attending t Backup s = refl
rank-attending t Prospect s = refl
rank-attending t Primary s = refl

pub rank-one : (t : ℕ) (s : Server) (h : Heartbeat) → rank_of (heard t s h).server ≡ rank_of s
rank-one t s h = rank-after t (attending t s.role s) (hears_in s.role s h) ∙ rank-attending t s.role s

pub rank-heard : (t : ℕ) (s : Server) (hs : List Heartbeat) → rank_of (heard_all t s hs) ≡ rank_of s
unfolding heard_all
rank-heard t s [] = refl
rank-heard t s (h ∷ hs) = rank-heard t (heard t s h).server hs ∙ rank-one t s h

pub rank-ticked : (p : Period) (t : ℕ) (m : Server) → rank_of (timed t p m).server ≡ rank_of m
unfolding after_silent after_beating after_rising
rank-ticked p t m =
    rank-after t (after_beating t p (after_silent t p m)) (rising t p (after_beating t p (after_silent t p m)))
    ∙ rank-after t (after_silent t p m) (beating t p (after_silent t p m))
    ∙ rank-after t m (silent t p m)

rank_turned : (c : State) (t j : ℕ) (s : Server) → rank_of (turned c t j s) ≡ rank_of s
unfolding turned hearing
rank_turned c t j s = rank-ticked c.period t (hearing c t j s) ∙ rank-heard t (cleared s) _

-- in lists
long_mapped : {A : Type 0} (f : ℕ → A → A) (k : ℕ) (l : List A) → length (map_from k f l) ≡ length l
long_mapped f k [] = refl
long_mapped f k (x ∷ l) = ap suc (long_mapped f (suc k) l)

rank_mapped :
    (f : ℕ → Server → Server) → ((j : ℕ) (s : Server) → rank_of (f j s) ≡ rank_of s) →
    (k : ℕ) (l : List Server) (i : ℕ) → rank_of (get_or (map_from k f l) i absent) ≡ rank_of (get_or l i absent)
rank_mapped f h k [] i = refl
rank_mapped f h k (s ∷ l) zero = h k s
rank_mapped f h k (s ∷ l) (suc i) = rank_mapped f h (suc k) l i

rank-set :
    (l : List Server) (i : ℕ) (s : Server) → rank_of s ≡ rank_of (get_or l i absent) →
    (j : ℕ) → rank_of (get_or (set l i s) j absent) ≡ rank_of (get_or l j absent)
rank-set [] i s e j = refl
rank-set (x ∷ l) zero s e zero = e
rank-set (x ∷ l) zero s e (suc j) = refl
rank-set (x ∷ l) (suc i) s e zero = refl
rank-set (x ∷ l) (suc i) s e (suc j) = rank-set l i s e j

-- ---- the table

keeps-did : (c : State) (v : Verb) (a b : ℕ) → KeepsItsTable c (did c v a b)
unfolding did
keeps-did c v a b =
    record {
      period = refl;
      places = length-set c.servers (place_of c a) _;
      ranks = rank-set c.servers (place_of c a) _ (rank-after c.frame (place c (place_of c a)) (happens c v a b));
    }

keeps-advanced : (c : State) → KeepsItsTable c (advanced c)
unfolding advanced
keeps-advanced c =
    record {
      period = refl;
      places = long_mapped (turned c (c.frame + 1)) 0 c.servers;
      ranks = rank_mapped (turned c (c.frame + 1)) (rank_turned c (c.frame + 1)) 0 c.servers;
    }

pub keeps-by : (n : ℕ) (c : State) → KeepsItsTable c (advanced_by n c)
unfolding advanced_by
keeps-by zero c = record { period = refl; places = refl; ranks = λ i. refl }
keeps-by (suc n) c =
    let a = keeps-by n (advanced c) in
    let b = keeps-advanced c in
    record { period = a.period ∙ b.period; places = a.places ∙ b.places; ranks = λ i. a.ranks i ∙ b.ranks i }

keeps_outcome : (c : State) (k : Call) → KeepsItsTable c (outcome_of c k).channel
keeps_outcome c (verb v a b d) = keeps-did c v _ _
keeps_outcome c (advance d) = keeps-advanced c
keeps_outcome c (advance_to t d) = keeps-by (t - c.frame) c

pub every_call_keeps_the_table : EveryCallKeepsTheTable
every_call_keeps_the_table c k = handed c k (KeepsItsTable c) (record { period = refl; places = refl; ranks = λ i. refl }) (λ _. keeps_outcome c k)

-- ---- the frame

-- a time that is not refused is of the day, and not before the present frame
time_taken : (c : State) (t : ℕ) → time_refusal c t ≡ 0 → (t < day_length) × (c.frame ≤ t)
unfolding time_refusal
time_taken c t e =
    ⊎_elim
    (λ d.
    let q = sym (chosen {a = choose (ltb t c.frame) 11 0} 3 d) ∙ e in
    (ltb-true t day_length d, ⊎_elim (λ h. absurd (let r = sym (chosen {a = 11} 0 (lt-ltb t c.frame h)) ∙ q in omega (arith, r))) (λ h. h) (less t c.frame)))
    (λ d. absurd (let r = sym (other {b = 3} (choose (ltb t c.frame) 11 0) d) ∙ e in omega (arith, r)))
    (tested (in_day t))

frame_then_lem : (c : State) (k : Call) → (outcome_of c k).number ≡ 0 → (outcome_of c k).channel.frame ≡ frame_then c k
unfolding did advanced
frame_then_lem c (verb v a b d) e = refl
frame_then_lem c (advance d) e = refl
frame_then_lem c (advance_to t d) e = frame-after (t - c.frame) c ∙ omega (arith, (time_taken c t e).1)

pub frames-counted : FramesCounted
frames-counted c k =
    ⊎_elim
    (λ e. ap (λ (x : State). x.frame) (accepted c k e) ∙ frame_then_lem c k (taken c k e).0 ∙ sym (chosen c.frame (eq-eqb (call_number c k) 0 e)))
    (λ e. ap (λ (x : State). x.frame) (refused c k e) ∙ sym (other (frame_then c k) (ne_eqb (call_number c k) 0 e)))
    (equal (call_number c k) 0)

-- ---- nothing heard

module _ (c : State) (j : ℕ) (quiet : (i : ℕ) → i < most → sent_any (place c i) ≡ false) where
  not-heard : (i : ℕ) → i < most → hears_from c j i ≡ false
  unfolding hears_from
  not-heard i h = and_right (not (eqb i j)) (and_left (whole c i j) (quiet i h))

  nobody-among : (last n : ℕ) → n ≤ most → next_among c j last n ≡ no_place
  unfolding next_among comes
  nobody-among last zero h = refl
  nobody-among last (suc n) h = other n (and_left _ (not-heard n (omega arith))) ∙ nobody-among last n (omega arith)

  nobody-after : (n last : ℕ) → senders_after c j n last ≡ []
  unfolding senders_after next_sender
  nobody-after zero last = refl
  nobody-after (suc n) last = rw (nobody-among last most (omega arith), senders_after)

  pub nothing-heard : inbox c j ≡ []
  unfolding inbox sent_by_all
  nothing-heard = ap (sent_by_all c) (nobody-after most no_place)

pub nothing_sent_nothing_heard : NothingSentNothingHeard
unfolding hearing heard_all
nothing_sent_nothing_heard c quiet t j s = ap (heard_all t (cleared s)) (nothing-heard c j quiet)

-- ---- two lists, one after the other

pub lists_join : ListsJoin
unfolding channel_after numbers_of
lists_join c [] ls = record { channel = refl; numbers = refl }
lists_join c (k ∷ ks) ls =
    let more = lists_join (call_channel c k) ks ls in
    record { channel = more.channel; numbers = ap (λ (x : List ℕ). call_number c k ∷ x) more.numbers }

-- ---- as many advances

module _ (d : List ℕ) where
  step-number : (c : State) → c.frame + 1 < day_length → length (frame_lines c) ≤ length d → call_number c (advance d) ≡ 0
  unfolding call_number
  step-number c h l = is-long (step_outcome c) (length d) (chosen 16 (lt-ltb (c.frame + 1) day_length h)) l

  -- n frames, where the day has them and there is room for their lines
  frames : (n : ℕ) (c : State) → c.frame + n < day_length → length (lines_by n c) ≤ length d → AreAdvances c n d
  unfolding numbers_of channel_after lines_after advanced_by lines_by advanced
  frames zero c h l = record { numbers = refl; channel = refl; lines = refl }
  frames (suc n) c h l =
      let e = length-append (frame_lines c) (lines_by n (advanced c)) in
      let gets = step-number c (omega arith) (omega arith) in
      let there = accepted c (advance d) gets in
      let more = frames n (advanced c) (omega arith) (omega arith) in
      record {
        numbers = ap₂ (λ (x : ℕ) (y : State). x ∷ numbers_of y (replicate n (advance d))) gets there ∙ ap (λ (x : List ℕ). 0 ∷ x) more.numbers;
        channel = ap (λ (y : State). channel_after y (replicate n (advance d))) there ∙ more.channel;
        lines =
            ap (λ (x : List ℕ). x ++ lines_after (call_channel c (advance d)) (replicate n (advance d))) (chosen [] (eq-eqb (call_number c (advance d)) 0 gets))
            ∙ ap (λ (y : State). frame_lines c ++ lines_after y (replicate n (advance d))) there
            ∙ ap (λ (x : List ℕ). frame_lines c ++ x) more.lines;
      }

pub as_many_advances : AsManyAdvances
as_many_advances c t d e =
    let n = t - c.frame in
    let g = taken c (advance_to t d) e in
    let s = time_taken c t g.0 in
    let f = frames d n c (omega (arith, s.0, s.1)) g.1 in
    record {
      numbers = f.numbers ∙ ap (λ (m : ℕ). replicate m 0) (sym (length-replicate n (advance d)));
      channel = accepted c (advance_to t d) e ∙ sym f.channel;
      lines = sym f.lines;
    }

-- ---- as many as fit

pub fit_bounds : (n : ℕ) (c : State) (room : ℕ) → (fitting n c room ≤ n) × (length (lines_by (fitting n c room) c) ≤ room)
unfolding fitting lines_by
fit_bounds zero c room = (omega arith, omega arith)
fit_bounds (suc n) c room =
    on (less room (length (frame_lines c)))
    (λ h. rw (lt-leb (length (frame_lines c)) room h, fitting) (omega arith, omega arith))
    (λ h.
    let a = length (frame_lines c) in
    let more = fit_bounds n (advanced c) (room - a) in
    let e = length-append (frame_lines c) (lines_by (fitting n (advanced c) (room - a)) (advanced c)) in
    rw (le-leb (length (frame_lines c)) room h, fitting) (omega (arith, more.0), omega (arith, e, more.1)))

within-taken : (c : State) (t room : ℕ) → (within_outcome c t room).number ≡ 0 → time_refusal c t ≡ 0
within-taken c t room e = on (tested (eqb (time_refusal c t) 0)) (λ f. eqb-true _ 0 f) (λ f. sym (other _ f) ∙ e)

pub within_is_advances : WithinIsAdvances
within_is_advances c t d e =
    let s = time_taken c t (within-taken c t (length d) e) in
    let b = fit_bounds (t - c.frame) c (length d) in
    (b.0, (b.1, frames d (frames_within c t (length d)) c (omega (arith, s.0, s.1, b.0)) b.1))

one_more_lem : (n : ℕ) (c : State) (room : ℕ) → fitting n c room < n → room < length (lines_by (suc (fitting n c room)) c)
unfolding fitting lines_by
one_more_lem zero c room h = absurd (omega arith)
one_more_lem (suc n) c room h =
    on (less room (length (frame_lines c)))
    (λ g. rw (lt-leb (length (frame_lines c)) room g, fitting) (omega (arith, length-append (frame_lines c) [])))
    (λ g.
    let a = length (frame_lines c) in
    let k = fitting n (advanced c) (room - a) in
    let is : fitting (suc n) c room ≡ suc k = rw (le-leb (length (frame_lines c)) room g, fitting) refl in
    let more = one_more_lem n (advanced c) (room - a) (omega (arith, h, is)) in
    let e = length-append (frame_lines c) (lines_by (suc k) (advanced c)) in
    rw is (omega (arith, e, more)))

pub one_more_does_not_fit : OneMoreDoesNotFit
one_more_does_not_fit c t room h = one_more_lem (t - c.frame) c room h

-- ---- replies

reply_said_lem : (s : Server) (h : Heartbeat) (r : Role) → is_beating r ≡ true → from_higher s h ≡ false → replies s h ≡ true → said (hears_in r s h) ≡ reply_said r
unfolding is_beating prospect_hears primary_hears
reply_said_lem s h Down b u y = absurd (clash b refl)
reply_said_lem s h Idle b u y = absurd (clash b refl)
reply_said_lem s h Sync b u y = absurd (clash b refl)
reply_said_lem s h Backup b u y = absurd (clash b refl)
reply_said_lem s h Prospect b u y = ap said (other _ u ∙ chosen _ y)
reply_said_lem s h Primary b u y = ap said (other _ u ∙ chosen _ y)

pub reveals_get_replies : RevealsGetReplies
unfolding replies
reveals_get_replies t s h b l n =
    let no = asymmetric (rank_of s) (sender h) (snd_true (is_set h.reveal) (from_lower s h) l) in
    let e = reply_as t s h s.role b no (and_true l (ap not n)) in
    record { beat = e; says = reply_said_lem s h s.role b no (and_true l (ap not n)); once = λ hs k. sent_no_reply _ k (sent-heard t (heard t s h).server hs (ap sent_any e ∙ beat-any (set_beat t s))) }

note_said_lem : (s : Server) (h : Heartbeat) (r : Role) → is_beating r ≡ true → from_higher s h ≡ false → replies s h ≡ false → from_lower s h ≡ true → said (hears_in r s h) ≡ note_said r
unfolding is_beating prospect_hears primary_hears
note_said_lem s h Down b u n y = absurd (clash b refl)
note_said_lem s h Idle b u n y = absurd (clash b refl)
note_said_lem s h Sync b u n y = absurd (clash b refl)
note_said_lem s h Backup b u n y = absurd (clash b refl)
note_said_lem s h Prospect b u n y = ap said (other _ u ∙ other _ n)
note_said_lem s h Primary b u n y = ap said (other _ u ∙ other _ n ∙ chosen _ y)

same_as : (t : ℕ) (s : Server) (h : Heartbeat) (r : Role) → is_beating r ≡ true → from_higher s h ≡ false → replies s h ≡ false → after t (attending t r s) (hears_in r s h) ≡ s
unfolding after is_beating prospect_hears primary_hears
same_as t s h Down b u n = absurd (clash b refl)
same_as t s h Idle b u n = absurd (clash b refl)
same_as t s h Sync b u n = absurd (clash b refl)
same_as t s h Backup b u n = absurd (clash b refl)
same_as t s h Prospect b u n = ap (after t s) (other _ u ∙ other _ n)
same_as t s h Primary b u n = ap (after t s) (other _ u ∙ other _ n) ∙ by_choice (λ (e : Event). after t s e ≡ s) (from_lower s h) (λ _. refl) (λ _. refl)

pub nothing_else_gets_one : NothingElseGetsOne
unfolding replies
nothing_else_gets_one t s h b (inl l) = unasked_as t s h s.role b (and_left _ l)
nothing_else_gets_one t s h b (inr n) = unasked_as t s h s.role b (sent_no_reply s h n)

not_replied : (t : ℕ) (s : Server) (h : Heartbeat) → is_beating s.role ≡ true → replies s h ≡ false → NotReplied t s h
not_replied t s h b n =
    record {
      same = λ u. same_as t s h s.role b u n;
      says = λ y. note_said_lem s h s.role b (asymmetric (rank_of s) (sender h) y) n y;
    }

pub only_a_note_is_made : OnlyANoteIsMade
unfolding replies
only_a_note_is_made t s h b (inl l) = not_replied t s h b (and_left _ l)
only_a_note_is_made t s h b (inr n) = not_replied t s h b (sent_no_reply s h n)

-- ---- all of them

pub laws : Laws
laws =
    record {
      tables = tables_in_order;
      adding = adding-makes;
      opening = fresh_has_its_table;
      order = all_hear_in_order;
      silence = nothing_sent_nothing_heard;
      replies = reveals_get_replies;
      unasked = nothing_else_gets_one;
      noted = only_a_note_is_made;
      refused = refused_changes_nothing;
      accepted = accepted_writes_its_lines;
      table = every_call_keeps_the_table;
      frames = frames-counted;
      others = others_stay;
      links = other_links_stay;
      link = its_link_is_as_cut;
      joined = lists_join;
      advances = as_many_advances;
      within = within_is_advances;
      most = one_more_does_not_fit;
    }
