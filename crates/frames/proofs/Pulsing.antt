-- A calm group, beat by beat. Assumes nothing.
use mathlib.Core.Bool.{Bool, true, false, not, ◌&&◌}
use mathlib.Core.Path.{◌≡◌, refl, sym, ap, ap₂, ◌∙◌}
use mathlib.Core.Logic.{inl, inr}
use mathlib.Core.List.{List, [], ◌∷◌, ◌++◌, append-nil}
use Prim.Native.Nat.{ℕ, zero, suc, ◌+◌, ◌-◌, ◌*◌, ◌≤◌, ◌<◌}
use native.Mathlib.Omega.{arith}
use borrow.Author.Tests.{lt-ltb, eq-eqb, ne_eqb}
use lib.Dec.{eqb}
use lib.ListN.{length, get_or, set, length-set}
use lib.Seq.{get_or-set_same, get_or-set_other, ext_get_or}
use Rattle.lists.specs.Choice.{choose}
use Rattle.lists.specs.Lists.{map_from, any_below}
use Rattle.lists.proofs.Cases.{less, equal, on, chosen, other, and_true, and_left, and_right}
use Rattle.heartbeat.specs.declared.Heartbeat.{Heartbeat}
use Rattle.heartbeat.proofs.Order.{irreflexive}
use Rattle.roles.specs.declared.Role.{Role}
use Rattle.roles.specs.declared.Role.TheVariants.{Down, Idle, Sync, Backup, Prospect, Primary}
use Rattle.roles.specs.declared.Event.TheVariants as event
use Rattle.roles.specs.declared.Said.TheVariants.{One}
use Rattle.roles.specs.declared.Word.TheVariants.{Beat}
use Rattle.periods.specs.declared.Period.{Period}
use Rattle.server.specs.declared.Server.{Server}
use Rattle.server.specs.declared.Timed.{Timed}
use Rattle.server.specs.Server.{absent, rank_of, set_silence, set_beat, one_more, send_beat, cleared, sent_by, sent_any}
use Rattle.periods.specs.Period.{silence_limit, beat_limit}
use Rattle.server.specs.Timers.{aged, timed}
use Rattle.lines.specs.Lines.{lines_of}
use Rattle.group.specs.declared.State.{State}
use Rattle.group.specs.Hearing.{place, link_of, hears_from, comes, next_sender, senders_after, sent_by_all, inbox}
use Rattle.server.specs.Hearing.{heard_all}
use Rattle.group.specs.Frame.{heard_lines, timed_lines, hearing, turned, turn_lines, turns_lines, advanced, frame_lines}
use Rattle.group.specs.Advance.{advanced_by, lines_by}
use Rattle.group.proofs.Places.{map_at, length_from, place-advanced, long-advanced}
use Rattle.places.specs.Roles.{is_backup, is_primary, still_in, is_still}
use Rattle.frame.specs.Answers.{state_of, ticks_in}
use Rattle.frame.specs.Steps.{sent_below, only_listens, any_sent, ticked, tick_lines, resting, AllRest}
use Rattle.frames.specs.Steps.{pulsed, Listens, Calm, beat_lines}
use Rattle.frame.proofs.Quiet.{due-from, no_timer, rests_backup, rests-primary, primary-beats, clear_already, ticks-frame, skip}
use Rattle.frame.proofs.Hearings.{just_listens}
use Rattle.frame.proofs.Lookup.{among-sent, best_of, some_after, none_after}
use Rattle.frame.proofs.Still.{still-rests, still-turned}
use Rattle.group.proofs.Adding.{advanced_add, lines_add}

-- ---- who is heard where one place sent

module _ (c : State) (b : ℕ) (h : b < 16) (sent : sent_any (place c b) ≡ true) (only : (i : ℕ) → i < 16 → (i ≡ b → ⊥) → sent_any (place c i) ≡ false) where
  sent-before : (n : ℕ) → n ≤ b → sent_below c.servers n ≡ []
  unfolding sent_below
  sent-before zero g = refl
  sent-before (suc n) g =
      ap₂ (λ (x y : List ℕ). x ++ y) (sent-before n (omega arith)) (other _ (only n (omega arith) (λ z. omega arith)))

  sent-only : (n : ℕ) → b < n → n ≤ 16 → sent_below c.servers n ≡ b ∷ []
  unfolding sent_below
  sent-only zero g m = absurd (omega arith)
  sent-only (suc n) g m =
      on (equal n b)
      (λ e. rw e (ap₂ (λ (x y : List ℕ). x ++ y) (sent-before b (omega arith)) (chosen _ sent)))
      (λ e. ap₂ (λ (x y : List ℕ). x ++ y) (sent-only n (below e) (omega arith)) (other _ (only n (omega arith) e)))
    where
      below : (n ≡ b → ⊥) → b < n
      below e = on (less b n) (λ l. l) (λ l. absurd (e (omega arith)))

  module _ (j : ℕ) where
    next-is : (last : ℕ) → next_sender c j last ≡ choose (comes c j last 16 b) b 16
    unfolding next_sender
    next-is last = among-sent c j last 16 ∙ ap (best_of c j last 16) (sent-only 16 h (omega arith))

    comes-first : comes c j 16 16 b ≡ hears_from c j b
    unfolding comes choose
    comes-first = by (hears_from c j b)
      where
        by : (t : Bool) → (t && true) ≡ t
        by true = refl
        by false = refl

    comes-not : comes c j b 16 b ≡ false
    unfolding comes
    comes-not = and_right (hears_from c j b) (and_left _ (chosen _ (lt-ltb b 16 h) ∙ irreflexive (rank_of (place c b))))

    pub one-heard : hears_from c j b ≡ true → inbox c j ≡ sent_by (place c b)
    unfolding inbox sent_by_all
    one-heard e =
        let first : next_sender c j 16 ≡ b = next-is 16 ∙ chosen _ (comes-first ∙ e) in
        let last : next_sender c j b ≡ 16 = next-is b ∙ other _ comes-not in
        ap (sent_by_all c)
        (some_after c j 15 16 (omega (arith, first))
        ∙ ap (λ (k : ℕ). k ∷ senders_after c j 15 k) first
        ∙ ap (λ (l : List ℕ). b ∷ l) (none_after c j 14 b (omega (arith, last))))
        ∙ append-nil (sent_by (place c b))

    pub none-heard : hears_from c j b ≡ false → inbox c j ≡ []
    unfolding inbox sent_by_all
    none-heard e = ap (sent_by_all c) (none_after c j 15 16 (omega (arith, next-is 16 ∙ other _ (comes-first ∙ e))))

-- ---- lines of places that say nothing

ticks_nil : (t : ℕ) (p : Period) (l : List Server) → ((i : ℕ) → i < length l → timed_lines t (get_or l i absent).identity (timed t p (get_or l i absent)) ≡ []) → tick_lines t p l ≡ []
ticks_nil t p [] f = refl
ticks_nil t p (s ∷ l) f = ap₂ (λ (x y : List ℕ). x ++ y) (f 0 (omega arith)) (ticks_nil t p l (λ i h. f (suc i) (omega arith)))

-- only place b says something
ticks-only :
    (t : ℕ) (p : Period) (l : List Server) (b : ℕ) → b < length l →
    ((i : ℕ) → i < length l → (i ≡ b → ⊥) → timed_lines t (get_or l i absent).identity (timed t p (get_or l i absent)) ≡ []) →
    tick_lines t p l ≡ timed_lines t (get_or l b absent).identity (timed t p (get_or l b absent))
ticks-only t p [] b h f = absurd (omega arith)
ticks-only t p (s ∷ l) zero h f =
    ap (λ (y : List ℕ). timed_lines t s.identity (timed t p s) ++ y) (ticks_nil t p l (λ i g. f (suc i) (omega arith) (λ z. omega arith))) ∙ append-nil _
ticks-only t p (s ∷ l) (suc b) h f =
    ap (λ (x : List ℕ). x ++ tick_lines t p l) (f 0 (omega arith) (λ z. omega arith)) ∙ ticks-only t p l b (omega arith) (λ i g e. f (suc i) (omega arith) (λ z. e (omega arith)))

turns_nil : (c : State) (t k : ℕ) (l : List Server) → ((i : ℕ) → i < length l → turn_lines c t (k + i) (get_or l i absent) ≡ []) → turns_lines c t k l ≡ []
unfolding turns_lines
turns_nil c t k [] f = refl
turns_nil c t k (s ∷ l) f =
    ap₂ (λ (x y : List ℕ). x ++ y) (ap (λ (n : ℕ). turn_lines c t n s) (let e : k ≡ k + 0 = omega arith in e) ∙ f 0 (omega arith))
    (turns_nil c t (suc k) l (λ i h. ap (λ (n : ℕ). turn_lines c t n (get_or l i absent)) (let e : suc k + i ≡ k + suc i = omega arith in e) ∙ f (suc i) (omega arith)))

resting-says : (t : ℕ) (s : Server) {m : Timed} → m ≡ resting s → timed_lines t s.identity m ≡ []
unfolding timed_lines lines_of
resting-says t s e = ap (timed_lines t s.identity) e

-- ---- one beat

pub still_no_backup : (r : Role) (b : Bool) → still_in r b ≡ true → is_backup r ≡ false
still_no_backup Down b e = refl
still_no_backup Idle b e = refl
still_no_backup Sync b e = refl
still_no_backup Backup b e = sym e
still_no_backup Prospect b e = refl
still_no_backup Primary b e = refl

none-sent : (l : List Server) (n : ℕ) → ((i : ℕ) → i < n → sent_any (get_or l i absent) ≡ false) → any_below n (λ (k : ℕ). sent_any (get_or l k absent)) ≡ false
unfolding any_below
none-sent l zero f = refl
none-sent l (suc n) f = rw (none-sent l n (λ i h. f i (omega arith))) (f n (omega arith))

module _ (p : Period) (w : List Bool) (l : List Server) (b t f : ℕ) (room : length l ≡ 16) (v : Calm p w l b t f) where
  abbrev beating : Server
  beating = get_or l b absent

  -- the primary in the frame of its beat
  abbrev sender : Server
  sender = send_beat (set_beat f beating)

  abbrev sending : List Server
  sending = set l b sender

  pub quiet : any_sent l ≡ false
  quiet = none-sent l 16 v.unsent

  -- nothing happens before the beat
  pub all_rest : AllRest t p l f
  all_rest =
      record {
        all =
            λ i h.
            on (equal i b)
            (λ e. rw e (rests-primary t p beating f v.primary (due-from (omega (arith, v.next)))))
            (λ e.
            on (v.others i h e)
            (λ s. still-rests (get_or l i absent) s t p f)
            (λ s. record { rests = λ u x y. (rests_backup t p (get_or l i absent) (f + 1) s.role s.waits).rests u x (omega arith) }));
      }

  abbrev wait : ℕ
  wait = f - 1 - t

  waited : (advanced_by wait (state_of t p l w) ≡ state_of (f - 1) p l w) × (lines_by wait (state_of t p l w) ≡ [])
  waited =
      let ahead = v.ahead in
      let s = skip wait (state_of t p l w) f quiet room all_rest (inr (omega arith)) in
      (s.0 ∙ ap (λ (n : ℕ). state_of n p l w) (let e : t + wait ≡ f - 1 = omega arith in e), s.1)

  -- the frame of the beat
  due : ticks_in beating.role f p beating ≡ true
  due = rw v.primary (eq-eqb _ f v.next)

  primary-is : is_primary beating.role ≡ true
  primary-is = rw v.primary refl

  rests-there : (i : ℕ) → i < 16 → (i ≡ b → ⊥) → timed f p (get_or l i absent) ≡ resting (get_or l i absent)
  rests-there i h e =
      let ahead = v.ahead in
      on (v.others i h e)
      (λ s. (still-rests (get_or l i absent) s t p (f + 1)).rests f ahead (omega arith))
      (λ s. (rests_backup t p (get_or l i absent) (f + 1) s.role s.waits).rests f ahead (omega arith))

  ticks : map_from 0 (ticked f p) l ≡ sending
  ticks =
      ext_get_or absent (map_from 0 (ticked f p) l) sending (length_from (ticked f p) 0 l ∙ sym (length-set l b sender))
      (λ i g.
      let h : i < 16 = omega (arith, length_from (ticked f p) 0 l) in
      map_at (ticked f p) 0 l i absent (omega arith)
      ∙ on (equal i b)
      (λ e. rw e (ap (λ (m : Timed). m.server) (primary-beats f p beating primary-is due) ∙ sym (get_or-set_same l b sender absent (omega (arith, v.place)))))
      (λ e. ap (λ (m : Timed). m.server) (rests-there i h e) ∙ sym (get_or-set_other l b i sender absent e)))

  ticks_say : tick_lines f p l ≡ lines_of f beating.identity (One Beat)
  unfolding timed_lines lines_of
  ticks_say =
      ticks-only f p l b (omega (arith, v.place)) (λ i g e. resting-says f (get_or l i absent) (rests-there i (omega arith) e))
      ∙ ap (timed_lines f beating.identity) (primary-beats f p beating primary-is due)
      ∙ append-nil (lines_of f beating.identity (One Beat))

  beats : (advanced (state_of (f - 1) p l w) ≡ state_of f p sending w) × (frame_lines (state_of (f - 1) p l w) ≡ lines_of f beating.identity (One Beat))
  unfolding advanced
  beats =
      let ahead = v.ahead in
      let e : (f - 1) + 1 ≡ f = omega arith in
      let q = ticks-frame (state_of (f - 1) p l w) quiet room in (
        ap₂ (λ (n : ℕ) (m : List Server). state_of n p m w) e (q.0 ∙ ap (λ (n : ℕ). map_from 0 (ticked n p) l) e ∙ ticks),
        q.1 ∙ ap (λ (n : ℕ). tick_lines n p l) e ∙ ticks_say,
      )

  -- the frame after it: everybody who listens hears one plain beat
  abbrev heard_in_lem : State
  heard_in_lem = state_of f p sending w

  none_before : (beating.beats ≡ 0) × ((beating.reveal ≡ false) × (beating.pass ≡ 0))
  none_before =
      let e = sym (clear_already beating (v.unsent b v.place)) in
      (ap (λ (s : Server). s.beats) e, (ap (λ (s : Server). s.reveal) e, ap (λ (s : Server). s.pass) e))

  one-beat : sender.beats ≡ 1
  unfolding one_more choose
  one-beat = ap one_more none_before.0

  sends : sent_any sender ≡ true
  unfolding sent_any
  sends = other _ (ap (λ (n : ℕ). eqb n 0) one-beat)

  there : place heard_in_lem b ≡ sender
  there = get_or-set_same l b sender absent (omega (arith, v.place))

  elsewhere : (i : ℕ) → (i ≡ b → ⊥) → place heard_in_lem i ≡ get_or l i absent
  elsewhere i e = get_or-set_other l b i sender absent e

  only-sender : (i : ℕ) → i < 16 → (i ≡ b → ⊥) → sent_any (place heard_in_lem i) ≡ false
  only-sender i h e = ap sent_any (elsewhere i e) ∙ v.unsent i h

  hears-not : hears_from heard_in_lem b b ≡ false
  unfolding hears_from
  hears-not = and_left _ (ap not (eq-eqb b b refl))

  hears-so : (i : ℕ) → (i ≡ b → ⊥) → get_or w (link_of b i) false ≡ true → hears_from heard_in_lem i b ≡ true
  unfolding hears_from
  hears-so i e k = and_true (ap not (ne_eqb b i (λ z. e (sym z)))) (and_true (ap sent_any there ∙ sends) k)

  plain : (s : Server) → s.role ≡ Backup → only_listens s sender ≡ true
  plain s e =
      and_true (ap is_backup e)
      (and_true (ap (λ (n : ℕ). not (eqb n 0)) one-beat) (and_true (ap not none_before.1.0) (ap (λ (n : ℕ). eqb n 0) none_before.1.1)))

  -- every place after it
  beater_turn : (turned heard_in_lem (f + 1) b sender ≡ set_beat f beating) × (turn_lines heard_in_lem (f + 1) b sender ≡ [])
  unfolding turned turn_lines hearing heard_all heard_lines
  beater_turn =
      let deaf = none-heard heard_in_lem b v.place (ap sent_any there ∙ sends) only-sender b hears-not in
      let is : cleared sender ≡ set_beat f beating = ap (set_beat f) (clear_already beating (v.unsent b v.place)) in
      let rest : timed (f + 1) p (set_beat f beating) ≡ resting (set_beat f beating) =
      no_timer (f + 1) p (set_beat f beating) Primary v.primary (ne_eqb (f + beat_limit p) (f + 1) (λ z. let long = v.long in omega arith)) in
      let all : timed (f + 1) p (heard_all (f + 1) (cleared sender) (inbox heard_in_lem b)) ≡ resting (set_beat f beating) =
      ap (λ (hs : List Heartbeat). timed (f + 1) p (heard_all (f + 1) (cleared sender) hs)) deaf ∙ ap (timed (f + 1) p) is ∙ rest in (
        ap (λ (m : Timed). m.server) all,
        ap (λ (hs : List Heartbeat). heard_lines (f + 1) (cleared sender) hs ++ timed_lines (f + 1) sender.identity (timed (f + 1) p (heard_all (f + 1) (cleared sender) (inbox heard_in_lem b)))) deaf
            ∙ resting-says (f + 1) (set_beat f beating) all,
      )

  listener_turn :
      (i : ℕ) → i < 16 → (i ≡ b → ⊥) → Listens p w b i t f (get_or l i absent) →
      (turned heard_in_lem (f + 1) i (get_or l i absent) ≡ set_silence (f + 1) (get_or l i absent)) × (turn_lines heard_in_lem (f + 1) i (get_or l i absent) ≡ [])
  unfolding turned turn_lines hearing
  listener_turn i h e s =
      let x = get_or l i absent in
      let box = one-heard heard_in_lem b v.place (ap sent_any there ∙ sends) only-sender i (hears-so i e s.link) ∙ ap sent_by there in
      let late : aged (f + 1) (silence_limit p) (f + 1) ≡ false = ne_eqb ((f + 1) + silence_limit p) (f + 1) (λ z. let long = v.long in omega arith) in
      let j = just_listens (f + 1) p x sender (plain x s.role) late box in
      (j.server ∙ ap (set_silence (f + 1)) (clear_already x (v.unsent i h)), j.lines)

  place-turn : (i : ℕ) → i < 16 → (turned heard_in_lem (f + 1) i (place heard_in_lem i) ≡ pulsed b f i (get_or l i absent)) × (turn_lines heard_in_lem (f + 1) i (place heard_in_lem i) ≡ [])
  place-turn i h =
      on (equal i b)
      (λ e.
      rw (e, there)
      (beater_turn.0 ∙ sym (chosen _ (eq-eqb b b refl)), beater_turn.1))
      (λ e.
      rw (elsewhere i e)
      (on (v.others i h e)
      (λ s.
      let q = still-turned (get_or l i absent) s heard_in_lem (f + 1) i (omega arith) in
      (q.0 ∙ sym (other _ (ne_eqb i b e) ∙ other _ (still_no_backup (get_or l i absent).role _ s)), q.1))
      (λ s.
      let q = listener_turn i h e s in
      (q.0 ∙ sym (other _ (ne_eqb i b e) ∙ chosen _ (ap is_backup s.role)), q.1))))

  settled : (advanced heard_in_lem ≡ state_of (f + 1) p (map_from 0 (pulsed b f) l) w) × (frame_lines heard_in_lem ≡ [])
  unfolding frame_lines advanced
  settled =
      let long : length sending ≡ 16 = length-set l b sender ∙ room in
      let n = long-advanced heard_in_lem in (
        ap (λ (m : List Server). state_of (f + 1) p m w)
            (ext_get_or absent (advanced heard_in_lem).servers (map_from 0 (pulsed b f) l) (n ∙ long ∙ sym (length_from (pulsed b f) 0 l ∙ room))
            (λ i g.
            let h : i < 16 = omega arith in
            place-advanced heard_in_lem i (omega arith) ∙ (place-turn i h).0 ∙ sym (map_at (pulsed b f) 0 l i absent (omega arith) ∙ ap (λ (k : ℕ). pulsed b f k (get_or l i absent)) (let e : 0 + i ≡ i = omega arith in e)))),
        turns_nil heard_in_lem (f + 1) 0 sending
            (λ i g. ap (λ (k : ℕ). turn_lines heard_in_lem (f + 1) k (place heard_in_lem i)) (let e : 0 + i ≡ i = omega arith in e) ∙ (place-turn i (omega arith)).1),
      )

  abbrev pub after-beat : List Server
  after-beat = map_from 0 (pulsed b f) l

  -- from the frame t to the one after the beat
  abbrev pub round : ℕ
  round = wait + 2

  pub round-ends : t + round ≡ f + 1
  round-ends = let ahead = v.ahead in omega arith

  pub round-state : advanced_by round (state_of t p l w) ≡ state_of (f + 1) p after-beat w
  unfolding advanced_by
  round-state = advanced_add wait 2 (state_of t p l w) ∙ ap (λ (x : State). advanced (advanced x)) waited.0 ∙ ap advanced beats.0 ∙ settled.0

  pub round-lines : lines_by round (state_of t p l w) ≡ lines_of f beating.identity (One Beat)
  unfolding lines_by
  round-lines =
      lines_add wait 2 (state_of t p l w)
      ∙ ap₂ (λ (x : List ℕ) (y : State). x ++ (frame_lines y ++ (frame_lines (advanced y) ++ []))) waited.1 waited.0
      ∙ ap₂ (λ (x : List ℕ) (y : State). x ++ (frame_lines y ++ [])) beats.1 beats.0
      ∙ ap (λ (x : List ℕ). lines_of f beating.identity (One Beat) ++ (x ++ [])) settled.1
      ∙ append-nil (lines_of f beating.identity (One Beat))

  at_after : (i : ℕ) → i < 16 → get_or after-beat i absent ≡ pulsed b f i (get_or l i absent)
  at_after i h = map_at (pulsed b f) 0 l i absent (omega arith) ∙ ap (λ (k : ℕ). pulsed b f k (get_or l i absent)) (let e : 0 + i ≡ i = omega arith in e)

  pub after-room : length after-beat ≡ 16
  after-room = length_from (pulsed b f) 0 l ∙ room

  pub beater_after : get_or after-beat b absent ≡ set_beat f beating
  beater_after = at_after b v.place ∙ chosen _ (eq-eqb b b refl)

  other_after : (i : ℕ) → i < 16 → (i ≡ b → ⊥) → get_or after-beat i absent ≡ choose (is_backup (get_or l i absent).role) (set_silence (f + 1) (get_or l i absent)) (get_or l i absent)
  other_after i h e = at_after i h ∙ other _ (ne_eqb i b e)

  unsent-after : (i : ℕ) → i < 16 → sent_any (get_or after-beat i absent) ≡ false
  unfolding sent_any choose
  unsent-after i h =
      on (equal i b)
      (λ e. rw e (ap sent_any beater_after ∙ v.unsent b v.place))
      (λ e. ap sent_any (other_after i h e) ∙ by (is_backup (get_or l i absent).role) (get_or l i absent) (v.unsent i h))
    where
      by : (t : Bool) (s : Server) → sent_any s ≡ false → sent_any (choose t (set_silence (f + 1) s) s) ≡ false
      by true s e = e
      by false s e = e

  -- and so on, a period later
  pub calm-after : Calm p w after-beat b (f + 1) (f + beat_limit p)
  calm-after =
      record {
        place = v.place;
        primary = ap (λ (s : Server). s.role) beater_after ∙ v.primary;
        next = ap (λ (s : Server). s.beat + beat_limit p) beater_after;
        ahead = let long = v.long in omega arith;
        long = v.long;
        unsent = unsent-after;
        others =
            λ i h e.
            on (v.others i h e)
            (λ s. inl (ap is_still (other_after i h e ∙ other _ (still_no_backup (get_or l i absent).role _ s)) ∙ s))
            (λ s.
            let is = other_after i h e ∙ chosen _ (ap is_backup s.role) in
            inr
            (record {
              role = ap (λ (x : Server). x.role) is ∙ s.role;
              link = s.link;
              waits = due-from (omega (arith, ap (λ (x : Server). x.silence) is));
            }));
      }

-- ---- many beats

pulsed_again : (b f g i : ℕ) (s : Server) → pulsed b g i (pulsed b f i s) ≡ pulsed b g i s
unfolding choose
pulsed_again b f g i s = by (eqb i b) (is_backup s.role) refl
  where
    by : (t k : Bool) → is_backup s.role ≡ k →
        choose t (set_beat g (choose t (set_beat f s) (choose k (set_silence (f + 1) s) s)))
        (choose (is_backup (choose t (set_beat f s) (choose k (set_silence (f + 1) s) s)).role) (set_silence (g + 1) (choose t (set_beat f s) (choose k (set_silence (f + 1) s) s))) (choose t (set_beat f s) (choose k (set_silence (f + 1) s) s)))
        ≡ choose t (set_beat g s) (choose k (set_silence (g + 1) s) s)
    by true k e = refl
    by false true e = ap (λ (x : Bool). choose x (set_silence (g + 1) (set_silence (f + 1) s)) (set_silence (f + 1) s)) e
    by false false e = ap (λ (x : Bool). choose x (set_silence (g + 1) s) s) e

map_again : (b f g k : ℕ) (l : List Server) → map_from k (pulsed b g) (map_from k (pulsed b f) l) ≡ map_from k (pulsed b g) l
map_again b f g k [] = refl
map_again b f g k (s ∷ l) = ap₂ (λ (x : Server) (m : List Server). x ∷ m) (pulsed_again b f g k s) (map_again b f g (suc k) l)

-- n + 1 beats: the frames that they take, the channel after them, and their lines
pub record Rounds (p : Period) (w : List Bool) (l : List Server) (b t f n : ℕ) : Type 0 where
  pub count : ℕ
  pub ends : t + count ≡ f + n * beat_limit p + 1
  pub state : advanced_by count (state_of t p l w) ≡ state_of (f + n * beat_limit p + 1) p (map_from 0 (pulsed b (f + n * beat_limit p)) l) w
  pub lines : lines_by count (state_of t p l w) ≡ beat_lines f (beat_limit p) (get_or l b absent).identity (suc n)

pub rounds : (p : Period) (w : List Bool) (n : ℕ) (l : List Server) (b t f : ℕ) → length l ≡ 16 → Calm p w l b t f → Rounds p w l b t f n
rounds p w zero l b t f room v =
    let z : f ≡ f + 0 * beat_limit p = omega arith in
    record {
      count = round p w l b t f room v;
      ends = omega (arith, round-ends p w l b t f room v);
      state = round-state p w l b t f room v ∙ ap (λ (k : ℕ). state_of (k + 1) p (map_from 0 (pulsed b k) l) w) z;
      lines = round-lines p w l b t f room v ∙ sym (append-nil _);
    }
rounds p w (suc n) l b t f room v =
    let k = round p w l b t f room v in
    let r = rounds p w n (after-beat p w l b t f room v) b (f + 1) (f + beat_limit p) (after-room p w l b t f room v) (calm-after p w l b t f room v) in
    let q = beat_limit p in
    let last : (f + q) + n * q ≡ f + suc n * q = omega arith in
    let one = round-state p w l b t f room v in
    record {
      count = k + r.count;
      ends = omega (arith, round-ends p w l b t f room v, r.ends, last);
      state =
          advanced_add k r.count (state_of t p l w) ∙ ap (advanced_by r.count) one ∙ r.state
          ∙ ap₂ (λ (x : ℕ) (m : List Server). state_of (x + 1) p m w) last (ap (λ (x : ℕ). map_from 0 (pulsed b x) (after-beat p w l b t f room v)) last ∙ map_again b f (f + suc n * q) 0 l);
      lines =
          lines_add k r.count (state_of t p l w)
          ∙ ap₂ (λ (x y : List ℕ). x ++ y) (round-lines p w l b t f room v)
          (ap (lines_by r.count) one ∙ r.lines ∙ ap (λ (s : Server). beat_lines (f + q) q s.identity (suc n)) (beater_after p w l b t f room v));
    }
