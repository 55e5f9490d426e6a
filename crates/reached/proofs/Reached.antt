-- Every call leaves a sound channel sound, a refused one too. Assumes nothing.
use mathlib.Core.Bool.{Bool, true, false, not, ◌&&◌, ◌||◌}
use mathlib.Core.Path.{◌≡◌, refl, sym, ap, subst, ◌∙◌}
use mathlib.Core.Logic.{◌⊎◌, inl, inr}
use mathlib.Core.List.{List, [], ◌∷◌}
use Prim.Native.Nat.{ℕ, zero, suc, ◌-◌, ◌<◌, ◌≤◌}
use native.Mathlib.Omega.{arith}
use borrow.Author.Tests.{eq-eqb, ne_eqb}
use lib.Dec.{eqb}
use lib.ListN.{length, get_or, set, length-set}
use Rattle.lists.specs.Choice.{choose}
use Rattle.lists.specs.Lists.{count_below}
use Rattle.lists.proofs.Cases.{equal, chosen, other, on, clash, by_choice}
use Rattle.lists.proofs.Counting.{count_le}
use Rattle.refusal.specs.Answer.{Answer}
use Rattle.heartbeat.specs.declared.Rank.{Rank}
use Rattle.roles.specs.declared.Role.{Role}
use Rattle.roles.specs.declared.Role.TheVariants.{Backup}
use Rattle.roles.specs.declared.Verb.{Verb}
use Rattle.roles.specs.declared.Verb.TheVariants.{Start, Ready, Unready, Pass, Crash, Restart, Cut, Mend}
use Rattle.roles.specs.declared.Event.{Event}
use Rattle.roles.specs.declared.Event.TheVariants.{Nothing, ToBackup, ToSync, ToIdle, ToDown, Passed}
use Rattle.periods.specs.declared.Period.{Period}
use Rattle.server.specs.declared.Server.{Server}
use Rattle.server.specs.Server.{absent, rank_of, sent_any, after}
use Rattle.roles.specs.Verbs.{paired, entering, verb_event, verb_happens}
use Rattle.server.specs.Verbs.{verb_answer}
use Rattle.group.specs.declared.State.{State}
use Rattle.group.specs.Outcome.{number_in, channel_in}
use Rattle.group.specs.Hearing.{place, link_of}
use Rattle.group.specs.Frame.{advanced}
use Rattle.group.specs.Verbs.{place_of, happens, links_after, did}
use Rattle.group.specs.Advance.{advanced_by}
use Rattle.group.specs.Calls.{Call, verb, advance, advance_to, outcome_of, slice_of, call_channel, channel_after}
use Rattle.group.proofs.Laws.{rank-after}
use Rattle.roles.specs.Roles.{is_active, is_beating}
use Rattle.traces.proofs.Ways as ways
use Rattle.reached.proofs.Young.{Young, YoungIn}
use Rattle.reached.proofs.Sound.{Sound, seated_in, sound-advanced}

-- an element after one is set: the same, or the one that was set
pub set_cases :
    {A : Type 0} (l : List A) (i : ℕ) (x : A) (j : ℕ) (d : A) →
    (get_or (set l i x) j d ≡ get_or l j d) ⊎ ((i ≡ j) × (get_or (set l i x) j d ≡ x))
set_cases [] i x j d = inl refl
set_cases (y ∷ l) zero x zero d = inr (refl, refl)
set_cases (y ∷ l) zero x (suc j) d = inl refl
set_cases (y ∷ l) (suc i) x zero d = inl refl
set_cases (y ∷ l) (suc i) x (suc j) d = on (set_cases l i x j d) (λ e. inl e) (λ r. inr (ap suc r.0, r.1))

-- ---- verbs

-- the events of verbs
pub data IsEntered : Event → Type 0 where
  nothing : IsEntered Nothing
  backs : IsEntered ToBackup
  syncs : IsEntered ToSync
  idles : IsEntered ToIdle
  downs : IsEntered ToDown
  passes : {b : ℕ} → IsEntered (Passed b)

entered : (k : ℕ) → IsEntered (entering k)
unfolding entering
entered k =
    by_choice IsEntered (eqb k 0)
    (λ _. downs)
    (λ _. by_choice IsEntered (eqb k 1) (λ _. idles) (λ _. by_choice IsEntered (eqb k 2) (λ _. syncs) (λ _. backs)))

verb-entered : (v : Verb) (b k : ℕ) → IsEntered (verb_event v b k)
verb-entered Start b k = entered k
verb-entered Ready b k = entered k
verb-entered Unready b k = entered k
verb-entered Pass b k = passes
verb-entered Crash b k = entered k
verb-entered Restart b k = entered k
verb-entered Cut b k = nothing
verb-entered Mend b k = nothing

pub happens-entered : (v : Verb) (b : ℕ) (a : Answer) → IsEntered (verb_happens v b a)
unfolding verb_happens
happens-entered v b a = by_choice IsEntered (eqb a.number 0) (λ _. verb-entered v b (get_or a.values 0 0)) (λ _. nothing)

-- to an empty place nothing happens
pub absent-still : (v : Verb) (b : ℕ) (s : Server) → s.identity ≡ 0 → verb_happens v b (verb_answer v b s) ≡ Nothing
unfolding verb_happens verb_answer
absent-still v b s e =
    ap (λ (a : Answer). choose (eqb a.number 0) (verb_event v b (get_or a.values 0 0)) Nothing)
    (chosen _ (ap (λ (x : Bool). x || (paired v && eqb b 0)) (eq-eqb s.identity 0 e)))
    ∙ other _ refl

-- a role that is not active has no timer to be young
young-still : {p : Period} {t : ℕ} {r r' : Role} {a b d : ℕ} → YoungIn p t r a b d → is_active r' ≡ false → YoungIn p t r' a b d
young-still {r' = r} y e =
    record {
      silence-past = y.silence-past;
      beat-past = y.beat-past;
      prospect_past = y.prospect_past;
      silence-young = λ q. absurd (clash (ways.backup_active q) e);
      beat-young = λ q. absurd (clash (ways.beating-active r q) e);
      prospect_young = λ q. absurd (clash (ways.beating-active r (ways.prospect_beats q)) e);
    }

-- a backup whose silence timer is set now
young_backup : {p : Period} {t : ℕ} {r : Role} {a b d : ℕ} → 1 ≤ p.frames → YoungIn p t r a b d → YoungIn p t Backup t b d
unfolding is_beating
young_backup some y =
    record {
      silence-past = omega arith;
      beat-past = y.beat-past;
      prospect_past = y.prospect_past;
      silence-young = λ _. omega arith;
      beat-young = λ q. absurd (clash q refl);
      prospect_young = λ q. absurd (clash (ap is_beating q) refl);
    }

young-entered : {p : Period} {t : ℕ} (s : Server) {e : Event} → 1 ≤ p.frames → IsEntered e → Young p t s → Young p t (after t s e)
unfolding after is_active
young-entered s some nothing y = y
young-entered s some backs y = young_backup some y
young-entered s some syncs y = young-still y refl
young-entered s some idles y = young-still y refl
young-entered s some downs y = young-still y refl
young-entered s some passes y = young_backup some y

length-links : (v : Verb) (k : ℕ) (l : List Bool) → length (links_after v k l) ≡ length l
length-links Start k l = refl
length-links Ready k l = refl
length-links Unready k l = refl
length-links Pass k l = refl
length-links Crash k l = refl
length-links Restart k l = refl
length-links Cut k l = length-set l k false
length-links Mend k l = length-set l k true

-- whoever beats has not passed
Unpassed : Server → Type 0
Unpassed s = is_beating s.role ≡ true → s.pass ≡ 0

unpassed-entered : (t : ℕ) (s : Server) {e : Event} → IsEntered e → Unpassed s → Unpassed (after t s e)
unfolding after Unpassed is_beating
unpassed-entered t s nothing u = u
unpassed-entered t s backs u = λ b. absurd (clash b refl)
unpassed-entered t s syncs u = λ b. absurd (clash b refl)
unpassed-entered t s idles u = λ b. absurd (clash b refl)
unpassed-entered t s downs u = λ b. absurd (clash b refl)
unpassed-entered t s passes u = λ b. absurd (clash b refl)

-- a place after a verb: as it was, or that of a server whose timers are young
Moved : Period → ℕ → Server → Server → Type 0
Moved p t s m = (m ≡ s) ⊎ ((s.identity ≡ 0 → ⊥) × (rank_of m ≡ rank_of s) × Young p t m × Unpassed m)

module _ (c : State) (sound : Sound c) (v : Verb) (a b : ℕ) where
  moves : (i : ℕ) → i < 16 → Moved c.period c.frame (place c i) (place (did c v a b) i)
  unfolding did Moved after Unpassed
  moves i l =
      on (set_cases c.servers (place_of c a) (after c.frame (place c (place_of c a)) (happens c v a b)) i absent)
      (λ e. inl e)
      (λ r.
      let e : place (did c v a b) i ≡ after c.frame (place c i) (verb_happens v b (verb_answer v b (place c i))) =
      r.1 ∙ ap (λ (k : ℕ). after c.frame (place c k) (verb_happens v b (verb_answer v b (place c k)))) r.0 in
      on (equal (place c i).identity 0)
      (λ z. inl (e ∙ ap (after c.frame (place c i)) (absent-still v b (place c i) z)))
      (λ z.
      inr (
        z,
        ap rank_of e ∙ rank-after c.frame (place c i) (verb_happens v b (verb_answer v b (place c i))),
        subst (Young c.period c.frame) (sym e) (young-entered (place c i) sound.period (happens-entered v b (verb_answer v b (place c i))) (sound.young i l)),
        subst Unpassed (sym e) (unpassed-entered c.frame (place c i) (happens-entered v b (verb_answer v b (place c i))) (sound.unpassed i l)),
      )))

  pub identity-did : (i : ℕ) → i < 16 → (place (did c v a b) i).identity ≡ (place c i).identity
  unfolding Moved
  identity-did i l = on (moves i l) (λ e. ap (λ (m : Server). m.identity) e) (λ r. ap (λ (x : Rank). x.identity) r.1)

  pub sound-did : Sound (did c v a b)
  unfolding Moved did Unpassed
  sound-did =
      record {
        long = long;
        linked = length-links v (link_of (place_of c a) (place_of c b)) c.whole ∙ sound.linked;
        period = period;
        young = young;
        seated = λ i l e z.
            on (moves i l)
            (λ q. sound.seated i l (sym (ap (λ (m : Server). is_active m.role) q) ∙ e) (sym (identity-did i l) ∙ z))
            (λ q. q.0 (sym (identity-did i l) ∙ z));
        silent = λ i l z.
            on (moves i l)
            (λ q. ap sent_any q ∙ sound.silent i l (sym (identity-did i l) ∙ z))
            (λ q. absurd (q.0 (sym (identity-did i l) ∙ z)));
        unpassed = λ i l f.
            on (moves i l)
            (λ q. ap (λ (m : Server). m.pass) q ∙ sound.unpassed i l (sym (ap (λ (m : Server). is_beating m.role) q) ∙ f))
            (λ q. q.3 f);
        apart = λ i j h l d z e. sound.apart i j h l d (λ q. z (identity-did i h ∙ q)) (sym (identity-did i h) ∙ e ∙ identity-did j l);
        fits = fits;
      }
    where
      long : length (did c v a b).servers ≡ 16
      long = length-set c.servers (place_of c a) _ ∙ sound.long

      period : 1 ≤ (did c v a b).period.frames
      period = sound.period

      young : (i : ℕ) → i < 16 → Young (did c v a b).period (did c v a b).frame (place (did c v a b) i)
      young i l =
          on (moves i l)
          (λ q. subst (Young c.period c.frame) (sym q) (sound.young i l))
          (λ q. q.2)

      fits : count_below (seated_in (did c v a b)) 16 ≤ (did c v a b).period.frames
      fits =
          let m = count_le (seated_in (did c v a b)) (seated_in c) 16 (λ i h e. sym (ap (λ (x : ℕ). not (eqb x 0)) (identity-did i h)) ∙ e) in
          let g = sound.fits in
          omega arith

-- ---- advances

pub sound-by : (n : ℕ) (c : State) → Sound c → Sound (advanced_by n c)
unfolding advanced_by
sound-by zero c s = s
sound-by (suc n) c s = sound-by n (advanced c) (sound-advanced c s)

-- ---- lists of calls

sound_outcome : (c : State) (k : Call) → Sound c → Sound (outcome_of c k).channel
sound_outcome c (verb v a b d) s = sound-did c s v a b
sound_outcome c (advance d) s = sound-advanced c s
sound_outcome c (advance_to t d) s = sound-by (t - c.frame) c s

-- what a call hands back: what it says, or the same channel
pub handed :
    (c : State) (k : Call) →
    ((number_in (outcome_of c k) (length (slice_of k)) ≡ 0) × (call_channel c k ≡ (outcome_of c k).channel))
    ⊎ ((number_in (outcome_of c k) (length (slice_of k)) ≡ 0 → ⊥) × (call_channel c k ≡ c))
unfolding call_channel channel_in
handed c k =
    on (equal (number_in (outcome_of c k) (length (slice_of k))) 0)
    (λ e. inl (e, chosen c (eq-eqb (number_in (outcome_of c k) (length (slice_of k))) 0 e)))
    (λ e. inr (e, other (outcome_of c k).channel (ne_eqb (number_in (outcome_of c k) (length (slice_of k))) 0 e)))

pub sound-call : (c : State) (k : Call) → Sound c → Sound (call_channel c k)
sound-call c k s =
    on (handed c k)
    (λ r. subst Sound (sym r.1) (sound_outcome c k s))
    (λ r. subst Sound (sym r.1) s)

pub sound-after : (c : State) (ks : List Call) → Sound c → Sound (channel_after c ks)
unfolding channel_after
sound-after c [] s = s
sound-after c (k ∷ ks) s = sound-after (call_channel c k) ks (sound-call c k s)
