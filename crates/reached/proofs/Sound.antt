-- Sound channels: what holds of every channel that calls reach, and what a frame keeps of it.
-- Assumes nothing.
use mathlib.Core.Bool.{Bool, true, false, not}
use mathlib.Core.Path.{◌≡◌, refl, sym, ap, subst, ◌∙◌}
use Prim.Native.Nat.{ℕ, ◌+◌, ◌<◌, ◌≤◌}
use native.Mathlib.Omega.{arith}
use borrow.Author.Tests.{eqb-false, not-true}
use lib.Dec.{eqb}
use lib.ListN.{length}
use Rattle.lists.specs.Choice.{choose}
use Rattle.lists.specs.Lists.{count_below}
use Rattle.lists.proofs.Cases.{tested, fst_true, on, clash}
use Rattle.lists.proofs.Counting.{count_le}
use Rattle.heartbeat.specs.declared.Rank.{Rank}
use Rattle.server.specs.declared.Server.{Server}
use Rattle.server.specs.Server.{rank_of, cleared, sent_any}
use Rattle.server.specs.Timers.{timed}
use Rattle.group.specs.declared.State.{State}
use Rattle.group.specs.Hearing.{place, whole, hears_from, inbox}
use Rattle.server.specs.Hearing.{heard_all}
use Rattle.group.specs.Frame.{hearing, turned, advanced}
use Rattle.group.specs.Laws.{SendersDiffer}
use Rattle.group.proofs.Laws.{rank-heard, rank-ticked}
use Rattle.roles.specs.Roles.{is_active, is_beating}
use Rattle.group.proofs.Places.{place-advanced, long-advanced}
use Rattle.group.proofs.Next.{Apart}
use Rattle.group.proofs.Heard.{apart-heard}
use Rattle.group.proofs.Inbox.{Falls, inbox-falls}
use Rattle.reached.proofs.Heard.{rest_all}
use Rattle.reached.proofs.Young.{Young, due-next, due-heard}
use Rattle.reached.proofs.Ticks.{ticks-rest}
use Rattle.reached.proofs.Kept.{young-ticked, pass-heard, pass-ticked, active-heard, active-ticked, RevealerBeats, revealer-heard, revealer-ticked}

-- a server stands in the place
abbrev pub seated_in : State → ℕ → Bool
seated_in c i = not (eqb (place c i).identity 0)

pub record Sound (c : State) : Type 0 where
  pub long : length c.servers ≡ 16
  pub linked : length c.whole ≡ 256
  pub period : 1 ≤ c.period.frames
  pub young : (i : ℕ) → i < 16 → Young c.period c.frame (place c i)
  -- an empty place is not active and sends nothing
  pub seated : (i : ℕ) → i < 16 → is_active (place c i).role ≡ true → (place c i).identity ≡ 0 → ⊥
  pub silent : (i : ℕ) → i < 16 → (place c i).identity ≡ 0 → sent_any (place c i) ≡ false
  -- whoever beats has not passed in this frame
  pub unpassed : (i : ℕ) → i < 16 → is_beating (place c i).role ≡ true → (place c i).pass ≡ 0
  -- no identity stands twice
  pub apart : (i j : ℕ) → i < 16 → j < 16 → (i ≡ j → ⊥) → ((place c i).identity ≡ 0 → ⊥) → (place c i).identity ≡ (place c j).identity → ⊥
  -- the period has a frame for each server
  pub fits : count_below (seated_in c) 16 ≤ c.period.frames

-- nobody passed in this frame
abbrev pub NoPass : State → Type 0
NoPass c = (i : ℕ) → i < 16 → (place c i).pass ≡ 0

-- all links are whole
abbrev pub AllWhole : State → Type 0
AllWhole c = (i j : ℕ) → i < 16 → j < 16 → whole c i j ≡ true

-- a server that is cleared has sent nothing
pub nothing-sent : (s : Server) → sent_any (cleared s) ≡ false
unfolding sent_any choose
nothing-sent s = refl

module _ (c : State) (sound : Sound c) where
  abbrev pub now : ℕ
  now = c.frame + 1

  -- a place in the next frame
  pub turn : (i : ℕ) → i < 16 → place (advanced c) i ≡ (timed now c.period (heard_all now (cleared (place c i)) (inbox c i))).server
  unfolding turned hearing
  turn i h = place-advanced c i (let e = sound.long in omega arith)

  pub rank-kept : (i : ℕ) → i < 16 → rank_of (place (advanced c) i) ≡ rank_of (place c i)
  rank-kept i h =
      ap rank_of (turn i h)
      ∙ rank-ticked c.period now (heard_all now (cleared (place c i)) (inbox c i))
      ∙ rank-heard now (cleared (place c i)) (inbox c i)

  pub identity-kept : (i : ℕ) → i < 16 → (place (advanced c) i).identity ≡ (place c i).identity
  identity-kept i h = ap (λ (r : Rank). r.identity) (rank-kept i h)

  -- a server that is not active rests
  pub rests : (i : ℕ) → i < 16 → is_active (place c i).role ≡ false → place (advanced c) i ≡ cleared (place c i)
  rests i h a =
      turn i h
      ∙ ap (λ (m : Server). (timed now c.period m).server) (rest_all now (cleared (place c i)) (inbox c i) a)
      ∙ ticks-rest c.period now (cleared (place c i)) a

  pub active-kept : (i : ℕ) → i < 16 → is_active (place (advanced c) i).role ≡ is_active (place c i).role
  active-kept i h =
      on (tested (is_active (place c i).role))
      (λ a.
      ap (λ (m : Server). is_active m.role) (turn i h)
      ∙ active-ticked c.period now sound.period _ (active-heard now (cleared (place c i)) (inbox c i) a)
      ∙ sym a)
      (λ a. ap (λ (m : Server). is_active m.role) (rests i h a))

  -- the servers that sent have different ranks
  pub senders-differ : SendersDiffer c
  senders-differ a b la lb d p q e =
      sound.apart a b la lb d (λ z. clash p (sound.silent a la z)) (ap (λ (r : Rank). r.identity) e)

  pub hears-apart : (j : ℕ) → Apart c j
  hears-apart j = apart-heard c senders-differ j

  -- of an active hearer, they are not its own
  pub hears-falls : (j : ℕ) → j < 16 → is_active (place c j).role ≡ true → Falls (cleared (place c j)) (inbox c j)
  unfolding hears_from
  hears-falls j h a =
      let f =
      inbox-falls c j (hears-apart j)
      (λ i l p e.
      sound.apart j i h l
      (λ z. eqb-false i j (not-true (eqb i j) (fst_true (not (eqb i j)) _ p)) (sym z))
      (sound.seated j h a)
      (sym e)) in
      record { upper = f.upper; under = f.under; parts = f.parts; highers = f.highers; lowers = f.lowers }

  pub no_pass : NoPass (advanced c)
  no_pass i h =
      ap (λ (m : Server). m.pass) (turn i h)
      ∙ pass-ticked c.period now sound.period _ (pass-heard now (cleared (place c i)) (inbox c i))

  -- whoever reveals in the next frame beats at its end
  pub revealer : (i : ℕ) → i < 16 → RevealerBeats (place (advanced c) i)
  revealer i h =
      on (tested (is_active (place c i).role))
      (λ a.
      subst RevealerBeats (sym (turn i h))
      (revealer-ticked c.period now sound.period _ (revealer-heard now (cleared (place c i)) (inbox c i) (hears-falls i h a) refl)))
      (λ a. subst RevealerBeats (sym (rests i h a)) (λ q. absurd (clash q refl)))

  pub sound-advanced : Sound (advanced c)
  unfolding advanced
  sound-advanced =
      record {
        long = long-advanced c ∙ sound.long;
        linked = sound.linked;
        period = sound.period;
        young = λ i h.
            subst (Young c.period now) (sym (turn i h))
            (young-ticked c.period now sound.period _ (due-heard c.period now (cleared (place c i)) (inbox c i) (due-next (sound.young i h))));
        seated = λ i h a z. sound.seated i h (sym (active-kept i h) ∙ a) (sym (identity-kept i h) ∙ z);
        silent = λ i h z.
            on (tested (is_active (place c i).role))
            (λ a. absurd (sound.seated i h a (sym (identity-kept i h) ∙ z)))
            (λ a. ap sent_any (rests i h a) ∙ nothing-sent (place c i));
        unpassed = λ i h b. no_pass i h;
        apart = λ i j h l d z e. sound.apart i j h l d (λ q. z (identity-kept i h ∙ q)) (sym (identity-kept i h) ∙ e ∙ identity-kept j l);
        fits =
            let m =
            count_le (seated_in (advanced c)) (seated_in c) 16 (λ i h e. sym (ap (λ (x : ℕ). not (eqb x 0)) (identity-kept i h)) ∙ e) in
            let g = sound.fits in
            omega arith;
      }
