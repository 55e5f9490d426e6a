-- A group can play every day: each server hears what its place hears in the channel. Assumes
-- nothing.
use mathlib.Core.Path.{◌≡◌, refl, sym, ap, ap₂, subst, ◌∙◌}
use mathlib.Core.Logic.{◌⊎◌, inl, inr}
use mathlib.Core.List.{List, [], ◌∷◌}
use Prim.Native.Nat.{ℕ, zero, suc, ◌-◌}
use lib.Dec.{ltb, leb}
use Rattle.lists.specs.Choice.{choose}
use Rattle.lists.proofs.Cases.{tested, same_choice, on}
use Rattle.roles.specs.declared.Verb.{Verb}
use Rattle.group.specs.declared.State.{State}
use Rattle.group.specs.Table.{fresh}
use Rattle.group.specs.Hearing.{inbox}
use Rattle.group.specs.Frame.{advanced}
use Rattle.group.specs.Advance.{advanced_by}
use Rattle.group.specs.Calls.{call_channel}
use Rattle.day.specs.Read.{DayLine, wrong, period, server, entry, end, line_read}
use Rattle.day.specs.Day.{last_line}
use Rattle.reached.proofs.Sound.{Sound, sound-advanced}
use Rattle.reached.proofs.Made.{sound-fresh}
use Rattle.reached.proofs.Reached.{sound-by, sound-call}
use Rattle.wiring.specs.Heard.{Group, Heard}
use Rattle.wiring.specs.Group as group
use Rattle.wiring.specs.Group.{MustHear}
use Rattle.wiring.specs.Same.{group_of, call_of}
use Rattle.wiring.specs.Days.{Plays, stays, plays, stops_in, stops_beyond, line_stops, Prints, unended, faults, stops, early, enters, ends_early, ends, CanPrint, DaysCanBePlayed}
use Rattle.wiring.proofs.Inboxes.{inbox-heard}
use Rattle.wiring.proofs.Frames.{framed_is}
use Rattle.wiring.proofs.Moves.{moved-is, new-group}

-- ---- frames

pub record CanPlay (n : ℕ) (c : State) : Type 0 where
  pub lines : List ℕ
  pub plays : Plays n (group_of c) (group_of (advanced_by n c)) lines

can_play : (n : ℕ) (c : State) → Sound c → CanPlay n c
unfolding advanced_by
can_play zero c sound = record { lines = []; plays = stays }
can_play (suc n) c sound =
    let r = can_play n (advanced c) (sound-advanced c sound) in
    let heard : (j : ℕ) → MustHear (group_of c) j → Heard (group_of c) j (inbox c j) = λ j _. inbox-heard c sound j in
    record {
      lines = _;
      plays = plays (inbox c) heard (subst (λ (g : Group). Plays n g (group_of (advanced_by n (advanced c))) r.lines) (sym (framed_is c sound (inbox c) heard)) r.plays);
    }

-- ---- lines

zero_or_more : (n : ℕ) → (n ≡ 0) ⊎ ((m : ℕ) × (n ≡ suc m))
zero_or_more zero = inl refl
zero_or_more (suc n) = inr (n, refl)

-- a line that stops the sheet, or another
module _ (k : ℕ) (c : State) (l : List ℕ) (ls : List (List ℕ)) where
  at-stop : (m : ℕ) → line_stops k (group_of c) (line_read l) ≡ suc m → CanPrint k (group_of c) (l ∷ ls)
  at-stop m e = record { printed = _; prints = stops e }

  -- a line out of its place is one that stops it
  misplaced : (r : DayLine) → line_read l ≡ r → stops_in (group_of c) r ≡ 4 → stops_beyond r ≡ 4 → CanPrint k (group_of c) (l ∷ ls)
  unfolding line_stops
  misplaced r e a b =
      at-stop 3
      (ap (line_stops k (group_of c)) e
      ∙ ap₂ (choose (leb k last_line)) a b
      ∙ same_choice (leb k last_line) 4)

-- one line, where the others can be printed whatever channel is left
module _ (k : ℕ) (c : State) (l : List ℕ) (ls : List (List ℕ)) (sound : Sound c) (rest : (d : State) → Sound d → CanPrint (suc k) (group_of d) ls) where
  entered : (t : ℕ) (v : Verb) (a b : ℕ) → line_read l ≡ entry t v a b → line_stops k (group_of c) (entry t v a b) ≡ 0 → CanPrint k (group_of c) (l ∷ ls)
  entered t v a b e z =
      on (tested (ltb t c.frame))
      (λ q. record { printed = _; prints = early e z q (rest c sound).prints })
      (λ q.
      let n = t - c.frame in
      let d = advanced_by n c in
      let there = sound-by n c sound in
      let call = call_of d (group.entry v a b) in
      let more = rest (call_channel d call) (sound-call d call there) in
      record {
        printed = _;
        prints =
            enters e z q (can_play n c sound).plays
            (subst (λ (g : Group). Prints (suc k) g ls more.printed) (sym (moved-is d (group.entry v a b) there tt)) more.prints);
      })

  ended : (t : ℕ) → line_read l ≡ end t → line_stops k (group_of c) (end t) ≡ 0 → CanPrint k (group_of c) (l ∷ ls)
  ended t e z =
      on (tested (ltb t c.frame))
      (λ q. record { printed = _; prints = ends_early e z q (rest c sound).prints })
      (λ q. record { printed = _; prints = ends e z q (can_play (t - c.frame) c sound).plays })

  line : (r : DayLine) → line_read l ≡ r → CanPrint k (group_of c) (l ∷ ls)
  unfolding stops_in stops_beyond
  line (wrong n) e = record { printed = _; prints = faults e }
  line (period p) e = misplaced k c l ls (period p) e refl refl
  line (server i p) e = misplaced k c l ls (server i p) e refl refl
  line (entry t v a b) e =
      on (zero_or_more (line_stops k (group_of c) (entry t v a b))) (entered t v a b e) (λ m. at-stop k c l ls m.0 (ap (line_stops k (group_of c)) e ∙ m.1))
  line (end t) e =
      on (zero_or_more (line_stops k (group_of c) (end t))) (ended t e) (λ m. at-stop k c l ls m.0 (ap (line_stops k (group_of c)) e ∙ m.1))

can_print : (k : ℕ) (c : State) (ls : List (List ℕ)) → Sound c → CanPrint k (group_of c) ls
can_print k c [] sound = record { printed = _; prints = unended }
can_print k c (l ∷ ls) sound = line k c l ls sound (λ d s. can_print (suc k) d ls s) (line_read l) refl

pub days_can_be_played : DaysCanBePlayed
days_can_be_played s t n k rest d = subst (λ (g : Group). CanPrint k g rest) (sym (new-group t n)) (can_print k (fresh t n) rest (sound-fresh t n d.taken))
