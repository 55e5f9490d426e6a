-- The examples of specs/Examples.antt: what the crate reached computed of their lists, and no link
-- is cut. Assumes nothing.
use mathlib.Core.Bool.{Bool, true, false, not, ◌&&◌}
use mathlib.Core.Path.{◌≡◌, refl, sym, ap, ◌∙◌}
use mathlib.Core.List.{List, [], ◌∷◌}
use Prim.Native.Nat.{ℕ}
use borrow.Author.Tests.{eqb-true, not-true}
use lib.Dec.{eqb}
use Rattle.lists.specs.Choice.{choose}
use Rattle.lists.specs.Lists.{same}
use Rattle.lists.proofs.Cases.{tested, other, fst_true, snd_true, on, same_choice}
use Rattle.lists.proofs.SameLoop.{same-equal}
use Rattle.heartbeat.specs.declared.Rank.{Rank}
use Rattle.roles.specs.declared.Verb.TheVariants.{Start, Ready, Unready, Pass, Crash, Restart, Cut, Mend}
use Rattle.periods.specs.Period.{take_period}
use Rattle.group.specs.declared.State.{State}
use Rattle.group.specs.Table.{place_in, stands_before, enter, anew, is_new, follows, rises, is_table, add_refusal, added, with_servers, table_of, fresh_refusal}
use Rattle.group.specs.Frame.{advanced}
use Rattle.group.specs.Calls.{Call, verb, advance, advance_to, call_number, call_channel, channel_after}
use Rattle.reached.proofs.Worked.{says, computed}
use Rattle.group.specs.Links.{cut_by_call, cut_after, NoLinkCut}
use Rattle.settling.specs.Examples.{three_highest, two_highest, roles_of, lent, all_ready, late_ready, lower_beats, slowest, passing, two_primaries, opened, Example, Examples}

-- ---- links that a list does not touch stay as they were

touches : ℕ → ℕ → Call → Bool
touches a b (verb Start x y d) = false
touches a b (verb Ready x y d) = false
touches a b (verb Unready x y d) = false
touches a b (verb Pass x y d) = false
touches a b (verb Crash x y d) = false
touches a b (verb Restart x y d) = false
touches a b (verb Cut x y d) = eqb x a && eqb y b
touches a b (verb Mend x y d) = eqb x a && eqb y b
touches a b (advance d) = false
touches a b (advance_to t d) = false

untouched-one : (a b : ℕ) (k : Call) (was : Bool) → touches a b k ≡ false → cut_by_call a b k was ≡ was
unfolding touches cut_by_call
untouched-one a b (verb Start x y d) was e = same_choice (eqb x a && eqb y b) was
untouched-one a b (verb Ready x y d) was e = same_choice (eqb x a && eqb y b) was
untouched-one a b (verb Unready x y d) was e = same_choice (eqb x a && eqb y b) was
untouched-one a b (verb Pass x y d) was e = same_choice (eqb x a && eqb y b) was
untouched-one a b (verb Crash x y d) was e = same_choice (eqb x a && eqb y b) was
untouched-one a b (verb Restart x y d) was e = same_choice (eqb x a && eqb y b) was
untouched-one a b (verb Cut x y d) was e = other true e
untouched-one a b (verb Mend x y d) was e = other false e
untouched-one a b (advance d) was e = refl
untouched-one a b (advance_to t d) was e = refl

-- none of the list touches the link
data Untouched (a b : ℕ) : List Call → Type 0 where
  none : Untouched a b []
  more : {k : Call} {ks : List Call} → touches a b k ≡ false → Untouched a b ks → Untouched a b (k ∷ ks)

untouched : (a b : ℕ) (c : State) (ks : List Call) (was : Bool) → Untouched a b ks → cut_after a b c ks was ≡ was
unfolding cut_after
untouched a b c [] was none = refl
untouched a b c (k ∷ ks) was (more e u) =
    let d = call_channel c k in
    let same : choose (eqb (call_number c k) 0) (cut_by_call a b k was) was ≡ was =
    ap (λ (x : Bool). choose (eqb (call_number c k) 0) x was) (untouched-one a b k was e) ∙ same_choice (eqb (call_number c k) 0) was in
    ap (cut_after a b d ks) same ∙ untouched a b d ks was u

-- six calls that make the servers ready
ready : {a b : ℕ} {ks : List Call} → Untouched a b ks → Untouched a b (all_ready ks)
unfolding touches
ready u = more refl (more refl (more refl (more refl (more refl (more refl u)))))

-- ---- the lists

example :
    (rs : List Rank) (ks : List Call) (ended next settled : List ℕ) → fresh_refusal (table_of rs) 3 ≡ 0 → says (channel_after (opened rs) ks) ended next settled ≡ true →
    NoLinkCut (opened rs) ks → Example rs ks ended next settled
unfolding says
example rs ks ended next settled taken e u =
    let f = snd_true (eqb (channel_after (opened rs) ks).frame 13) _ e in
    let g = snd_true (same (roles_of (channel_after (opened rs) ks)) ended) _ f in
    record {
      table = taken;
      uncut = u;
      ends = eqb-true _ _ (fst_true (eqb (channel_after (opened rs) ks).frame 13) _ e);
      roles = same-equal _ _ (fst_true _ _ f);
      after = same-equal _ _ (fst_true _ _ g);
      later = same-equal _ _ (snd_true (same (roles_of (advanced (channel_after (opened rs) ks))) next) _ g);
    }

-- a list that cuts and mends the link from 3 to 2, and no other
mended :
    (rs : List Rank) (ks : List Call) → cut_after 3 2 (opened rs) ks false ≡ false → ((a b : ℕ) → (eqb 3 a && eqb 2 b) ≡ false → Untouched a b ks) →
    NoLinkCut (opened rs) ks
mended rs ks e u a b =
    on (tested (eqb 3 a && eqb 2 b))
    (λ t.
    let x = eqb-true 3 a (fst_true (eqb 3 a) (eqb 2 b) t) in
    let y = eqb-true 2 b (snd_true (eqb 3 a) (eqb 2 b) t) in
    ap (λ (n : ℕ). cut_after n b (opened rs) ks false) (sym x) ∙ ap (λ (n : ℕ). cut_after 3 n (opened rs) ks false) (sym y) ∙ e)
    (λ t. untouched a b (opened rs) ks false (u a b t))

taken-three : fresh_refusal (table_of three_highest) 3 ≡ 0
unfolding choose fresh_refusal take_period place_in stands_before enter anew is_new follows rises is_table add_refusal added with_servers
taken-three = refl

taken-two : fresh_refusal (table_of two_highest) 3 ≡ 0
unfolding choose fresh_refusal take_period place_in stands_before enter anew is_new follows rises is_table add_refusal added with_servers
taken-two = refl

pub examples : Examples
unfolding touches
examples =
    let c1 = snd_true (says (channel_after (opened three_highest) lower_beats) (5 ∷ 3 ∷ 3 ∷ []) (5 ∷ 3 ∷ 3 ∷ []) (5 ∷ 3 ∷ 3 ∷ [])) _ computed in
    let c2 = snd_true (says (channel_after (opened three_highest) slowest) (3 ∷ 5 ∷ 3 ∷ []) (3 ∷ 3 ∷ 3 ∷ []) (3 ∷ 3 ∷ 5 ∷ [])) _ c1 in
    let c3 = snd_true (says (channel_after (opened two_highest) late_ready) (3 ∷ 3 ∷ 3 ∷ []) (3 ∷ 3 ∷ 3 ∷ []) (3 ∷ 5 ∷ 3 ∷ [])) _ c2 in
    let c4 = snd_true (says (channel_after (opened three_highest) passing) (3 ∷ 3 ∷ 3 ∷ []) (4 ∷ 3 ∷ 3 ∷ []) (5 ∷ 3 ∷ 3 ∷ [])) _ c3 in
    let c5 = snd_true (says (channel_after (opened three_highest) two_primaries) (3 ∷ 5 ∷ 5 ∷ []) (3 ∷ 3 ∷ 5 ∷ []) (3 ∷ 3 ∷ 5 ∷ [])) _ c4 in
    let c6 = snd_true (same (roles_of (channel_after (channel_after (opened three_highest) slowest) (advance_to 26 lent ∷ []))) (3 ∷ 3 ∷ 4 ∷ [])) _ c5 in
    record {
      lower-beats = example three_highest lower_beats _ _ _ taken-three (fst_true _ _ computed)
          (λ a b. untouched a b (opened three_highest) lower_beats false (more refl (more refl (more refl (more refl (more refl (more refl (more refl none))))))));
      takes_all = example three_highest slowest _ _ _ taken-three (fst_true _ _ c1)
          (mended three_highest slowest (not-true _ (fst_true _ _ c6)) (λ a b t. ready (more refl (more t (more refl (more refl (more t none)))))));
      by-priority = example two_highest late_ready _ _ _ taken-two (fst_true _ _ c2) (λ a b. untouched a b (opened two_highest) late_ready false (more refl (ready none)));
      passes = example three_highest passing _ _ _ taken-three (fst_true _ _ c3) (λ a b. untouched a b (opened three_highest) passing false (ready (more refl (more refl none))));
      two-beat = example three_highest two_primaries _ _ _ taken-three (fst_true _ _ c4)
          (mended three_highest two_primaries (not-true _ (snd_true (not (cut_after 3 2 (opened three_highest) slowest false)) _ c6)) (λ a b t. ready (more refl (more t (more refl (more t none))))));
      needs_all = same-equal _ _ (fst_true _ _ c5);
    }
