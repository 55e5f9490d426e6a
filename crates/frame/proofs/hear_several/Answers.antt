use mathlib.Core.List.{List}
use mathlib.Core.Path.{◌≡◌, refl, sym, ap, subst, ◌∙◌}
use mathlib.Core.Bool.{Bool, true, ◌||◌}
use mathlib.Core.Logic.{◌⊎◌, inl, inr}
use Prim.Native.Nat.{ℕ, ◌-◌}
use borrow.Author.Tests.{leb-true, eqb-true}
use lib.Dec.{eqb}
use lib.ListN.{take}
use Rattle.lists.specs.Lists.{every}
use Rattle.lists.proofs.Cases.{tested, on, fst_true, snd_true}
use Rattle.server.specs.Server.{sent_any}
use Rattle.places.specs.Words.{rank_number}
use Rattle.places.specs.Roles.{is_backup, is_prospect}
use Rattle.frame.specs.Steps.{SenderList, higher_at, heard_of, best_in, Near, next_by}
use Rattle.frame.proofs.Hearings.{turn, finish}
use Rattle.frame.proofs.Heeding.{silent-hears, prospect_is, stays_all, listened_all}
use Rattle.frame.proofs.Lookup.{best_heard, heard-more, heard-none, heard-out}
use Rattle.frame.proofs.hear_several.Goals as goal

-- the next of those that are heard is the next sender
next-is : (s : SenderList) (w : List Bool) (j last i m : ℕ) (near : List ℕ) → Near w j (take s.count s.places) near m → i ≡ best_in s.ranks last 16 (take m near) → i ≡ next_by s w j last
next-is s w j last i m near v e = e ∙ ap (best_in s.ranks last 16) v.these ∙ best_heard s.ranks w j last 16 (take s.count s.places)

-- either of two tests holds
or-true : (x y : Bool) → (x || y) ≡ true → (x ≡ true) ⊎ (y ≡ true)
or-true x y e = on (tested x) (λ t. inl t) (λ f. inr (sym (ap (λ (z : Bool). z || y) f) ∙ e))

pub returns-then-i-ge-SERVERS : goal.returns-then-i-ge-SERVERS
returns-then-i-ge-SERVERS c =
    let a = c.args in
    let l = c.loop in
    finish l.invariant (heard-none (record { places = a.listed.now; ranks = a.ranks.now; sendings = a.sendings.now; count = a.count }) a.whole.now a.j (16 - l.counter) l.last _ (next-is (record { places = a.listed.now; ranks = a.ranks.now; sendings = a.sendings.now; count = a.count }) a.whole.now a.j l.last _ _ _ c.list_heard-m.ensures c.next_sender-i.ensures) c.if-i-ge-SERVERS.true)

pub returns-then-heard_enough : goal.returns-then-heard_enough
returns-then-heard_enough c =
    let a = c.args in
    let l = c.loop in
    let s = l.now in
    let v = c.list_heard-m.ensures in
    let e = c.heard_enough.ensures in
    let own = c.rank_number-own.result in
    let only = c.only_higher-only.result in
    let next = next-is (record { places = a.listed.now; ranks = a.ranks.now; sendings = a.sendings.now; count = a.count }) a.whole.now a.j l.last _ _ _ v c.next_sender-i.ensures in
    l.invariant.goes _ _
    (silent-hears
    (on (or-true _ _ (sym e.0 ∙ c.if-heard_enough.true))
    (λ so.
    stays_all (record { places = a.listed.now; ranks = a.ranks.now; sendings = a.sendings.now; count = a.count }) a.whole.now a.j a.frame s (prospect_is s.role (fst_true (is_prospect s.role) _ so)) (fst_true (sent_any s) _ (snd_true (is_prospect s.role) _ so)) e.1 (16 - l.counter) l.last _ next
    (λ h. leb-true _ _ (snd_true (sent_any s) _ (snd_true (is_prospect s.role) _ so))))
    (λ so.
    let all = sym c.only_higher-only.ensures ∙ fst_true only _ so in
    let is = snd_true only _ so in
    let more = snd_true (is_backup s.role) _ is in
    let rank = eqb-true (rank_number s) own (snd_true (eqb s.silence a.frame) _ more) in
    listened_all (record { places = a.listed.now; ranks = a.ranks.now; sendings = a.sendings.now; count = a.count }) a.whole.now a.j a.frame s (fst_true (is_backup s.role) _ is) (eqb-true s.silence a.frame (fst_true (eqb s.silence a.frame) _ more)) e.1
    (subst (λ (n : ℕ). every (higher_at a.ranks.now a.sendings.now n) (heard_of a.whole.now a.j (take a.count a.listed.now)) ≡ true) (sym rank)
    (subst (λ (p : List ℕ). every (higher_at a.ranks.now a.sendings.now own) p ≡ true) v.these all))
    (16 - l.counter) l.last _ next)))

pub hear_from-t-requires : goal.hear_from-t-requires
hear_from-t-requires c = let v = c.requires.1 in let i = c.if-i-ge-SERVERS.false in (v.ranks _ i, v.sendings _ i)

pub loop-preserved : goal.loop-preserved
loop-preserved c =
    let a = c.args in
    let l = c.loop in
    let h = c.loop-test.true in
    let p = c.hear_from-t in
    turn l.invariant
    (heard-more (record { places = a.listed.now; ranks = a.ranks.now; sendings = a.sendings.now; count = a.count }) a.whole.now a.j l.counter l.last _ h (next-is (record { places = a.listed.now; ranks = a.ranks.now; sendings = a.sendings.now; count = a.count }) a.whole.now a.j l.last _ _ _ c.list_heard-m.ensures c.next_sender-i.ensures) c.if-i-ge-SERVERS.false refl)
    p.auto.out p.ensures

pub returns : goal.returns
returns c =
    let a = c.args in
    let l = c.loop in
    finish l.invariant (heard-out (record { places = a.listed.now; ranks = a.ranks.now; sendings = a.sendings.now; count = a.count }) a.whole.now a.j l.counter l.last c.loop-test.false)
