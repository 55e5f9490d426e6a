-- What the channel's links say is what the last accepted cut or mend of each says. Assumes nothing.
use mathlib.Core.Bool.{Bool, true, false, not, ◌&&◌}
use mathlib.Core.Path.{◌≡◌, refl, sym, ap, ◌∙◌}
use mathlib.Core.List.{List, [], ◌∷◌}
use Prim.Native.Nat.{ℕ, zero, suc, ◌-◌, ◌<◌}
use native.Mathlib.Omega.{arith}
use borrow.Author.Tests.{eq-eqb, ne_eqb, eqb-false, ltb-true, eqb-true}
use lib.Dec.{eqb}
use lib.ListN.{length, get_or, set}
use Rattle.lists.specs.Choice.{choose}
use Rattle.lists.specs.Lists.{index_where}
use Rattle.lists.proofs.Cases.{tested, equal, chosen, other, and_true, and_left, and_right, fst_true, snd_true, on, not_first, same_choice, or_false}
use Rattle.heartbeat.specs.declared.Rank.{Rank}
use Rattle.roles.specs.declared.Verb.{Verb}
use Rattle.roles.specs.declared.Verb.TheVariants.{Start, Ready, Unready, Pass, Crash, Restart, Cut, Mend}
use Rattle.server.specs.declared.Server.{Server}
use Rattle.server.specs.Server.{absent}
use Rattle.roles.specs.Verbs.{paired}
use Rattle.group.specs.declared.State.{State}
use Rattle.group.specs.Outcome.{number_in}
use Rattle.group.specs.Table.{most, named, place_in}
use Rattle.group.specs.Hearing.{place, link_of, whole}
use Rattle.group.specs.Frame.{advanced}
use Rattle.group.specs.Verbs.{place_of, in_table, names_nobody, known, state_refusal, verb_refusal, did}
use Rattle.group.specs.Advance.{advanced_by}
use Rattle.group.specs.Calls.{Call, verb, advance, advance_to, outcome_of, slice_of, call_number, call_channel, channel_after}
use Rattle.group.proofs.Laws.{taken, every_call_keeps_the_table}
use Rattle.group.specs.Links.{cut_by_verb, cut_by_call, cut_after}
use Rattle.reached.proofs.Sound.{Sound}
use Rattle.reached.proofs.Reached.{set_cases, handed, sound-call}

set_here : {A : Type 0} (l : List A) (i : ℕ) (x d : A) → i < length l → get_or (set l i x) i d ≡ x
set_here [] i x d h = absurd (omega arith)
set_here (y ∷ l) zero x d h = refl
set_here (y ∷ l) (suc i) x d h = set_here l i x d (omega arith)

set_there : {A : Type 0} (l : List A) (i : ℕ) (x : A) (j : ℕ) (d : A) → (i ≡ j → ⊥) → get_or (set l i x) j d ≡ get_or l j d
set_there l i x j d h = on (set_cases l i x j d) (λ e. e) (λ r. absurd (h r.0))

-- an identity that is found stands at its place
found-there : (i : ℕ) (l : List Server) → index_where (named i) l < length l → (get_or l (index_where (named i) l) absent).identity ≡ i
found-there i [] h = absurd (omega arith)
found-there i (s ∷ l) h =
    on (tested (named i s))
    (λ e.
    let z = chosen {t = named i s} {a = 0} (suc (index_where (named i) l)) e in
    ap (λ (k : ℕ). (get_or (s ∷ l) k absent).identity) z ∙ eqb-true s.identity i (snd_true (not (eqb i 0)) _ e))
    (λ e.
    let z = other {t = named i s} {b = suc (index_where (named i) l)} 0 e in
    ap (λ (k : ℕ). (get_or (s ∷ l) k absent).identity) z ∙ found-there i l (omega (arith, z, h)))

module _ (c : State) (sound : Sound c) where
  in_place_lem : (x : ℕ) → in_table c x ≡ true → (place_of c x < 16) × ((place c (place_of c x)).identity ≡ x)
  unfolding place_in
  in_place_lem x e =
      let l = ltb-true (index_where (named x) c.servers) most e in
      let g = sound.long in
      (l, found-there x c.servers (omega arith))

  -- the place of an identity is the only one that has it
  only-place : (x i : ℕ) → (x ≡ 0 → ⊥) → in_table c x ≡ true → i < 16 → (place_of c x ≡ i → ⊥) → (place c i).identity ≡ x → ⊥
  only-place x i z e l d q =
      let h = in_place_lem x e in
      sound.apart i (place_of c x) l h.0 (λ r. d (sym r)) (λ r. z (sym q ∙ r)) (q ∙ sym h.1)

  -- ---- an accepted verb of two identities

  module _ (x y i j : ℕ) (v : Bool) (x-some : x ≡ 0 → ⊥) (y-some : y ≡ 0 → ⊥) (x-in : in_table c x ≡ true) (y-in : in_table c y ≡ true) (li : i < 16) (lj : j < 16) where
    abbrev k : ℕ
    k = link_of (place_of c x) (place_of c y)

    is-link : ((place c i).identity ≡ x) → ((place c j).identity ≡ y) → k ≡ link_of i j
    is-link e f =
        on (equal (place_of c x) i)
        (λ p.
        on (equal (place_of c y) j)
        (λ q. omega (arith, p, q))
        (λ q. absurd (only-place y j y-some y-in lj q f)))
        (λ p. absurd (only-place x i x-some x-in li p e))

    link-is : k ≡ link_of i j → ((place c i).identity ≡ x) × ((place c j).identity ≡ y)
    link-is e =
        let a = in_place_lem x x-in in
        let b = in_place_lem y y-in in
        let la = a.0 in
        let lb = b.0 in
        let p : place_of c x ≡ i = omega (arith, e, la, lb, li, lj) in
        let q : place_of c y ≡ j = omega (arith, e, la, lb, li, lj) in
        (sym (ap (λ (n : ℕ). (place c n).identity) p) ∙ a.1, sym (ap (λ (n : ℕ). (place c n).identity) q) ∙ b.1)

    -- the links say afterwards what the verb says of this one
    linked_as : (was : Bool) → whole c i j ≡ not was → get_or (set c.whole k (not v)) (link_of i j) false ≡ not (choose (eqb x (place c i).identity && eqb y (place c j).identity) v was)
    linked_as was w =
        on (equal k (link_of i j))
        (λ e.
        let r = link-is e in
        let g = sound.linked in
        ap (λ (n : ℕ). get_or (set c.whole k (not v)) n false) (sym e)
        ∙ set_here c.whole k (not v) false (omega (arith, e, g, li, lj))
        ∙ ap not (sym (chosen was (and_true (eq-eqb x (place c i).identity (sym r.0)) (eq-eqb y (place c j).identity (sym r.1))))))
        (λ e.
        set_there c.whole k (not v) (link_of i j) false e
        ∙ w
        ∙ ap not (sym (other v (unlike e))))
      where
        unlike : (k ≡ link_of i j → ⊥) → (eqb x (place c i).identity && eqb y (place c j).identity) ≡ false
        unlike e =
            on (equal x (place c i).identity)
            (λ p.
            on (equal y (place c j).identity)
            (λ q. absurd (e (is-link (sym p) (sym q))))
            (λ q. and_right (eqb x (place c i).identity) (ne_eqb y (place c j).identity q)))
            (λ p. and_left (eqb y (place c j).identity) (ne_eqb x (place c i).identity p))

  -- ---- a call

  -- an accepted verb of two identities names two of the table
  named-two : (v : Verb) (x y : ℕ) → paired v ≡ true → verb_refusal c v x y ≡ 0 → (x ≡ 0 → ⊥) × (y ≡ 0 → ⊥) × (in_table c x ≡ true) × (in_table c y ≡ true)
  unfolding verb_refusal names_nobody known
  named-two v x y two e =
      let a = not_first (λ (k : ℕ). k ≡ 0) (names_nobody v x y) e (λ z. omega arith) in
      let b = or_false (eqb x 0) (paired v && eqb y 0) a.0 in
      let yz : eqb y 0 ≡ false = sym (ap (λ (t : Bool). t && eqb y 0) two) ∙ b.1 in
      let kn = is_known a.1 in
      let both = snd_true (in_table c x) (choose (paired v) (in_table c y && not (eqb x y)) true) kn in
      let pair = sym (chosen true two) ∙ both in
      (eqb-false x 0 b.0, eqb-false y 0 yz, fst_true (in_table c x) _ kn, fst_true (in_table c y) (not (eqb x y)) pair)
    where
      is_known : choose (known c v x y) (state_refusal c v x y) 8 ≡ 0 → known c v x y ≡ true
      is_known q =
          on (tested (known c v x y))
          (λ t. t)
          (λ t. absurd (let z = sym (other {b = 8} (state_refusal c v x y) t) ∙ q in omega (arith, z)))

  module _ (i j : ℕ) (li : i < 16) (lj : j < 16) (was : Bool) (w : whole c i j ≡ not was) where
    abbrev a : ℕ
    a = (place c i).identity

    abbrev b : ℕ
    b = (place c j).identity

    cut_verb : (v : Verb) (x y : ℕ) → verb_refusal c v x y ≡ 0 → whole (did c v x y) i j ≡ not (choose (eqb x a && eqb y b) (cut_by_verb v was) was)
    unfolding did
    cut_verb Start x y e = w ∙ ap not (sym (same_choice (eqb x a && eqb y b) was))
    cut_verb Ready x y e = w ∙ ap not (sym (same_choice (eqb x a && eqb y b) was))
    cut_verb Unready x y e = w ∙ ap not (sym (same_choice (eqb x a && eqb y b) was))
    cut_verb Pass x y e = w ∙ ap not (sym (same_choice (eqb x a && eqb y b) was))
    cut_verb Crash x y e = w ∙ ap not (sym (same_choice (eqb x a && eqb y b) was))
    cut_verb Restart x y e = w ∙ ap not (sym (same_choice (eqb x a && eqb y b) was))
    cut_verb Cut x y e = let n = named-two Cut x y refl e in linked_as x y i j true n.0 n.1 n.2 n.3 li lj was w
    cut_verb Mend x y e = let n = named-two Mend x y refl e in linked_as x y i j false n.0 n.1 n.2 n.3 li lj was w

    whole_by : (n : ℕ) (d : State) → (advanced_by n d).whole ≡ d.whole
    unfolding advanced_by advanced
    whole_by zero d = refl
    whole_by (suc n) d = whole_by n (advanced d)

    cut_outcome : (k : Call) → (outcome_of c k).number ≡ 0 → whole (outcome_of c k).channel i j ≡ not (cut_by_call a b k was)
    unfolding cut_by_call advanced
    cut_outcome (verb v x y d) e = cut_verb v x y e
    cut_outcome (advance d) e = w
    cut_outcome (advance_to t d) e = ap (λ (l : List Bool). get_or l (link_of i j) false) (whole_by (t - c.frame) c) ∙ w

    pub cut_call : (k : Call) → whole (call_channel c k) i j ≡ not (choose (eqb (call_number c k) 0) (cut_by_call a b k was) was)
    unfolding call_number
    cut_call k =
        let n = number_in (outcome_of c k) (length (slice_of k)) in
        on (handed c k)
        (λ r.
        ap (λ (d : State). whole d i j) r.1
        ∙ cut_outcome k (taken c k r.0).0
        ∙ ap not (sym (chosen was (eq-eqb n 0 r.0))))
        (λ r.
        ap (λ (d : State). whole d i j) r.1 ∙ w ∙ ap not (sym (other (cut_by_call a b k was) (ne_eqb n 0 r.0))))

identity-call : (c : State) (k : Call) (i : ℕ) → (place (call_channel c k) i).identity ≡ (place c i).identity
identity-call c k i = ap (λ (r : Rank). r.identity) ((every_call_keeps_the_table c k).ranks i)

-- after a list of calls
pub links-after :
    (c : State) (ks : List Call) → Sound c → (i j : ℕ) → i < 16 → j < 16 → (was : Bool) → whole c i j ≡ not was →
    whole (channel_after c ks) i j ≡ not (cut_after (place c i).identity (place c j).identity c ks was)
unfolding channel_after cut_after
links-after c [] s i j li lj was w = w
links-after c (k ∷ ks) s i j li lj was w =
    let d = call_channel c k in
    let now = choose (eqb (call_number c k) 0) (cut_by_call (place c i).identity (place c j).identity k was) was in
    links-after d ks (sound-call c k s) i j li lj now (cut_call c s i j li lj was w k)
    ∙ ap (λ (n : ℕ). not (cut_after n (place d j).identity d ks now)) (identity-call c k i)
    ∙ ap (λ (n : ℕ). not (cut_after (place c i).identity n d ks now)) (identity-call c k j)
