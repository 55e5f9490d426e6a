-- Demand 3 of single calls: a chain of them is a list of calls. Assumes nothing.
use mathlib.Core.Bool.{Bool, true, false, not, ◌&&◌}
use mathlib.Core.Path.{◌≡◌, refl, sym, ap, ap₂, subst, ◌∙◌}
use mathlib.Core.List.{List, [], ◌∷◌, map}
use Prim.Native.Nat.{ℕ, zero, suc, ◌+◌}
use native.Mathlib.Omega.{arith}
use lib.Dec.{eqb}
use Rattle.lists.specs.Choice.{choose}
use Rattle.group.specs.declared.Table.{Table}
use Rattle.group.specs.declared.State.{State}
use Rattle.group.specs.Table.{fresh_refusal, fresh}
use Rattle.group.specs.Frame.{advanced}
use Rattle.group.specs.Calls.{Call, call_number, call_channel, channel_after, numbers_of}
use Rattle.group.specs.Links.{cut_by_call, cut_after}
use Rattle.reached.proofs.Run.{runs}
use Rattle.settling.specs.Demand.{is_verb, refused_if_verb, verbs_refused, settling_time, InThoseRoles, NoneProspectOrPrimary, Led, Settles}
use Rattle.settling.specs.Chains.{Chain, none, next, cut_by, verbs_refused_by, ChainSettles, ChainsSettle}
use Rattle.settling.proofs.Demand.{frames-only, settles}

-- m frames on, the frame is m more
frame-runs : (m : ℕ) (c : State) → (runs m c).frame ≡ c.frame + m
unfolding runs advanced
frame-runs zero c = omega arith
frame-runs (suc m) c = let e = frame-runs m c in omega arith

-- the frame after c, if that is where the calls end
pub one-frame : (c : State) (ls : List Call) → verbs_refused c ls ≡ true → (channel_after c ls).frame ≡ c.frame + 1 → channel_after c ls ≡ advanced c
unfolding runs
one-frame c ls e f =
    let r = frames-only c ls e in
    let g : r.0 ≡ 1 = omega (arith, sym (ap (λ (d : State). d.frame) r.1) ∙ f, frame-runs r.0 c) in
    r.1 ∙ ap (λ (m : ℕ). runs m c) g

-- what every call keeps (`Good`), and what it gets and hands back by the definitions
module _ {X K : Type 0} (Called : X → K → ℕ → X → Type 0) (state_of : X → State) (call_of : K → Call) (Good : X → Type 0)
    (follows : (x : X) (k : K) (n : ℕ) (y : X) → Good x → Called x k n y → Good y × ((n ≡ call_number (state_of x) (call_of k)) × (state_of y ≡ call_channel (state_of x) (call_of k)))) where
  abbrev calls : List K → List Call
  calls ks = map call_of ks

  -- a chain is the list of its calls
  numbers : {x y : X} {ks : List K} {ns : List ℕ} → Good x → Chain Called state_of call_of x ks ns y → ns ≡ numbers_of (state_of x) (calls ks)
  unfolding numbers_of
  numbers g none = refl
  numbers g (next {x} {y} {z} {k} {n} {ks} {ns} c r) =
      let f = follows x k n y g c in
      ap₂ (λ (m : ℕ) (ms : List ℕ). m ∷ ms) f.1.0 (numbers f.0 r ∙ ap (λ (d : State). numbers_of d (calls ks)) f.1.1)

  channels : {x y : X} {ks : List K} {ns : List ℕ} → Good x → Chain Called state_of call_of x ks ns y → Good y × (state_of y ≡ channel_after (state_of x) (calls ks))
  unfolding channel_after
  channels g none = (g, refl)
  channels g (next {x} {y} {z} {k} {n} {ks} {ns} c r) =
      let f = follows x k n y g c in
      let q = channels f.0 r in
      (q.0, q.1 ∙ ap (λ (d : State). channel_after d (calls ks)) f.1.1)

  cuts : (a b : ℕ) (c : State) (ks : List K) (was : Bool) → cut_by Called state_of call_of a b ks (numbers_of c (calls ks)) was ≡ cut_after a b c (calls ks) was
  unfolding cut_by cut_after numbers_of
  cuts a b c [] was = refl
  cuts a b c (k ∷ ks) was = cuts a b (call_channel c (call_of k)) ks (choose (eqb (call_number c (call_of k)) 0) (cut_by_call a b (call_of k) was) was)

  verbs : (c : State) (ks : List K) → verbs_refused_by Called state_of call_of ks (numbers_of c (calls ks)) ≡ verbs_refused c (calls ks)
  unfolding verbs_refused_by verbs_refused numbers_of
  verbs c [] = refl
  verbs c (k ∷ ks) = ap (λ (t : Bool). refused_if_verb c (call_of k) && t) (verbs (call_channel c (call_of k)) ks)

  -- of a settled channel
  module _ (w : ℕ) (x : X) (g : Good x) (s : Settles w (state_of x)) where
    refused : {y : X} {ls : List K} {ns : List ℕ} → Chain Called state_of call_of x ls ns y → verbs_refused_by Called state_of call_of ls ns ≡ true → verbs_refused (state_of x) (calls ls) ≡ true
    refused {y} {ls} {ns} c e = sym (verbs (state_of x) ls) ∙ ap (verbs_refused_by Called state_of call_of ls) (sym (numbers g c)) ∙ e

    chain-settles : ChainSettles Called state_of call_of w x
    chain-settles =
        record {
          server = s.server;
          known = s.known;
          seated = s.seated;
          was = s.was;
          led = λ ls ns y c e late.
              let q = (channels g c).1 in
              subst (Led (state_of x) s.server) (sym q) (s.led (calls ls) (refused c e) (omega (arith, late, ap (λ (d : State). d.frame) q)));
          within = s.within;
          next = λ ls ns y c e f.
              let q = (channels g c).1 in
              q ∙ one-frame (state_of x) (calls ls) (refused c e) (sym (ap (λ (d : State). d.frame) q) ∙ f);
          highest = s.highest;
        }

  -- from a fresh channel on
  pub chains_settle : (t : Table) (n : ℕ) (x : X) → Good x → fresh_refusal t n ≡ 0 → state_of x ≡ fresh t n → ChainsSettle Called state_of call_of n x
  chains_settle t n x g ok is ks ns y c uncut i l active =
      let q = channels g c in
      let r : state_of y ≡ channel_after (fresh t n) (calls ks) = q.1 ∙ ap (λ (d : State). channel_after d (calls ks)) is in
      let ms : ns ≡ numbers_of (fresh t n) (calls ks) = numbers g c ∙ ap (λ (d : State). numbers_of d (calls ks)) is in
      let none-cut : (a b : ℕ) → cut_after a b (fresh t n) (calls ks) false ≡ false = λ a b. sym (cuts a b (fresh t n) ks false) ∙ ap (λ (m : List ℕ). cut_by Called state_of call_of a b ks m false) (sym ms) ∙ uncut a b in
      chain-settles (settling_time n) y q.0
      (subst (Settles (settling_time n)) (sym r) (settles n t (calls ks) ok none-cut i l (subst (λ (d : State). InThoseRoles d i) r active)))
