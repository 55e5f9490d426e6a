-- One call of a number. Assumes nothing.
use mathlib.Core.Bool.{true, false}
use mathlib.Core.Path.{◌≡◌, sym, ap, ap₂, ◌∙◌}
use mathlib.Core.Logic.{◌⊎◌, ⊎_elim}
use mathlib.Core.List.{List, ◌++◌}
use Prim.Native.Nat.{ℕ, ◌/◌, ◌%◌, ◌≤◌, ◌<◌}
use native.Mathlib.Omega.{arith}
use borrow.Author.Tests.{lt-ltb, le-ltb}
use lib.Dec.{eqb}
use lib.ListN.{length, take, drop, drop_of_length-le}
use lib.Seq.{length-take-le, take_all}
use Rattle.lists.proofs.Cases.{tested, less, chosen, other}
use Rattle.group.specs.declared.State.{State}
use Rattle.channel.specs.declared.Answer.{Answer}
use Rattle.channel.specs.Answers.{state}
use Rattle.group.specs.Outcome.{Outcome, number_in, channel_in, slice_in}
use Rattle.group.specs.Answers.{Gives}
use Rattle.group.specs.Calls.{verb, advance, advance_to, outcome_of, slice_of, call_number, call_channel, call_slice}
use Rattle.calls.specs.Encoding.{verb_at, kinds, identities, times, call_of, lesser}
use Rattle.calls.specs.Steps.{OneCall}
use Rattle.frame.specs.Answers.{verdict_of, bytes_of}

-- ---- which call a number is

module _ (n : ℕ) (d : List ℕ) where
  pub is-verb : n % kinds < 8 → call_of n d ≡ verb (verb_at (n % kinds)) (n / kinds % identities) (n / kinds / identities % identities) d
  unfolding call_of
  is-verb h = chosen _ (lt-ltb _ _ h)

  pub is-advance : 8 ≤ n % kinds → eqb (n % kinds) 8 ≡ true → call_of n d ≡ advance d
  unfolding call_of
  is-advance h e = other _ (le-ltb _ _ h) ∙ chosen _ e

  pub is-to : 8 ≤ n % kinds → eqb (n % kinds) 8 ≡ false → call_of n d ≡ advance_to (n / kinds % times) d
  unfolding call_of
  is-to h e = other _ (le-ltb _ _ h) ∙ other _ e

  -- its slice is the one it is lent, and does not change what it does
  pub its_slice : slice_of (call_of n d) ≡ d
  its_slice =
      ⊎_elim
      (λ h. ap slice_of (is-verb h))
      (λ h. ⊎_elim (λ e. ap slice_of (is-advance h e)) (λ e. ap slice_of (is-to h e)) (tested (eqb (n % kinds) 8)))
      (less (n % kinds) 8)

pub same_outcome : (c : State) (n : ℕ) (d e : List ℕ) → outcome_of c (call_of n d) ≡ outcome_of c (call_of n e)
same_outcome c n d e =
    ⊎_elim
    (λ h. ap (outcome_of c) (is-verb n d h) ∙ sym (ap (outcome_of c) (is-verb n e h)))
    (λ h.
    ⊎_elim
    (λ q. ap (outcome_of c) (is-advance n d h q) ∙ sym (ap (outcome_of c) (is-advance n e h q)))
    (λ q. ap (outcome_of c) (is-to n d h q) ∙ sym (ap (outcome_of c) (is-to n e h q)))
    (tested (eqb (n % kinds) 8)))
    (less (n % kinds) 8)

-- only the length of the slice counts
pub same_number : (c : State) (n : ℕ) (d e : List ℕ) → length d ≡ length e → call_number c (call_of n d) ≡ call_number c (call_of n e)
unfolding call_number
same_number c n d e q =
    ap₂ (λ (o : Outcome) (m : ℕ). number_in o m) (same_outcome c n d e) (ap length (its_slice n d) ∙ q ∙ sym (ap length (its_slice n e)))

pub same-channel : (c : State) (n : ℕ) (d e : List ℕ) → length d ≡ length e → call_channel c (call_of n d) ≡ call_channel c (call_of n e)
unfolding call_channel
same-channel c n d e q =
    ap₂ (λ (o : Outcome) (m : ℕ). channel_in c o m) (same_outcome c n d e) (ap length (its_slice n d) ∙ q ∙ sym (ap length (its_slice n e)))

-- ---- the first bytes of a slice

module _ (m : ℕ) (d : List ℕ) where
  pub first-bytes : take (lesser m (length d)) d ≡ take m d
  first-bytes =
      ⊎_elim
      (λ h. ap (λ (k : ℕ). take k d) (chosen _ (lt-ltb _ _ h)))
      (λ h. ap (λ (k : ℕ). take k d) (other _ (le-ltb _ _ h)) ∙ take_all (length d) d (omega arith) ∙ sym (take_all m d h))
      (less m (length d))

  pub last-bytes : drop (lesser m (length d)) d ≡ drop m d
  last-bytes =
      ⊎_elim
      (λ h. ap (λ (k : ℕ). drop k d) (chosen _ (lt-ltb _ _ h)))
      (λ h. ap (λ (k : ℕ). drop k d) (other _ (le-ltb _ _ h)) ∙ drop_of_length-le d (let g : length d ≤ length d = omega arith in g) ∙ sym (drop_of_length-le d h))
      (less m (length d))

  pub lesser-fits : lesser m (length d) ≤ length d
  lesser-fits =
      ⊎_elim (λ h. let e = chosen {a = m} (length d) (lt-ltb m (length d) h) in omega arith) (λ h. let e = other {b = length d} m (le-ltb m (length d) h) in omega arith)
      (less m (length d))

  pub first-long : length (take m d) ≡ lesser m (length d)
  first-long = ap length (sym first-bytes) ∙ length-take-le (lesser m (length d)) d lesser-fits

-- ---- the answer of a call

pub one-call :
    (c : State) (k m : ℕ) (d : List ℕ) {e : ℕ} {r : Answer} {s d' : List ℕ} → e ≡ lesser m (length d) →
    Gives c (outcome_of c (call_of k (take e d))) (take e d) (verdict_of r.written) (bytes_of r.written) (state r.channel) s → d' ≡ s ++ drop e d → OneCall c k m d r d'
unfolding call_number call_channel call_slice
one-call c k m d {e} {r} {s} {d'} q p f =
    let these : take e d ≡ take m d = ap (λ (n : ℕ). take n d) q ∙ first-bytes m d in
    let those : drop e d ≡ drop m d = ap (λ (n : ℕ). drop n d) q ∙ last-bytes m d in
    let lent = its_slice k (take e d) in
    record {
      number = p.number ∙ ap (λ (x : List ℕ). number_in (outcome_of c (call_of k (take e d))) (length x)) (sym lent) ∙ ap (λ (x : List ℕ). call_number c (call_of k x)) these;
      channel = p.channel ∙ ap (λ (x : List ℕ). channel_in c (outcome_of c (call_of k (take e d))) (length x)) (sym lent) ∙ ap (λ (x : List ℕ). call_channel c (call_of k x)) these;
      slice =
          f
          ∙ ap₂ (λ (x y : List ℕ). x ++ y)
          (p.slice ∙ ap (slice_in (outcome_of c (call_of k (take e d)))) (sym lent) ∙ ap (λ (x : List ℕ). call_slice c (call_of k x)) these) those;
    }
