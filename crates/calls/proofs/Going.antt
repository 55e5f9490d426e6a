-- Calls one after the other. Assumes nothing.
use mathlib.Core.Path.{◌≡◌, refl, sym, ap, ap₂, ◌∙◌}
use mathlib.Core.List.{List, [], ◌∷◌, ◌++◌, append_assoc, append-nil}
use Prim.Native.Nat.{ℕ, suc, ◌+◌, ◌*◌, ◌/◌, ◌≤◌, ◌<◌}
use native.Mathlib.Omega.{arith}
use lib.ListN.{length, drop, take, get_or, set, replicate, length-append, length-replicate, length-drop}
use lib.Seq.{drop-cons}
use Rattle.lists.specs.Splice.{splice}
use Rattle.lists.proofs.Splicing.{splice-none, splice-more}
use Rattle.group.specs.declared.State.{State}
use Rattle.channel.specs.declared.Answer.{Answer}
use Rattle.channel.specs.Answers.{state}
use Rattle.group.specs.Calls.{Call, call_number, call_channel, channel_after, numbers_of}
use Rattle.refusal.specs.Answer.{of_verdict}
use Rattle.calls.specs.Encoding.{call_of, calls_of, lesser}
use Rattle.calls.specs.Running.{bytes_after}
use Rattle.calls.specs.Steps.{OneCall, ListRuns}
use Rattle.calls.proofs.Calling.{same_number, same-channel, first-long}
use Rattle.frame.specs.Answers.{verdict_of}

-- two numbers a call
pub how_many : (n : ℕ) (ks : List ℕ) → length (calls_of n ks) ≡ length ks / 2
unfolding calls_of
how_many n [] = omega arith
how_many n (k ∷ []) = omega arith
how_many n (k ∷ m ∷ ks) = omega (arith, how_many n ks)

numbers-long : (c : State) (ks : List Call) → length (numbers_of c ks) ≡ length ks
unfolding numbers_of
numbers-long c [] = refl
numbers-long c (k ∷ ks) = ap suc (numbers-long (call_channel c k) ks)

no_calls : (n : ℕ) (ks : List ℕ) → length ks < 2 → calls_of n ks ≡ []
unfolding calls_of
no_calls n [] h = refl
no_calls n (k ∷ []) h = refl
no_calls n (k ∷ m ∷ ks) h = absurd (omega arith)

no_bytes : (c : State) (d ks : List ℕ) → length ks < 2 → bytes_after c d ks ≡ d
unfolding bytes_after
no_bytes c d [] h = refl
no_bytes c d (k ∷ []) h = refl
no_bytes c d (k ∷ m ∷ ks) h = absurd (omega arith)

-- the calls of ks on c₀, of which k are made: what is left is the rest of all
pub record Going (c₀ : State) (ks d₀ e₀ d e : List ℕ) (c : State) (k : ℕ) : Type 0 where
  pub within : k ≤ length ks / 2
  pub room : length d ≡ length d₀
  pub channel : channel_after c (calls_of (length d₀) (drop (2 * k) ks)) ≡ channel_after c₀ (calls_of (length d₀) ks)
  pub bytes : bytes_after c d (drop (2 * k) ks) ≡ bytes_after c₀ d₀ ks
  pub done : List ℕ
  pub written : e ≡ splice e₀ 0 done
  pub long : length done ≡ k
  pub numbers : done ++ numbers_of c (calls_of (length d₀) (drop (2 * k) ks)) ≡ numbers_of c₀ (calls_of (length d₀) ks)

module _ {c₀ : State} {ks d₀ e₀ : List ℕ} where
  pub go-begin : Going c₀ ks d₀ e₀ d₀ e₀ c₀ 0
  go-begin =
      record {
        within = omega arith;
        room = refl;
        channel = refl;
        bytes = refl;
        done = [];
        written = sym (splice-none e₀ 0);
        long = refl;
        numbers = refl;
      }

  pub go-turn :
      {d e : List ℕ} {c : State} {k n : ℕ} {r : Answer} {d' : List ℕ} → Going c₀ ks d₀ e₀ d e c k → k < length ks / 2 → length ks / 2 ≤ length e₀ →
      length d' ≡ length d → OneCall c (get_or ks (2 * k) 0) (get_or ks (2 * k + 1) 0) d r d' → n ≡ of_verdict (verdict_of r.written) →
      Going c₀ ks d₀ e₀ d' (set e k n) (state r.channel) (k + 1)
  unfolding calls_of channel_after numbers_of bytes_after
  go-turn {d} {e} {c} {k} {n} {r} {d'} v h fits same p q =
      let i = 2 * k in
      let a = get_or ks i 0 in
      let m = get_or ks (i + 1) 0 in
      let after : 2 * (k + 1) ≡ i + 2 = omega arith in
      let opened : drop i ks ≡ a ∷ m ∷ drop (i + 2) ks =
      drop-cons ks i 0 (omega arith) ∙ ap (λ (l : List ℕ). a ∷ l) (next i (omega arith))
      in
      let call = call_of a (replicate (lesser m (length d₀)) 0) in
      let blank : List ℕ = replicate (lesser m (length d₀)) 0 in
      let alike : length (take m d) ≡ length blank =
      first-long m d ∙ ap (lesser m) v.room ∙ sym (length-replicate (lesser m (length d₀)) 0)
      in
      let there : state r.channel ≡ call_channel c call = p.channel ∙ same-channel c a (take m d) (replicate (lesser m (length d₀)) 0) alike in
      let gets : n ≡ call_number c call = q ∙ p.number ∙ same_number c a (take m d) (replicate (lesser m (length d₀)) 0) alike in
      record {
        within = omega arith;
        room = same ∙ v.room;
        channel =
            rw after
            (ap (λ (x : State). channel_after x (calls_of (length d₀) (drop (i + 2) ks))) there
            ∙ sym (ap (λ (l : List ℕ). channel_after c (calls_of (length d₀) l)) opened)
            ∙ v.channel);
        bytes =
            rw after
            (ap₂ (λ (x : State) (y : List ℕ). bytes_after x y (drop (i + 2) ks)) p.channel p.slice
            ∙ sym (ap (bytes_after c d) opened)
            ∙ v.bytes);
        done = v.done ++ (n ∷ []);
        written =
            ap (λ (x : List ℕ). set x k n) v.written ∙ ap (λ (x : ℕ). set (splice e₀ 0 v.done) x n) (let z : k ≡ 0 + length v.done = omega (arith, v.long) in z)
            ∙ splice-more e₀ 0 v.done n (omega (arith, v.long));
        long = length-append v.done (n ∷ []) ∙ ap (λ (x : ℕ). x + 1) v.long;
        numbers =
            rw after
            (append_assoc v.done (n ∷ []) _
            ∙ ap (λ (l : List ℕ). v.done ++ l)
            (ap₂ (λ (x : ℕ) (y : State). x ∷ numbers_of y (calls_of (length d₀) (drop (i + 2) ks))) gets there
            ∙ sym (ap (λ (l : List ℕ). numbers_of c (calls_of (length d₀) l)) opened))
            ∙ v.numbers);
      }
    where
      next : (i : ℕ) → i + 1 < length ks → drop (suc i) ks ≡ get_or ks (i + 1) 0 ∷ drop (i + 2) ks
      next i g =
          ap (λ (x : ℕ). drop x ks) (let z : suc i ≡ i + 1 = omega arith in z) ∙ drop-cons ks (i + 1) 0 g
          ∙ ap (λ (x : ℕ). get_or ks (i + 1) 0 ∷ drop x ks) (let z : suc (i + 1) ≡ i + 2 = omega arith in z)

  pub go-end : {d e : List ℕ} {c : State} {k : ℕ} → Going c₀ ks d₀ e₀ d e c k → length ks / 2 ≤ k → ListRuns c₀ ks d₀ e₀ c d e
  unfolding channel_after numbers_of
  go-end {d} {e} {c} {k} v h =
      let i = 2 * k in
      let few : length (drop i ks) < 2 = omega (arith, length-drop i ks) in
      let none = no_calls (length d₀) (drop i ks) few in
      record {
        channel = sym (ap (channel_after c) none) ∙ v.channel;
        numbers = v.written ∙ ap (splice e₀ 0) (sym (append-nil v.done) ∙ sym (ap (λ (l : List Call). v.done ++ numbers_of c l) none) ∙ v.numbers);
        bytes = sym (no_bytes c d (drop i ks) few) ∙ v.bytes;
      }
