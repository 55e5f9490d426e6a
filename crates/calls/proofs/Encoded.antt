-- Every list of calls has an encoding. Assumes nothing.
use mathlib.Core.Path.{◌≡◌, refl, ap, ap₂, ◌∙◌}
use mathlib.Core.Logic.{⊎_elim}
use mathlib.Core.List.{List, [], ◌∷◌, Memᴰ}
use Prim.Native.Nat.{ℕ, zero, suc, ◌+◌, ◌*◌, ◌/◌, ◌%◌, ◌^◌, ◌≤◌, ◌<◌}
use native.Mathlib.Nat.{add-zero, mul-add-div, div-eq_of_lt, mul-add-mod_self_left, mod-eq_of_lt}
use native.Mathlib.Omega.{arith}
use borrow.Author.Tests.{lt-ltb, le-ltb}
use lib.Dec.{eqb}
use lib.ListN.{length, replicate, get_or, length-replicate}
use Rattle.lists.specs.Choice.{choose}
use Rattle.lists.proofs.Cases.{less, chosen, other}
use Rattle.roles.specs.declared.Verb.{Verb}
use Rattle.roles.specs.declared.Verb.TheVariants.{Start, Ready, Unready, Pass, Crash, Restart, Cut, Mend}
use Rattle.roles.specs.Verbs.{verb_number}
use Rattle.roles.proofs.Table.{verb-below}
use Rattle.group.specs.declared.State.{State}
use Rattle.group.specs.Calls.{Call, verb, advance, advance_to, slice_of, call_number, call_channel, channel_after, numbers_of}
use Rattle.calls.specs.Encoding.{verb_at, kinds, identities, times, call_of, lesser, calls_of, Encodable, EveryListEncodes}
use Rattle.calls.proofs.Calling.{is-verb, is-advance, is-to, same_number, same-channel}

-- the two numbers of a call, the second being the length of its slice
code_of : Call → ℕ
code_of (verb v a b d) = kinds * (identities * b + a) + verb_number v
code_of (advance d) = 8
code_of (advance_to t d) = kinds * t + 9

codes_of : List Call → List ℕ
codes_of [] = []
codes_of (k ∷ ks) = code_of k ∷ length (slice_of k) ∷ codes_of ks

verb-at : (v : Verb) → verb_at (verb_number v) ≡ v
unfolding verb_at choose
verb-at Start = refl
verb-at Ready = refl
verb-at Unready = refl
verb-at Pass = refl
verb-at Crash = refl
verb-at Restart = refl
verb-at Cut = refl
verb-at Mend = refl

-- m × q + r, divided by m
module _ (m q r : ℕ) (h : r < m) where
  low : (m * q + r) % m ≡ r
  low = mul-add-mod_self_left m q r ∙ mod-eq_of_lt h

  high : (m * q + r) / m ≡ q
  high = mul-add-div (omega arith) q r ∙ ap (λ (x : ℕ). q + x) (div-eq_of_lt h) ∙ add-zero q

module _ (n : ℕ) where
  -- the first number is that of the call
  reads : (k : Call) → Encodable n k → call_of (code_of k) (slice_of k) ≡ k
  unfolding code_of
  reads (verb v a b d) e =
      let about = identities * b + a in
      let m = kinds * about + verb_number v in
      let l = verb-below v in
      let kind = low kinds about (verb_number v) (omega arith) in
      let rest = high kinds about (verb_number v) (omega arith) in
      let first : m / kinds % identities ≡ a = rw rest (low identities b a e.0) in
      let second : m / kinds / identities % identities ≡ b = rw (rest, high identities b a e.0) (mod-eq_of_lt e.1) in
      is-verb m d (omega (arith, kind))
      ∙ ap (λ (x : ℕ). verb (verb_at x) (m / kinds % identities) (m / kinds / identities % identities) d) kind
      ∙ ap (λ (x : Verb). verb x (m / kinds % identities) (m / kinds / identities % identities) d) (verb-at v)
      ∙ ap₂ (λ (x y : ℕ). verb v x y d) first second
  reads (advance d) e = is-advance 8 d (omega arith) refl
  reads (advance_to t d) e =
      let m = kinds * t + 9 in
      let kind = low kinds t 9 (omega arith) in
      is-to m d (omega (arith, kind)) (ap (λ (x : ℕ). eqb x 8) kind)
      ∙ ap (λ (x : ℕ). advance_to (x % times) d) (high kinds t 9 (omega arith))
      ∙ ap (λ (x : ℕ). advance_to x d) (mod-eq_of_lt e.0)

  -- both have 64 bits
  code-short : (k : Call) → Encodable n k → code_of k < 2 ^ 64
  unfolding code_of
  code-short (verb v a b d) e = let l = verb-below v in omega arith
  code-short (advance d) e = omega arith
  code-short (advance_to t d) e = omega arith

  fits : (k : Call) → Encodable n k → length (slice_of k) ≤ n
  fits (verb v a b d) e = e.2
  fits (advance d) e = e
  fits (advance_to t d) e = e.1

  -- the call that is read back does the same on every channel
  module _ (c : State) (k : Call) (e : Encodable n k) where
    abbrev blank : List ℕ
    blank = replicate (lesser (length (slice_of k)) n) 0

    alike : length blank ≡ length (slice_of k)
    alike =
        length-replicate (lesser (length (slice_of k)) n) 0
        ∙ ⊎_elim (λ h. chosen n (lt-ltb (length (slice_of k)) n h)) (λ h. other _ (le-ltb (length (slice_of k)) n h) ∙ omega (arith, fits k e)) (less (length (slice_of k)) n)

    number-back : call_number c (call_of (code_of k) blank) ≡ call_number c k
    number-back = same_number c (code_of k) blank (slice_of k) alike ∙ ap (call_number c) (reads k e)

    channel-back : call_channel c (call_of (code_of k) blank) ≡ call_channel c k
    channel-back = same-channel c (code_of k) blank (slice_of k) alike ∙ ap (call_channel c) (reads k e)

  abbrev All : List Call → Type 0
  All ks = (k : Call) → Memᴰ k ks → Encodable n k

  short : (ks : List Call) → n < 2 ^ 64 → All ks → (i : ℕ) → get_or (codes_of ks) i 0 < 2 ^ 64
  unfolding codes_of
  short [] h e i = omega arith
  short (k ∷ ks) h e zero = code-short k (e k (Memᴰ.head refl))
  short (k ∷ ks) h e (suc zero) = omega (arith, fits k (e k (Memᴰ.head refl)))
  short (k ∷ ks) h e (suc (suc i)) = short ks h (λ x m. e x (Memᴰ.tail m)) i

  numbers : (ks : List Call) → All ks → (c : State) → numbers_of c (calls_of n (codes_of ks)) ≡ numbers_of c ks
  unfolding codes_of calls_of numbers_of
  numbers [] e c = refl
  numbers (k ∷ ks) e c =
      let here = e k (Memᴰ.head refl) in
      ap₂ (λ (x : ℕ) (y : State). x ∷ numbers_of y (calls_of n (codes_of ks))) (number-back c k here) (channel-back c k here)
      ∙ ap (λ (l : List ℕ). call_number c k ∷ l) (numbers ks (λ x m. e x (Memᴰ.tail m)) (call_channel c k))

  channel : (ks : List Call) → All ks → (c : State) → channel_after c (calls_of n (codes_of ks)) ≡ channel_after c ks
  unfolding codes_of calls_of channel_after
  channel [] e c = refl
  channel (k ∷ ks) e c =
      ap (λ (y : State). channel_after y (calls_of n (codes_of ks))) (channel-back c k (e k (Memᴰ.head refl)))
      ∙ channel ks (λ x m. e x (Memᴰ.tail m)) (call_channel c k)

pub every_list_encodes : EveryListEncodes
every_list_encodes n ks h e = record { code = codes_of ks; short = short n ks h e; numbers = numbers n ks e; channel = channel n ks e }
