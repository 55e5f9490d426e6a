-- Calls as numbers: two numbers a call, so that a list of calls can be lent as one slice.
use mathlib.Core.List.{List, [], ◌∷◌, Memᴰ}
use Rattle.std.specs.Prelude.{◌≡◌, ℕ, ◌/◌, ◌%◌, ◌^◌, ◌<◌, ◌≤◌, ltb, eqb, length, replicate, get_or}
use Rattle.lists.specs.Choice.{choose}
use Rattle.roles.specs.declared.Verb.{Verb}
use Rattle.roles.specs.declared.Verb.TheVariants.{Start, Ready, Unready, Pass, Crash, Restart, Cut, Mend}
use Rattle.group.specs.declared.State.{State}
use Rattle.group.specs.Calls.{Call, verb, advance, advance_to, channel_after, numbers_of}

-- the verb with the number k, in the order of `Verb`
unfoldable pub verb_at : ℕ → Verb
verb_at k =
    choose (eqb k 0) Start
    (choose (eqb k 1) Ready
    (choose (eqb k 2) Unready
    (choose (eqb k 3) Pass
    (choose (eqb k 4) Crash
    (choose (eqb k 5) Restart
    (choose (eqb k 6) Cut Mend))))))

-- The first number of a call is 10 × what it is about + its kind: the kinds 0 to 7 are the verbs, 8
-- is the advance by one frame, 9 that to a time
abbrev pub kinds : ℕ
kinds = 10

-- identities are below 65,536: what a verb is about is its second identity × 65,536 + the first
abbrev pub identities : ℕ
identities = 65536

-- times are below 4,294,967,296: most of them are outside the day, and get 3
abbrev pub times : ℕ
times = 4294967296

-- the call of a number, with the lent slice d. Every number is some call's
unfoldable pub call_of : ℕ → List ℕ → Call
call_of n d =
    choose (ltb (n % kinds) 8) (verb (verb_at (n % kinds)) (n / kinds % identities) (n / kinds / identities % identities) d)
    (choose (eqb (n % kinds) 8) (advance d) (advance_to (n / kinds % times) d))

-- the lesser of two: a call gets the first bytes of a lent slice, all of it where it asks for more
abbrev pub lesser : ℕ → ℕ → ℕ
lesser m n = choose (ltb m n) m n

-- the list of calls that a list of numbers encodes, where the lent slice has n bytes: the second
-- number of a call is the length of its slice. What stands in the slice before a call does not
-- change what the call does. A last number without its second is no call
unfoldable pub calls_of : ℕ → List ℕ → List Call
calls_of n [] = []
calls_of n (k ∷ []) = []
calls_of n (k ∷ m ∷ ks) = call_of k (replicate (lesser m n) 0) ∷ calls_of n ks

-- ---- which lists of calls have an encoding

-- a call whose identities are 0 to 65,535, whose time is at most 4,294,967,295, and whose slice has
-- at most n bytes: by their types the calls of the crate channel have no greater identities and
-- times
abbrev pub Encodable : ℕ → Call → Type 0
Encodable n (verb v a b d) = (a < identities) × (b < identities) × (length d ≤ n)
Encodable n (advance d) = length d ≤ n
Encodable n (advance_to t d) = (t < times) × (length d ≤ n)

-- numbers, each of 64 bits, encode the calls ks, where the lent slice has n bytes: on every channel
-- the same numbers come back, and the same channel
pub record Encodes (n : ℕ) (ks : List Call) : Type 0 where
  pub code : List ℕ
  pub short : (i : ℕ) → get_or code i 0 < 2 ^ 64
  pub numbers : (c : State) → numbers_of c (calls_of n code) ≡ numbers_of c ks
  pub channel : (c : State) → channel_after c (calls_of n code) ≡ channel_after c ks

-- every list of such calls has an encoding, where the lent slice has n bytes, below 2 ^ 64. The
-- proof is in proofs/Encoded.antt
abbrev pub EveryListEncodes : Type 0
EveryListEncodes = (n : ℕ) (ks : List Call) → n < 2 ^ 64 → ((k : Call) → Memᴰ k ks → Encodable n k) → Encodes n ks
