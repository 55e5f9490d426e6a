-- Servers as numbers: what is stored is read again, and nothing else is changed. Assumes nothing.
use mathlib.Core.Bool.{Bool, true}
use mathlib.Core.Path.{◌≡◌, refl, sym, ap, ap₂, ◌∙◌}
use mathlib.Core.Logic.{⊎_elim, ◌≢◌}
use mathlib.Core.List.{List, [], ◌∷◌, ◌++◌}
use Prim.Native.Nat.{ℕ, zero, suc, ◌+◌, ◌*◌, ◌/◌, ◌%◌, ◌<◌, ◌≤◌}
use native.Mathlib.Omega.{arith}
use borrow.Author.Tests.{eqb-true}
use lib.Dec.{eqb}
use lib.ListN.{length, take, drop, get_or, set, length-set, length-append}
use lib.Seq.{get_or-set_same, get_or-set_other, ext_get_or, sets-eq, get_or-drop, drop-drop, take_at, take_all, take-suc, length-take-le}
use Rattle.lists.specs.Choice.{choose}
use Rattle.lists.specs.Splice.{splice}
use Rattle.lists.proofs.Cases.{on, equal, less, bit-small, bit-back}
use Rattle.roles.specs.declared.Role.{Role}
use Rattle.roles.specs.declared.Role.TheVariants.{Down, Idle, Sync, Backup, Prospect, Primary}
use Rattle.server.specs.declared.Server.{Server}
use Rattle.roles.specs.Roles.{role_number}
use Rattle.server.specs.Server.{absent, set_silence, set_beat, cleared}
use Rattle.places.specs.Words.{role_of, sending_number, head_number, server_of, server_at, servers_from, servers_of, server_numbers, words_of, put_at, Packs}
use Rattle.places.specs.Steps.{Fits, Stores}

pub role-back : (r : Role) → role_of (role_number r) ≡ r
unfolding role_of choose
role-back Down = refl
role-back Idle = refl
role-back Sync = refl
role-back Backup = refl
role-back Prospect = refl
role-back Primary = refl

pub role-small : (r : Role) → role_number r < 6
role-small Down = omega arith
role-small Idle = omega arith
role-small Sync = omega arith
role-small Backup = omega arith
role-small Prospect = omega arith
role-small Primary = omega arith

-- the parts of the number of what was sent
pub parts : (b v q : ℕ) → v ≤ 1 → q < 65536 → ((((b * 2 + v) * 65536 + q) / 131072 ≡ b) × (((b * 2 + v) * 65536 + q) % 65536 ≡ q)) × (((b * 2 + v) * 65536 + q) / 65536 % 2 ≡ v)
parts b v q h g =
    let upper : ((b * 2 + v) * 65536 + q) / 65536 ≡ b * 2 + v = omega arith in
    let top : ((b * 2 + v) * 65536 + q) / 131072 ≡ b = omega arith in
    let low : ((b * 2 + v) * 65536 + q) % 65536 ≡ q = omega arith in
    let odd : (b * 2 + v) % 2 ≡ v = omega arith in
    ((top, low), ap (λ (n : ℕ). n % 2) upper ∙ odd)

-- the numbers of a server are its own
pub server-back : (s : Server) → Fits s → server_of (head_number s) s.silence s.beat s.prospect (sending_number s) ≡ s
unfolding server_of
server-back s f =
    let small = role-small s.role in
    let identity = f.identity in
    let priority = f.priority in
    let i : head_number s % 65536 ≡ s.identity = omega arith in
    let u : head_number s / 65536 ≡ role_number s.role * 256 + s.priority = omega arith in
    let p : head_number s / 65536 % 256 ≡ s.priority = ap (λ (n : ℕ). n % 256) u ∙ (let e : (role_number s.role * 256 + s.priority) % 256 ≡ s.priority = omega arith in e) in
    let r : head_number s / 16777216 ≡ role_number s.role = omega arith in
    let n = parts s.beats (choose s.reveal 1 0) s.pass (bit-small s.reveal) f.pass in
    let b : sending_number s / 131072 % 256 ≡ s.beats = ap (λ (m : ℕ). m % 256) n.0.0 ∙ (let beats = f.beats in let e : s.beats % 256 ≡ s.beats = omega arith in e) in
    let v : eqb (sending_number s / 65536 % 2) 1 ≡ s.reveal = ap (λ (m : ℕ). eqb m 1) n.1 ∙ bit-back s.reveal in
    same i p (ap role_of r ∙ role-back s.role) b v n.0.1
  where
    same :
        {i p b q : ℕ} {r : Role} {v : Bool} → i ≡ s.identity → p ≡ s.priority → r ≡ s.role → b ≡ s.beats → v ≡ s.reveal → q ≡ s.pass →
        record { identity = i; priority = p; role = r; silence = s.silence; beat = s.beat; prospect = s.prospect; beats = b; reveal = v; pass = q } ≡ s
    same e₁ e₂ e₃ e₄ e₅ e₆ = rw (e₁, e₂, e₃, e₄, e₅, e₆)

-- every server of numbers fits
pub fits-at : (w : List ℕ) (i : ℕ) → Fits (server_at w i)
unfolding server_of
fits-at w i = record { identity = omega arith; priority = omega arith; beats = omega arith; pass = omega arith }

-- ---- the list

long-from : (n k : ℕ) (w : List ℕ) → length (servers_from n k w) ≡ n
unfolding servers_from
long-from zero k w = refl
long-from (suc n) k w = ap suc (long-from n (suc k) w)

pub long_of : (w : List ℕ) → length (servers_of w) ≡ 16
long_of w = long-from 16 0 w

at_from : (n k i : ℕ) (w : List ℕ) (d : Server) → i < n → get_or (servers_from n k w) i d ≡ server_at w (k + i)
unfolding servers_from
at_from zero k i w d h = absurd (omega arith)
at_from (suc n) k zero w d h = ap (server_at w) (let e : k ≡ k + 0 = omega arith in e)
at_from (suc n) k (suc i) w d h = at_from n (suc k) i w d (omega arith) ∙ ap (server_at w) (let e : suc k + i ≡ k + suc i = omega arith in e)

pub at_of : (w : List ℕ) (i : ℕ) (d : Server) → i < 16 → get_or (servers_of w) i d ≡ server_at w i
at_of w i d h = at_from 16 0 i w d h ∙ ap (server_at w) (let e : 0 + i ≡ i = omega arith in e)

pub unsent-at : (w : List ℕ) (i : ℕ) → i < 16 → eqb (get_or w (5 * i + 4) 0) 0 ≡ true → sending_number (get_or (servers_of w) i absent) ≡ 0
unfolding server_of choose
unsent-at w i h e =
    ap sending_number (at_of w i absent h) ∙ ap (λ (n : ℕ). sending_number (server_of (get_or w (5 * i) 0) (get_or w (5 * i + 1) 0) (get_or w (5 * i + 2) 0) (get_or w (5 * i + 3) 0) n)) (eqb-true (get_or w (5 * i + 4) 0) 0 e)

pub fits-of : (w : List ℕ) (i : ℕ) → i < 16 → Fits (get_or (servers_of w) i absent)
fits-of w i h = rw (at_of w i absent h) (fits-at w i)

-- ---- one server stored

-- five numbers at the places k, k + 1, ..
module _ (w : List ℕ) (k a b c d e : ℕ) where
  abbrev put1 : List ℕ
  put1 = set w k a

  abbrev put2 : List ℕ
  put2 = set put1 (k + 1) b

  abbrev put3 : List ℕ
  put3 = set put2 (k + 2) c

  abbrev put4 : List ℕ
  put4 = set put3 (k + 3) d

  abbrev pub put5 : List ℕ
  put5 = set put4 (k + 4) e

  -- they are written at the place k
  pub spliced : k + 4 < length w → put5 ≡ splice w k (a ∷ b ∷ c ∷ d ∷ e ∷ [])
  spliced h =
      let e₁ : k + 1 ≡ suc k = omega arith in
      let e₂ : k + 2 ≡ suc (suc k) = omega arith in
      let e₃ : k + 3 ≡ suc (suc (suc k)) = omega arith in
      let e₄ : k + 4 ≡ suc (suc (suc (suc k))) = omega arith in
      rw (e₁, e₂, e₃, e₄) (sets-eq (a ∷ b ∷ c ∷ d ∷ e ∷ []) w k (omega arith))

  pub length5 : length put5 ≡ length w
  length5 =
      length-set put4 (k + 4) e ∙ length-set put3 (k + 3) d ∙ length-set put2 (k + 2) c ∙ length-set put1 (k + 1) b ∙ length-set w k a

  other-five : (n : ℕ) → n ≢ k → n ≢ k + 1 → n ≢ k + 2 → n ≢ k + 3 → n ≢ k + 4 → get_or put5 n 0 ≡ get_or w n 0
  other-five n h₀ h₁ h₂ h₃ h₄ =
      get_or-set_other put4 (k + 4) n e 0 h₄ ∙ get_or-set_other put3 (k + 3) n d 0 h₃ ∙ get_or-set_other put2 (k + 2) n c 0 h₂ ∙ get_or-set_other put1 (k + 1) n b 0 h₁
      ∙ get_or-set_other w k n a 0 h₀

  module _ (h : k + 4 < length w) where
    long₁ : length put1 ≡ length w
    long₁ = length-set w k a

    long₂ : length put2 ≡ length w
    long₂ = length-set put1 (k + 1) b ∙ long₁

    long₃ : length put3 ≡ length w
    long₃ = length-set put2 (k + 2) c ∙ long₂

    long₄ : length put4 ≡ length w
    long₄ = length-set put3 (k + 3) d ∙ long₃

    five-0 : get_or put5 k 0 ≡ a
    five-0 =
        get_or-set_other put4 (k + 4) k e 0 (λ z. omega arith) ∙ get_or-set_other put3 (k + 3) k d 0 (λ z. omega arith) ∙ get_or-set_other put2 (k + 2) k c 0 (λ z. omega arith)
        ∙ get_or-set_other put1 (k + 1) k b 0 (λ z. omega arith) ∙ get_or-set_same w k a 0 (omega arith)

    five-1 : get_or put5 (k + 1) 0 ≡ b
    five-1 =
        get_or-set_other put4 (k + 4) (k + 1) e 0 (λ z. omega arith) ∙ get_or-set_other put3 (k + 3) (k + 1) d 0 (λ z. omega arith)
        ∙ get_or-set_other put2 (k + 2) (k + 1) c 0 (λ z. omega arith) ∙ get_or-set_same put1 (k + 1) b 0 (omega (arith, long₁))

    five-2 : get_or put5 (k + 2) 0 ≡ c
    five-2 =
        get_or-set_other put4 (k + 4) (k + 2) e 0 (λ z. omega arith) ∙ get_or-set_other put3 (k + 3) (k + 2) d 0 (λ z. omega arith)
        ∙ get_or-set_same put2 (k + 2) c 0 (omega (arith, long₂))

    five-3 : get_or put5 (k + 3) 0 ≡ d
    five-3 = get_or-set_other put4 (k + 4) (k + 3) e 0 (λ z. omega arith) ∙ get_or-set_same put3 (k + 3) d 0 (omega (arith, long₃))

    five-4 : get_or put5 (k + 4) 0 ≡ e
    five-4 = get_or-set_same put4 (k + 4) e 0 (omega (arith, long₄))

module _ (w : List ℕ) (i : ℕ) (s : Server) (long : length w ≡ 80) (h : i < 16) (f : Fits s) where
  abbrev stored : List ℕ
  stored = put5 w (5 * i) (head_number s) s.silence s.beat s.prospect (sending_number s)

  stored_here : server_at stored i ≡ s
  stored_here =
      let room : 5 * i + 4 < length w = omega arith in
      ap₂ (λ (a b : ℕ). server_of a b (get_or stored (5 * i + 2) 0) (get_or stored (5 * i + 3) 0) (get_or stored (5 * i + 4) 0))
      (five-0 w (5 * i) _ _ _ _ _ room) (five-1 w (5 * i) _ _ _ _ _ room)
      ∙ ap₂ (λ (a b : ℕ). server_of (head_number s) s.silence a b (get_or stored (5 * i + 4) 0))
      (five-2 w (5 * i) _ _ _ _ _ room) (five-3 w (5 * i) _ _ _ _ _ room)
      ∙ ap (server_of (head_number s) s.silence s.beat s.prospect) (five-4 w (5 * i) _ _ _ _ _ room)
      ∙ server-back s f

  stored_there : (j : ℕ) → j ≢ i → server_at stored j ≡ server_at w j
  stored_there j n =
      ap₂ (λ (a b : ℕ). server_of a b (get_or stored (5 * j + 2) 0) (get_or stored (5 * j + 3) 0) (get_or stored (5 * j + 4) 0)) (kept (5 * j) (omega arith) (omega arith)) (kept (5 * j + 1) (omega arith) (omega arith))
      ∙ ap₂ (λ (a b : ℕ). server_of (get_or w (5 * j) 0) (get_or w (5 * j + 1) 0) a b (get_or stored (5 * j + 4) 0)) (kept (5 * j + 2) (omega arith) (omega arith)) (kept (5 * j + 3) (omega arith) (omega arith))
      ∙ ap (server_of (get_or w (5 * j) 0) (get_or w (5 * j + 1) 0) (get_or w (5 * j + 2) 0) (get_or w (5 * j + 3) 0)) (kept (5 * j + 4) (omega arith) (omega arith))
    where
      kept : (m : ℕ) → 5 * j ≤ m → m < 5 * j + 5 → get_or stored m 0 ≡ get_or w m 0
      kept m f g =
          other-five w (5 * i) _ _ _ _ _ m (λ z. n (omega arith)) (λ z. n (omega arith)) (λ z. n (omega arith)) (λ z. n (omega arith)) (λ z. n (omega arith))

  store_is : servers_of stored ≡ set (servers_of w) i s
  store_is =
      ext_get_or absent (servers_of stored) (set (servers_of w) i s) (long_of stored ∙ sym (length-set (servers_of w) i s ∙ long_of w))
      (λ j g.
      let l = long_of stored in
      at_of stored j absent (omega arith)
      ∙ ⊎_elim
      (λ e. rw e (stored_here ∙ sym (get_or-set_same (servers_of w) i s absent (omega (arith, long_of w)))))
      (λ e. stored_there j e ∙ sym (get_or-set_other (servers_of w) i j s absent e ∙ at_of w j absent (omega arith)))
      (equal j i))

  put-stored : put_at w i s ≡ stored
  put-stored = sym (spliced w (5 * i) _ _ _ _ _ (omega arith))

  pub put-long : length (put_at w i s) ≡ length w
  put-long = ap length put-stored ∙ length5 w (5 * i) _ _ _ _ _

  pub put-servers : servers_of (put_at w i s) ≡ set (servers_of w) i s
  put-servers = ap servers_of put-stored ∙ store_is

-- ---- one number of a server stored

module _ (w : List ℕ) (i k v : ℕ) (long : length w ≡ 80) (h : i < 16) (g : k < 5) where
  abbrev one-put : List ℕ
  one-put = set w (5 * i + k) v

  one-there : (j : ℕ) → j ≢ i → server_at one-put j ≡ server_at w j
  one-there j n =
      rw (
        get_or-set_other w (5 * i + k) (5 * j) v 0 (λ z. n (omega arith)),
        get_or-set_other w (5 * i + k) (5 * j + 1) v 0 (λ z. n (omega arith)),
        get_or-set_other w (5 * i + k) (5 * j + 2) v 0 (λ z. n (omega arith)),
        get_or-set_other w (5 * i + k) (5 * j + 3) v 0 (λ z. n (omega arith)),
        get_or-set_other w (5 * i + k) (5 * j + 4) v 0 (λ z. n (omega arith)),
      )

  one-is : servers_of one-put ≡ set (servers_of w) i (server_at one-put i)
  one-is =
      let s = server_at one-put i in
      ext_get_or absent (servers_of one-put) (set (servers_of w) i s) (long_of one-put ∙ sym (length-set (servers_of w) i s ∙ long_of w))
      (λ j e.
      let l = long_of one-put in
      at_of one-put j absent (omega arith)
      ∙ ⊎_elim
      (λ q. rw q (sym (get_or-set_same (servers_of w) i s absent (omega (arith, long_of w)))))
      (λ q. one-there j q ∙ sym (get_or-set_other (servers_of w) i j s absent q ∙ at_of w j absent (omega arith)))
      (equal j i))

module _ (w : List ℕ) (i v : ℕ) (long : length w ≡ 80) (h : i < 16) where
  pub silence-is : servers_of (set w (5 * i + 1) v) ≡ set (servers_of w) i (set_silence v (get_or (servers_of w) i absent))
  unfolding server_of
  silence-is =
      one-is w i 1 v long h (omega arith)
      ∙ ap (set (servers_of w) i)
      (rw (
        get_or-set_other w (5 * i + 1) (5 * i) v 0 (λ z. omega arith),
        get_or-set_same w (5 * i + 1) v 0 (omega arith),
        get_or-set_other w (5 * i + 1) (5 * i + 2) v 0 (λ z. omega arith),
        get_or-set_other w (5 * i + 1) (5 * i + 3) v 0 (λ z. omega arith),
        get_or-set_other w (5 * i + 1) (5 * i + 4) v 0 (λ z. omega arith),
        at_of w i absent h,
      ) refl)

  pub clear_is : servers_of (set w (5 * i + 4) 0) ≡ set (servers_of w) i (cleared (get_or (servers_of w) i absent))
  unfolding server_of
  clear_is =
      one-is w i 4 0 long h (omega arith)
      ∙ ap (set (servers_of w) i)
      (rw (
        get_or-set_other w (5 * i + 4) (5 * i) 0 0 (λ z. omega arith),
        get_or-set_other w (5 * i + 4) (5 * i + 1) 0 0 (λ z. omega arith),
        get_or-set_other w (5 * i + 4) (5 * i + 2) 0 0 (λ z. omega arith),
        get_or-set_other w (5 * i + 4) (5 * i + 3) 0 0 (λ z. omega arith),
        get_or-set_same w (5 * i + 4) 0 0 (omega arith),
        at_of w i absent h,
      ) refl)

  pub beat-is : servers_of (set w (5 * i + 2) v) ≡ set (servers_of w) i (set_beat v (get_or (servers_of w) i absent))
  unfolding server_of
  beat-is =
      one-is w i 2 v long h (omega arith)
      ∙ ap (set (servers_of w) i)
      (rw (
        get_or-set_other w (5 * i + 2) (5 * i) v 0 (λ z. omega arith),
        get_or-set_other w (5 * i + 2) (5 * i + 1) v 0 (λ z. omega arith),
        get_or-set_same w (5 * i + 2) v 0 (omega arith),
        get_or-set_other w (5 * i + 2) (5 * i + 3) v 0 (λ z. omega arith),
        get_or-set_other w (5 * i + 2) (5 * i + 4) v 0 (λ z. omega arith),
        at_of w i absent h,
      ) refl)

-- ---- the numbers of servers

pub long-words : (l : List Server) → length (words_of l) ≡ 5 * length l
unfolding words_of
long-words [] = refl
long-words (s ∷ l) = let e = long-words l in omega arith

pub words_append : (l m : List Server) → words_of (l ++ m) ≡ words_of l ++ words_of m
unfolding words_of
words_append [] m = refl
words_append (s ∷ l) m = ap (λ (w : List ℕ). server_numbers s ++ w) (words_append l m)

-- the servers of numbers that go on with those of l
servers-from :
    (n k : ℕ) (w : List ℕ) (l : List Server) → length l ≡ n → drop (5 * k) w ≡ words_of l → ((i : ℕ) → i < n → Fits (get_or l i absent)) →
    servers_from n k w ≡ l
unfolding servers_from words_of
servers-from zero k w [] e d f = refl
servers-from zero k w (s ∷ l) e d f = absurd (omega arith)
servers-from (suc n) k w [] e d f = absurd (omega arith)
servers-from (suc n) k w (s ∷ l) e d f =
    ap₂ (λ (x : Server) (y : List Server). x ∷ y)
    (rw (ap (λ (m : ℕ). get_or w m 0) (let z : 5 * k ≡ 5 * k + 0 = omega arith in z) ∙ at 0, at 1, at 2, at 3, at 4) (server-back s (f 0 (omega arith))))
    (servers-from n (suc k) w l (omega arith) rest (λ i h. f (suc i) (omega arith)))
  where
    at : (j : ℕ) → get_or w (5 * k + j) 0 ≡ get_or (server_numbers s ++ words_of l) j 0
    at j = sym (get_or-drop (5 * k) w j 0) ∙ ap (λ (x : List ℕ). get_or x j 0) d

    rest : drop (5 * suc k) w ≡ words_of l
    rest = ap (λ (m : ℕ). drop m w) (let z : 5 * suc k ≡ 5 * k + 5 = omega arith in z) ∙ sym (drop-drop 5 (5 * k) w) ∙ ap (λ (x : List ℕ). drop 5 x) d

pub servers-back : (l : List Server) → length l ≡ 16 → ((i : ℕ) → i < 16 → Fits (get_or l i absent)) → servers_of (words_of l) ≡ l
servers-back l e f = servers-from 16 0 (words_of l) l e refl f

-- the first i servers of l are stored in w
pub record Stored (l : List Server) (w : List ℕ) (i : ℕ) : Type 0 where
  pub room : length w ≡ 80
  pub long : length l ≡ 16
  pub numbers : take (5 * i) w ≡ words_of (take i l)
  pub fits : (k : ℕ) → k < i → Fits (get_or l k absent)

pub stored-begin : {l : List Server} {w : List ℕ} → length w ≡ 80 → length l ≡ 16 → Stored l w 0
unfolding words_of
stored-begin e f = record { room = e; long = f; numbers = refl; fits = λ k h. absurd (omega arith) }

pub stored-turn : {l : List Server} {w w' : List ℕ} {i : ℕ} {s : Server} → Stored l w i → i < 16 → s ≡ get_or l i absent → Stores w i s w' → Stored l w' (i + 1)
unfolding words_of
stored-turn {l} {w} {w'} {i} {s} v h e p =
    let room = v.room in
    let long = v.long in
    record {
      room = ap length p.numbers ∙ put-long w i s room h p.fits ∙ room;
      long = long;
      numbers =
          ap (take (5 * (i + 1))) p.numbers ∙ first ∙ ap (λ (x : List ℕ). x ++ server_numbers s) v.numbers ∙ sym last;
      fits = λ k g. on (less k i) (λ q. v.fits k q) (λ q. let z : k ≡ i = omega arith in rw (z, ← e) p.fits);
    }
  where
    first : take (5 * (i + 1)) (put_at w i s) ≡ take (5 * i) w ++ server_numbers s
    first =
        take_at (take (5 * i) w ++ server_numbers s) (drop (5 * i + 5) w) (5 * (i + 1))
        (length-append (take (5 * i) w) (server_numbers s) ∙ ap (λ (m : ℕ). m + 5) (length-take-le (5 * i) w (omega (arith, v.room))) ∙ (let z : 5 * i + 5 ≡ 5 * (i + 1) = omega arith in z))

    last : words_of (take (i + 1) l) ≡ words_of (take i l) ++ server_numbers s
    last =
        ap (λ (m : ℕ). words_of (take m l)) (let z : i + 1 ≡ suc i = omega arith in z) ∙ ap words_of (take-suc l i absent (omega (arith, v.long)))
        ∙ words_append (take i l) (get_or l i absent ∷ []) ∙ ap (λ (x : Server). words_of (take i l) ++ server_numbers x) (sym e)

pub stored-end : {l : List Server} {w : List ℕ} {i : ℕ} → Stored l w i → 16 ≤ i → Packs l w
stored-end {l} {w} {i} v h =
    let room = v.room in
    let long = v.long in
    let is : w ≡ words_of l = sym (take_all (5 * i) w (omega arith)) ∙ v.numbers ∙ ap words_of (take_all i l (omega arith)) in
    record { numbers = is; servers = ap servers_of is ∙ servers-back l long (λ k g. v.fits k (omega arith)) }
