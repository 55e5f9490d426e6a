-- Canonical numbers: what changes numbers keeps them so. Assumes nothing.
use mathlib.Core.Path.{◌≡◌, refl, sym, ap, ap₂, ◌∙◌}
use mathlib.Core.List.{List, [], ◌∷◌, ◌++◌, append_assoc}
use Prim.Native.Nat.{ℕ, zero, suc, ◌+◌, ◌*◌, ◌/◌, ◌%◌, ◌<◌, ◌≤◌}
use native.Mathlib.Omega.{arith}
use borrow.Author.Tests.{lt-ltb}
use lib.Dec.{eqb}
use lib.ListN.{length, take, drop, get_or, set, length-set, length-append}
use lib.Seq.{get_or-set_same, get_or-set_other, get_or-drop, drop-cons, drop-drop, drop-nil, drop-append-add, take-add, take_all, take-append-add, take-nil, set_split}
use Rattle.lists.specs.Choice.{choose}
use Rattle.lists.proofs.Cases.{on, equal, chosen, bit-small}
use Rattle.server.specs.declared.Server.{Server}
use Rattle.roles.specs.Roles.{role_number}
use Rattle.server.specs.Server.{absent}
use Rattle.places.specs.Words.{role_of, sending_number, head_number, server_of, server_at, servers_from, servers_of, server_numbers, words_of, put_at, Canonical, Keeps, Becomes, Packs, Puts}
use Rattle.places.specs.Steps.{Fits, Stores}
use Rattle.places.proofs.Words.{role-small, fits-of, long_of, long-words, words_append, put-long, put-servers}

-- ---- the form, place by place

-- the first number of each place has the number of a role, and the last is of what can be sent
record Neat (w : List ℕ) : Type 0 where
  long : length w ≡ 80
  heads : (i : ℕ) → i < 16 → get_or w (5 * i) 0 < 100663296
  sendings : (i : ℕ) → i < 16 → get_or w (5 * i + 4) 0 < 33554432

role_kept : (n : ℕ) → n < 6 → role_number (role_of n) ≡ n
unfolding role_of choose
role_kept zero h = refl
role_kept (suc zero) h = refl
role_kept (suc (suc zero)) h = refl
role_kept (suc (suc (suc zero))) h = refl
role_kept (suc (suc (suc (suc zero)))) h = refl
role_kept (suc (suc (suc (suc (suc zero))))) h = refl
role_kept (suc (suc (suc (suc (suc (suc n)))))) h = absurd (omega arith)

bit_kept : (n : ℕ) → n < 2 → choose (eqb n 1) 1 0 ≡ n
unfolding choose
bit_kept zero h = refl
bit_kept (suc zero) h = refl
bit_kept (suc (suc n)) h = absurd (omega arith)

-- such numbers are those of their server
numbers-back : (a b c d e : ℕ) → a < 100663296 → e < 33554432 → server_numbers (server_of a b c d e) ≡ a ∷ b ∷ c ∷ d ∷ e ∷ []
unfolding server_of
numbers-back a b c d e h g =
    let r = role_kept (a / 16777216) (omega arith) in
    let v = bit_kept (e / 65536 % 2) (omega arith) in
    let head : head_number (server_of a b c d e) ≡ a = ap (λ (n : ℕ). n * 16777216 + (a / 65536 % 256 * 65536 + a % 65536)) r ∙ (let z : a / 16777216 * 16777216 + (a / 65536 % 256 * 65536 + a % 65536) ≡ a = omega arith in z) in
    let sent : sending_number (server_of a b c d e) ≡ e = ap (λ (n : ℕ). (e / 131072 % 256 * 2 + n) * 65536 + e % 65536) v ∙ (let z : (e / 131072 % 256 * 2 + e / 65536 % 2) * 65536 + e % 65536 ≡ e = omega arith in z) in
    ap₂ (λ (x y : ℕ). x ∷ b ∷ c ∷ d ∷ y ∷ []) head sent

five : (w : List ℕ) (m : ℕ) → m + 5 ≤ length w → take 5 (drop m w) ≡ get_or w m 0 ∷ get_or w (m + 1) 0 ∷ get_or w (m + 2) 0 ∷ get_or w (m + 3) 0 ∷ get_or w (m + 4) 0 ∷ []
five w m h =
    let e₁ : m + 1 ≡ suc m = omega arith in
    let e₂ : m + 2 ≡ suc (suc m) = omega arith in
    let e₃ : m + 3 ≡ suc (suc (suc m)) = omega arith in
    let e₄ : m + 4 ≡ suc (suc (suc (suc m))) = omega arith in
    rw (e₁, e₂, e₃, e₄)
    (ap (take 5)
    (drop-cons w m 0 (omega arith)
    ∙ ap (λ (l : List ℕ). get_or w m 0 ∷ l)
    (drop-cons w (suc m) 0 (omega arith)
    ∙ ap (λ (l : List ℕ). get_or w (suc m) 0 ∷ l)
    (drop-cons w (suc (suc m)) 0 (omega arith)
    ∙ ap (λ (l : List ℕ). get_or w (suc (suc m)) 0 ∷ l)
    (drop-cons w (suc (suc (suc m))) 0 (omega arith)
    ∙ ap (λ (l : List ℕ). get_or w (suc (suc (suc m))) 0 ∷ l) (drop-cons w (suc (suc (suc (suc m)))) 0 (omega arith)))))))

words-from :
    (n k : ℕ) (w : List ℕ) → 5 * (k + n) ≤ length w → ((i : ℕ) → k ≤ i → i < k + n → get_or w (5 * i) 0 < 100663296) →
    ((i : ℕ) → k ≤ i → i < k + n → get_or w (5 * i + 4) 0 < 33554432) → words_of (servers_from n k w) ≡ take (5 * n) (drop (5 * k) w)
unfolding servers_from words_of
words-from zero k w long heads sendings = refl
words-from (suc n) k w long heads sendings =
    ap₂ (λ (x y : List ℕ). x ++ y)
    (numbers-back _ _ _ _ _ (heads k (omega arith) (omega arith)) (sendings k (omega arith) (omega arith)) ∙ sym (five w (5 * k) (omega arith)))
    (words-from n (suc k) w (omega arith) (λ i h g. heads i (omega arith) (omega arith)) (λ i h g. sendings i (omega arith) (omega arith)) ∙ ap (take (5 * n)) next)
    ∙ sym (ap (λ (m : ℕ). take m (drop (5 * k) w)) (let z : 5 * suc n ≡ 5 + 5 * n = omega arith in z) ∙ take-add 5 (5 * n) (drop (5 * k) w))
  where
    next : drop (5 * suc k) w ≡ drop 5 (drop (5 * k) w)
    next = ap (λ (m : ℕ). drop m w) (let z : 5 * suc k ≡ 5 * k + 5 = omega arith in z) ∙ sym (drop-drop 5 (5 * k) w)

neat_canonical : {w : List ℕ} → Neat w → Canonical w
neat_canonical {w} v =
    let long = v.long in
    sym (words-from 16 0 w (omega arith) (λ i _ h. v.heads i (omega arith)) (λ i _ h. v.sendings i (omega arith)) ∙ take_all 80 w (omega arith))

drop-words : (i : ℕ) (l : List Server) → drop (5 * i) (words_of l) ≡ words_of (drop i l)
unfolding words_of
drop-words zero l = refl
drop-words (suc i) [] = drop-nil (5 * suc i)
drop-words (suc i) (s ∷ l) =
    ap (λ (m : ℕ). drop m (server_numbers s ++ words_of l)) (let z : 5 * suc i ≡ 5 + 5 * i = omega arith in z) ∙ drop-append-add (server_numbers s) (words_of l) (5 * i) ∙ drop-words i l

-- the numbers of place i
words-at : (l : List Server) (i j : ℕ) → i < length l → get_or (words_of l) (5 * i + j) 0 ≡ get_or (server_numbers (get_or l i absent) ++ words_of (drop (suc i) l)) j 0
unfolding words_of
words-at l i j h = sym (get_or-drop (5 * i) (words_of l) j 0) ∙ ap (λ (x : List ℕ). get_or x j 0) (drop-words i l ∙ ap words_of (drop-cons l i absent h))

canonical_neat : {w : List ℕ} → Canonical w → Neat w
canonical_neat {w} e =
    let l = servers_of w in
    record {
      long = ap length e ∙ long-words l ∙ ap (λ (n : ℕ). 5 * n) (long_of w);
      heads = λ i h. let f = fits-of w i h in let p = f.priority in let q = f.identity in omega (arith, role-small (get_or l i absent).role, head i h);
      sendings = λ i h. let f = fits-of w i h in let p = f.beats in let q = f.pass in omega (arith, bit-small (get_or l i absent).reveal, sent i h);
    }
  where
    head : (i : ℕ) → i < 16 → get_or w (5 * i) 0 ≡ head_number (get_or (servers_of w) i absent)
    head i h =
        ap (λ (m : ℕ). get_or w m 0) (let z : 5 * i ≡ 5 * i + 0 = omega arith in z) ∙ ap (λ (x : List ℕ). get_or x (5 * i + 0) 0) e ∙ words-at (servers_of w) i 0 (omega (arith, long_of w))

    sent : (i : ℕ) → i < 16 → get_or w (5 * i + 4) 0 ≡ sending_number (get_or (servers_of w) i absent)
    sent i h = ap (λ (x : List ℕ). get_or x (5 * i + 4) 0) e ∙ words-at (servers_of w) i 4 (omega (arith, long_of w))

-- ---- what keeps it

pub keeps-all : {w : List ℕ} → Keeps w w
keeps-all = record { long = refl; form = λ f. f }

pub keeps_then : {w w' w'' : List ℕ} → Keeps w w' → Keeps w' w'' → Keeps w w''
keeps_then p q = record { long = q.long ∙ p.long; form = λ f. q.form (p.form f) }

pub becomes : {w : List ℕ} {l : List Server} {w' : List ℕ} → Keeps w w' → servers_of w' ≡ l → Becomes w l w'
becomes p e = record { servers = e; numbers = λ f. p.form f ∙ ap words_of e; long = p.long }

pub becomes-keeps : {w : List ℕ} {l : List Server} {w' : List ℕ} → Becomes w l w' → Keeps w w'
becomes-keeps p = record { long = p.long; form = λ f. p.numbers f ∙ ap words_of (sym p.servers) }

-- one number of place i set, which is neither its first nor its last; or what was sent cleared
module _ {w : List ℕ} (i : ℕ) where
  pub timer-keeps : (k v : ℕ) → 0 < k → k < 4 → Keeps w (set w (5 * i + k) v)
  timer-keeps k v h g =
      record {
        long = length-set w (5 * i + k) v;
        form =
            λ f.
            let n = canonical_neat f in
            neat_canonical
            (record {
              long = length-set w (5 * i + k) v ∙ n.long;
              heads = λ j l. rw (get_or-set_other w (5 * i + k) (5 * j) v 0 (λ z. omega arith)) (n.heads j l);
              sendings = λ j l. rw (get_or-set_other w (5 * i + k) (5 * j + 4) v 0 (λ z. omega arith)) (n.sendings j l);
            });
      }

  pub clear_keeps : Keeps w (set w (5 * i + 4) 0)
  clear_keeps =
      record {
        long = length-set w (5 * i + 4) 0;
        form =
            λ f.
            let n = canonical_neat f in
            neat_canonical
            (record {
              long = length-set w (5 * i + 4) 0 ∙ n.long;
              heads = λ j l. rw (get_or-set_other w (5 * i + 4) (5 * j) 0 0 (λ z. omega arith)) (n.heads j l);
              sendings =
                  λ j l.
                  on (equal j i)
                  (λ e. let long = n.long in rw (e, get_or-set_same w (5 * i + 4) 0 0 (omega arith)) (omega arith))
                  (λ e. rw (get_or-set_other w (5 * i + 4) (5 * j + 4) 0 0 (λ z. e (omega arith))) (n.sendings j l));
            });
      }

-- all servers stored
pub packs_keeps : {l : List Server} {w w' : List ℕ} → length w ≡ 80 → length l ≡ 16 → Packs l w' → Keeps w w'
packs_keeps {l} {w} {w'} long e p =
    record {
      long = ap length p.numbers ∙ long-words l ∙ ap (λ (n : ℕ). 5 * n) e ∙ sym long;
      form = λ f. p.numbers ∙ ap words_of (sym p.servers);
    }

-- ---- one server stored

take_words : (i : ℕ) (l : List Server) → take (5 * i) (words_of l) ≡ words_of (take i l)
unfolding words_of
take_words zero l = refl
take_words (suc i) [] = take-nil (5 * suc i)
take_words (suc i) (s ∷ l) =
    ap (λ (m : ℕ). take m (server_numbers s ++ words_of l)) (let z : 5 * suc i ≡ 5 + 5 * i = omega arith in z) ∙ take-append-add (server_numbers s) (words_of l) (5 * i)
    ∙ ap (λ (x : List ℕ). server_numbers s ++ x) (take_words i l)

-- the numbers of servers with another at place i
words-set : (l : List Server) (i : ℕ) (s : Server) → i < length l → words_of (set l i s) ≡ put_at (words_of l) i s
unfolding words_of
words-set l i s h =
    ap words_of (set_split l i s h) ∙ words_append (take i l) (s ∷ drop (suc i) l)
    ∙ ap₂ (λ (x y : List ℕ). x ++ (server_numbers s ++ y)) (sym (take_words i l)) (sym (ap (λ (m : ℕ). drop m (words_of l)) (let z : 5 * i + 5 ≡ 5 * suc i = omega arith in z) ∙ drop-words (suc i) l))
    ∙ sym (append_assoc (take (5 * i) (words_of l)) (server_numbers s) (drop (5 * i + 5) (words_of l)))

module _ {w : List ℕ} {i : ℕ} {s : Server} (long : length w ≡ 80) (h : i < 16) (f : Fits s) where
  put-form : Canonical w → Canonical (put_at w i s)
  put-form e =
      ap (λ (x : List ℕ). put_at x i s) e ∙ sym (words-set (servers_of w) i s (omega (arith, long_of w))) ∙ ap words_of (sym (put-servers w i s long h f))

  pub put_is : {w' : List ℕ} → w' ≡ put_at w i s → Puts w i s w'
  put_is e =
      record {
        numbers = e ∙ sym (chosen _ (lt-ltb _ _ h));
        words =
            becomes
            (record { long = ap length e ∙ put-long w i s long h f; form = λ g. rw e (put-form g) })
            (ap servers_of e ∙ put-servers w i s long h f);
      }
