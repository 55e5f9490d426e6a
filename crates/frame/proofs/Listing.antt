use Rattle.lists.proofs.Cases.{bit-small, tested, less, on, chosen, other}
-- The list of those who sent. Assumes nothing.
use mathlib.Core.Bool.{false}
use mathlib.Core.Path.{◌≡◌, refl, sym, ap, ◌∙◌}
use mathlib.Core.List.{List, [], ◌∷◌, ◌++◌, append-nil}
use mathlib.Core.Logic.{⊎_elim}
use Prim.Native.Nat.{ℕ, zero, suc, ◌+◌, ◌-◌, ◌≤◌, ◌<◌}
use native.Mathlib.Omega.{arith}
use native.Mathlib.Numerals.{add-one}
use borrow.Author.Tests.{eqb-true}
use lib.Dec.{eqb}
use lib.ListN.{length, take, set, get_or, replicate, length-set}
use lib.Seq.{take-set-le, take-suc-set, get_or-set_other, get_or-set_same}
use Rattle.lists.specs.Choice.{choose}
use Rattle.server.specs.declared.Server.{Server}
use Rattle.server.specs.Server.{absent, sent_any}
use Rattle.places.specs.Words.{sending_number}
use Rattle.frame.specs.Steps.{sent_below, Still, Ranked, Sends, Lists}
use Rattle.places.specs.Steps.{Fits}
use Rattle.frame.proofs.Lookup.{sent-number}
use Rattle.frame.proofs.Still.{still-unsent}

pub record Listing (l : List Server) (places sendings : List ℕ) (n i : ℕ) : Type 0 where
  pub room : length places ≡ 16
  pub room₁ : length sendings ≡ 16
  pub within : i ≤ 16
  pub few : n ≤ i
  pub these : take n places ≡ sent_below l i
  pub known : (k : ℕ) → k < n → get_or places k 0 < 16
  pub numbered : (k : ℕ) → k < i → get_or sendings k 0 ≡ sending_number (get_or l k absent)
  pub blank : (k : ℕ) → i ≤ k → get_or sendings k 0 ≡ 0

-- one place more: listed where it sent
listed_more : (l : List Server) (places : List ℕ) (n i m : ℕ) → length places ≡ 16 → n ≤ i → i < 16 → take n places ≡ sent_below l i → m ≡ choose (sent_any (get_or l i absent)) 1 0 →
    (take (n + m) (set places n i) ≡ sent_below l (i + 1)) × (n + m ≤ i + 1)
unfolding sent_below
listed_more l places n i m room few h these e =
    on (tested (sent_any (get_or l i absent)))
    (λ t.
    let one : m ≡ 1 = e ∙ chosen _ t in
    rw (one, add-one, add-one)
    (take-suc-set places n i (omega arith) ∙ ap (λ (x : List ℕ). x ++ (i ∷ [])) these ∙ ap (λ (x : List ℕ). sent_below l i ++ x) (sym (chosen [] t)), omega arith))
    (λ t.
    let none : m ≡ 0 = e ∙ other _ t in
    let stays : n + 0 ≡ n = omega arith in
    rw (none, stays, add-one)
    (take-set-le n places n i (omega arith) ∙ these ∙ sym (append-nil (sent_below l i)) ∙ ap (λ (x : List ℕ). sent_below l i ++ x) (sym (other (i ∷ []) t)), omega arith))

-- an array of noughts
noughts : (n k : ℕ) → ◌≡◌ {A = ℕ} (get_or (replicate n 0) k 0) 0
noughts zero k = refl
noughts (suc n) zero = refl
noughts (suc n) (suc k) = noughts n k

-- who is still is not listed, and sent the number 0
listed-rest : (l : List Server) (n : ℕ) → Still n l → (m i k : ℕ) → n ≤ i → i + m ≡ k → k ≤ 16 → sent_below l i ≡ sent_below l k
unfolding sent_below
listed-rest l n v zero i k h e g = ap (sent_below l) (let q : i ≡ k = omega arith in q)
listed-rest l n v (suc m) i zero h e g = absurd (omega arith)
listed-rest l n v (suc m) i (suc k) h e g =
    listed-rest l n v m i k h (omega arith) (omega arith)
    ∙ sym (append-nil (sent_below l k))
    ∙ ap (λ (x : List ℕ). sent_below l k ++ x) (sym (other (k ∷ []) (still-unsent (get_or l k absent) (v.still k (omega arith) (omega arith)))))

pub unsent-number : (s : Server) → sent_any s ≡ false → sending_number s ≡ 0
unsent-number s e =
    let q : ◌≡◌ {A = ℕ} (choose (eqb (sending_number s) 0) 0 1) 0 = sent-number s ∙ other {b = 0} 1 e in
    on (tested (eqb (sending_number s) 0)) (λ t. eqb-true _ _ t) (λ t. absurd (let z : ◌≡◌ {A = ℕ} 1 0 = sym (other {b = 1} 0 t) ∙ q in omega arith))

module _ {l : List Server} where
  pub list_begin : {places sendings : List ℕ} → length places ≡ 16 → sendings ≡ replicate 16 0 → Listing l places sendings 0 0
  unfolding sent_below
  list_begin {places} {sendings} f e =
      record {
        room = f;
        room₁ = ap length e;
        within = omega arith;
        few = omega arith;
        these = refl;
        known = λ k h. absurd (omega arith);
        numbered = λ k h. absurd (omega arith);
        blank = λ k h. ap (λ (v : List ℕ). get_or v k 0) e ∙ noughts 16 k;
      }

  pub list_turn :
      {places sendings : List ℕ} {n i m b : ℕ} → Listing l places sendings n i → i < 16 → b ≡ sending_number (get_or l i absent) → m ≡ choose (eqb b 0) 0 1 →
      Listing l (set places n i) (set sendings i b) (n + m) (i + 1)
  list_turn {places} {sendings} {n} {i} {m} {b} v h q e =
      let m-is : m ≡ choose (sent_any (get_or l i absent)) 1 0 = e ∙ ap (λ (x : ℕ). choose (eqb x 0) 0 1) q ∙ sent-number (get_or l i absent) in
      let bit = bit-small (sent_any (get_or l i absent)) in
      let more = listed_more l places n i m v.room v.few h v.these m-is in
      record {
        room = length-set places n i ∙ v.room;
        room₁ = length-set sendings i b ∙ v.room₁;
        within = omega arith;
        few = more.1;
        these = more.0;
        known =
            λ k g.
            ⊎_elim
            (λ w. let z : get_or (set places n i) k 0 ≡ get_or places k 0 = get_or-set_other places n k i 0 (λ y. omega arith) in omega (arith, v.known k w))
            (λ w.
            let y : k ≡ n = omega arith in
            rw y (let z : get_or (set places n i) n 0 ≡ i = get_or-set_same places n i 0 (omega (arith, v.few, v.room)) in omega arith))
            (less k n);
        numbered =
            λ k g.
            ⊎_elim
            (λ w. get_or-set_other sendings i k b 0 (λ y. omega arith) ∙ v.numbered k w)
            (λ w. let y : k ≡ i = omega arith in rw y (get_or-set_same sendings i b 0 (omega (arith, v.room₁)) ∙ q))
            (less k i);
        blank = λ k g. get_or-set_other sendings i k b 0 (λ y. omega arith) ∙ v.blank k (omega arith);
      }

  pub list_end : {places sendings : List ℕ} {n i m : ℕ} → ((k : ℕ) → k < 16 → Fits (get_or l k absent)) → Still m l → Listing l places sendings n i → m ≤ i → Sends l places sendings n
  list_end {places} {sendings} {n} {i} {m} fits still v h =
      record {
        listed = record { few = omega (arith, v.few, v.within); room = v.room; places = v.known };
        these = v.these ∙ listed-rest l m still (16 - i) i 16 h (omega (arith, v.within)) (omega arith);
        sent = λ k g. let f = fits k g in (sent k g, omega (arith, sent k g, f.beats, f.pass, bit-small (get_or l k absent).reveal));
        fits = λ k g. ((fits k g).identity, (fits k g).pass);
      }
    where
      sent : (k : ℕ) → k < 16 → get_or sendings k 0 ≡ sending_number (get_or l k absent)
      sent k g =
          ⊎_elim
          (λ w. v.numbered k w)
          (λ w. v.blank k w ∙ sym (unsent-number (get_or l k absent) (still-unsent (get_or l k absent) (still.still k (omega arith) g))))
          (less k i)

-- with the ranks, that is the whole list
pub lists_all :
    {l : List Server} {ranks places sendings : List ℕ} {n : ℕ} → Ranked ranks l → Sends l places sendings n → Lists l (record { places = places; ranks = ranks; sendings = sendings; count = n })
lists_all r v =
    record {
      numbers = record { listed = v.listed; ranks = r.small; sendings = λ k g. (v.sent k g).1 };
      these = v.these;
      ranks = r.ranks;
      sendings = λ k g. (v.sent k g).0;
      identities = λ k g. (v.fits k g).0;
      passes = λ k g. (v.fits k g).1;
    }
