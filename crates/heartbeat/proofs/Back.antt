-- What is read as a heartbeat writes back, and both trips. Assumes nothing.
use mathlib.Core.Bool.{Bool, true, false, ◌&&◌}
use mathlib.Core.Path.{◌≡◌, refl, sym, ap, ◌∙◌}
use mathlib.Core.List.{List, [], ◌∷◌, ◌++◌, append_assoc}
use mathlib.Core.Logic.{⊎_elim, inl, inr}
use Prim.Native.Nat.{ℕ, suc, ◌≤◌, ◌<◌}
use native.Mathlib.Omega.{arith}
use borrow.Author.Tests.{eqb-true}
use lib.Dec.{leb, eqb}
use lib.ListN.{length, take, drop, get_or, drop_of_length-le}
use Rattle.lists.specs.Choice.{choose}
use Rattle.lists.specs.Lists.{on_first, split_on, up_to}
use Rattle.lists.proofs.Cases.{tested, equal, other, snd_true}
use Rattle.lists.proofs.Parts.{here, later, split-here, split-later, split-some}
use Rattle.refusal.specs.Answer.{Answer, accepted, refused, in_turn}
use Rattle.refusal.proofs.Answers.{not-both}
use Rattle.text.specs.Words.{bytes}
use Rattle.text.specs.Digits.{digits}
use Rattle.text.specs.Number.{read_number}
use Rattle.text.specs.Line.{read_line, fields, field}
use Rattle.text.proofs.Trips.{number_writes_back}
use Rattle.heartbeat.specs.declared.Heartbeat.{Heartbeat}
use Rattle.heartbeat.specs.Heartbeat.{read_fields, read_body, read_heartbeat, line_with}
use Rattle.heartbeat.specs.Trips.{HeartbeatWritesBack, Trips}
use Rattle.heartbeat.proofs.Trips.{heartbeat_reads_back}

-- ---- what was accepted passed each test

tested-first : (t : Bool) (a : Answer) (k : ℕ) {v : ℕ} {vs : List ℕ} → choose t a (refused k) ≡ accepted (v ∷ vs) → (t ≡ true) × (a ≡ accepted (v ∷ vs))
unfolding choose
tested-first true a k e = (refl, e)
tested-first false a k e = not-both e

rest-taken :
    (w : ℕ) (b : Answer) {n m : ℕ} {vs : List ℕ} →
    choose (eqb b.number 0) (accepted (w ∷ b.values)) (refused b.number) ≡ accepted (n ∷ m ∷ vs) → (w ≡ n) × (b ≡ accepted (m ∷ vs))
rest-taken w b {n} {m} {vs} e =
    let t = tested-first (eqb b.number 0) (accepted (w ∷ b.values)) b.number e in
    let both : ◌≡◌ {A = List ℕ} (w ∷ b.values) (n ∷ m ∷ vs) = ap (λ (a : Answer). a.values) t.1 in
    let none : b.number ≡ 0 = eqb-true _ _ t.0 in
    let rest : b.values ≡ m ∷ vs = cc in
    let first : w ≡ n = cc in
    (first, λ i. record { number = none i; values = rest i })

one-taken :
    (t : Bool) (w : ℕ) (b : Answer) {n m : ℕ} {vs : List ℕ} → in_turn (choose t (accepted (w ∷ [])) (refused 2)) b ≡ accepted (n ∷ m ∷ vs) →
    (choose t (accepted (w ∷ [])) (refused 2) ≡ accepted (n ∷ [])) × (b ≡ accepted (m ∷ vs))
unfolding in_turn choose
one-taken true w b e = let r = rest-taken w b e in (ap (λ (k : ℕ). accepted (k ∷ [])) r.0, r.1)
one-taken false w b e = not-both e

field-taken :
    (lo hi : ℕ) (s : List ℕ) (b : Answer) {n m : ℕ} {vs : List ℕ} → in_turn (read_number lo hi s) b ≡ accepted (n ∷ m ∷ vs) →
    (read_number lo hi s ≡ accepted (n ∷ [])) × (b ≡ accepted (m ∷ vs))
unfolding read_number
field-taken lo hi s b e = one-taken _ _ b e

-- ---- the fields of a line, joined by tabs, are the line

joined : ℕ → List (List ℕ) → List ℕ
joined c [] = []
joined c (a ∷ []) = a
joined c (a ∷ b ∷ l) = a ++ (c ∷ joined c (b ∷ l))

module _ (c : ℕ) where
  join_none : (l : List (List ℕ)) → 1 ≤ length l → joined c ([] ∷ l) ≡ c ∷ joined c l
  unfolding joined
  join_none [] h = absurd (omega arith)
  join_none (a ∷ l) h = refl

  join_one : (x : ℕ) (l : List (List ℕ)) → 1 ≤ length l → joined c (on_first x l) ≡ x ∷ joined c l
  unfolding joined
  join_one x [] h = absurd (omega arith)
  join_one x (a ∷ []) h = refl
  join_one x (a ∷ b ∷ l) h = refl

  join_parts : (s : List ℕ) → joined c (split_on c s) ≡ s
  unfolding joined split_on
  join_parts [] = refl
  join_parts (x ∷ s) =
      let some = split-some c s in
      ⊎_elim
      (λ e. ap (joined c) (split-here c x s e) ∙ join_none (split_on c s) some ∙ ap (λ (l : List ℕ). c ∷ l) (join_parts s) ∙ ap (λ (y : ℕ). y ∷ s) (sym e))
      (λ e. ap (joined c) (split-later c x s e) ∙ join_one x (split_on c s) some ∙ ap (λ (l : List ℕ). x ∷ l) (join_parts s))
      (equal x c)

  -- a list up to its first c, and from there
  cut_at : (s : List ℕ) → up_to c s < length s → s ≡ take (up_to c s) s ++ (c ∷ drop (suc (up_to c s)) s)
  cut_at [] h = absurd (omega arith)
  cut_at (x ∷ s) h =
      ⊎_elim
      (λ e. rw (here c x s e) (ap (λ (y : ℕ). y ∷ s) e))
      (λ e. rw (later c x s e) (ap (λ (l : List ℕ). x ∷ l) (cut_at s (omega (arith, later c x s e)))))
      (equal x c)

-- four parts with tabs between them
abbrev between : List (List ℕ) → List ℕ
between l = get_or l 0 [] ++ bytes "\t" ++ get_or l 1 [] ++ bytes "\t" ++ get_or l 2 [] ++ bytes "\t" ++ get_or l 3 []

four_joined : (l : List (List ℕ)) → length l ≡ 4 → joined 9 l ≡ between l
unfolding joined
four_joined [] h = absurd (omega arith)
four_joined (a ∷ []) h = absurd (omega arith)
four_joined (a ∷ b ∷ []) h = absurd (omega arith)
four_joined (a ∷ b ∷ c ∷ []) h = absurd (omega arith)
four_joined (a ∷ b ∷ c ∷ d ∷ []) h = simp append_assoc
four_joined (a ∷ b ∷ c ∷ d ∷ e ∷ l) h = absurd (omega arith)

-- ---- a line is what stands before its line feed, and the line feed

line-ends : (s : List ℕ) → (read_line s).number ≡ 0 → suc (up_to 10 s) ≡ length s
unfolding read_line
line-ends s e =
    elim (tested (leb (up_to 10 s) 64 && eqb (suc (up_to 10 s)) (length s))) [
      | inl z ↦ eqb-true _ _ (snd_true (leb (up_to 10 s) 64) _ z)
      | inr z ↦ absurd (omega (arith, sym (ap (λ (a : Answer). a.number) (other _ z)) ∙ e))
    ]

line-is : (s : List ℕ) → (read_line s).number ≡ 0 → take (up_to 10 s) s ++ bytes "\n" ≡ s
line-is s e =
    let w = line-ends s e in
    let end : length s ≤ suc (up_to 10 s) = omega arith in
    let none : drop (suc (up_to 10 s)) s ≡ [] = drop_of_length-le s end in
    sym (cut_at 10 s (omega arith) ∙ ap (λ (l : List ℕ). take (up_to 10 s) s ++ (10 ∷ l)) none)

-- ---- both trips

fields-written :
    (h : Heartbeat) (l : List (List ℕ)) →
    digits h.bs ≡ get_or l 0 [] → digits h.priority ≡ get_or l 1 [] → digits h.tiebreaker ≡ get_or l 2 [] → digits h.reveal ≡ get_or l 3 [] →
    line_with h h.reveal ≡ between l ++ bytes "\n"
fields-written h l bs priority tiebreaker reveal = rw (bs, priority, tiebreaker, reveal)

pub heartbeat_writes_back : HeartbeatWritesBack
unfolding read_heartbeat read_body read_fields
heartbeat_writes_back s h e =
    let body = take (up_to 10 s) s in
    let line = tested-first (eqb (read_line s).number 0) (read_body body) 1 e in
    let four = tested-first (eqb (length (fields body)) 4) (read_fields body) 1 line.1 in
    let bs = field-taken 0 65535 (field body 0) _ four.1 in
    let priority = field-taken 0 255 (field body 1) _ bs.1 in
    let tiebreaker = field-taken 1 65535 (field body 2) _ priority.1 in
    fields-written h (fields body)
    (number_writes_back _ _ _ _ bs.0)
    (number_writes_back _ _ _ _ priority.0)
    (number_writes_back _ _ _ _ tiebreaker.0)
    (number_writes_back _ _ _ _ tiebreaker.1)
    ∙ ap (λ (l : List ℕ). l ++ bytes "\n") (sym (four_joined (fields body) (eqb-true _ _ four.0)) ∙ join_parts 9 body)
    ∙ line-is s (eqb-true _ _ line.0)

pub trips : Trips
trips = record { read = heartbeat_reads_back; written = heartbeat_writes_back }
