-- A heartbeat that is written reads back. Assumes nothing.
use mathlib.Core.Bool.{not}
use mathlib.Core.Path.{◌≡◌, refl, sym, ap, ◌∙◌}
use mathlib.Core.List.{List, [], ◌∷◌, ◌++◌, append_assoc}
use Prim.Native.Nat.{ℕ, suc, ◌<◌, ◌≤◌}
use native.Mathlib.Omega.{arith}
use borrow.Author.Tests.{le-leb, eq-eqb, ne_eqb}
use lib.Dec.{eqb, lit<}
use lib.ListN.{length, take, length-append}
use native.Mathlib.Numerals.{add-one}
use lib.Seq.{take-append_seam}
use Rattle.lists.specs.Choice.{choose}
use Rattle.lists.specs.Lists.{up_to}
use Rattle.lists.proofs.Cases.{chosen, and_true, bit-small}
use Rattle.lists.proofs.Clear.{Clear, clear_append, every_weaker, up_to_clear, split_clear, split-whole}
use Rattle.refusal.specs.Answer.{Answer, accepted, in_turn}
use Rattle.text.specs.Words.{bytes}
use Rattle.text.specs.Digits.{digits}
use Rattle.text.specs.Number.{is_digit}
use Rattle.text.specs.Line.{read_line, fields}
use Rattle.text.proofs.Digits.{digits-few, digit-least}
use Rattle.text.proofs.Trips.{every-digits, number_reads_back}
use Rattle.heartbeat.specs.Heartbeat.{is_set, read_fields, read_body, read_heartbeat, reveal_written, heartbeat_line}
use Rattle.heartbeat.specs.Trips.{HeartbeatReadsBack}

-- no digit is a tab or a line feed
digits_clear : (c n : ℕ) → c < 48 → Clear c (digits n)
digits_clear c n h =
    record {
      none =
          every_weaker is_digit (λ x. not (eqb x c))
          (λ x d. ap not (ne_eqb x c (apart x (digit-least x d))))
          (digits n)
          (every-digits n);
    }
  where
    apart : (x : ℕ) → 48 ≤ x → x ≡ c → ⊥
    apart x l e = omega arith

-- a line of four fields without a tab or a line feed in them
module _ (a b c d : List ℕ) where
  abbrev body : List ℕ
  body = a ++ bytes "\t" ++ b ++ bytes "\t" ++ c ++ bytes "\t" ++ d

  module _ (la : Clear 10 a) (lb : Clear 10 b) (lc : Clear 10 c) (ld : Clear 10 d) where
    tab : Clear 10 (bytes "\t")
    tab = record { none = refl }

    body_clear : Clear 10 body
    body_clear = clear_append (clear_append (clear_append (clear_append (clear_append (clear_append la tab) lb) tab) lc) tab) ld

    body_end : up_to 10 (body ++ bytes "\n") ≡ length body
    body_end = up_to_clear body [] body_clear

    line_read_lem : length body ≤ 64 → read_line (body ++ bytes "\n") ≡ accepted (length body ∷ [])
    unfolding read_line
    line_read_lem h =
        let whole : suc (length body) ≡ length (body ++ bytes "\n") = sym (length-append body (bytes "\n") ∙ add-one (length body)) in
        rw body_end (chosen _ (and_true (le-leb (length body) 64 h) (eq-eqb (suc (length body)) _ whole)))

  module _ (ta : Clear 9 a) (tb : Clear 9 b) (tc : Clear 9 c) (td : Clear 9 d) where
    four_fields : fields body ≡ a ∷ b ∷ c ∷ d ∷ []
    four_fields =
        let apart : body ≡ a ++ (9 ∷ (b ++ (9 ∷ (c ++ (9 ∷ d))))) = simp append_assoc in
        ap fields apart
        ∙ split_clear a _ ta
        ∙ ap (λ (l : List (List ℕ)). a ∷ l)
        (split_clear b _ tb
        ∙ ap (λ (l : List (List ℕ)). b ∷ l) (split_clear c _ tc ∙ ap (λ (l : List (List ℕ)). c ∷ l) (split-whole d td)))

-- four numbers within the ranges of a heartbeat, each in its field
module _ (i j k l : ℕ) (hi : i ≤ 65535) (hj : j ≤ 255) (lk : 1 ≤ k) (hk : k ≤ 65535) (hl : l ≤ 1) where
  abbrev line : List ℕ
  line = body (digits i) (digits j) (digits k) (digits l)

  abbrev parts : fields line ≡ digits i ∷ digits j ∷ digits k ∷ digits l ∷ []
  parts = four_fields _ _ _ _ (digits_clear 9 i (lit< tt)) (digits_clear 9 j (lit< tt)) (digits_clear 9 k (lit< tt)) (digits_clear 9 l (lit< tt))

  numbers-read : read_fields line ≡ accepted (i ∷ j ∷ k ∷ l ∷ [])
  unfolding read_fields in_turn choose
  numbers-read =
      rw (
        parts,
        number_reads_back 0 65535 i (omega arith) hi,
        number_reads_back 0 255 j (omega arith) hj,
        number_reads_back 1 65535 k lk hk,
        number_reads_back 0 255 l (omega arith) (omega arith),
      )

  body-read : read_body line ≡ accepted (i ∷ j ∷ k ∷ l ∷ [])
  unfolding read_body
  body-read = chosen _ (eq-eqb _ 4 (ap length parts)) ∙ numbers-read

  short : length line ≤ 64
  short =
      simp length-append
      (omega (
        arith,
        digits-few 4 i (omega arith),
        digits-few 2 j (omega arith),
        digits-few 4 k (omega arith),
        digits-few 0 l (omega arith),
      ))

  all_read : read_heartbeat (line ++ bytes "\n") ≡ accepted (i ∷ j ∷ k ∷ l ∷ [])
  unfolding read_heartbeat
  all_read =
      let clear : (n : ℕ) → Clear 10 (digits n) = λ n. digits_clear 10 n (lit< tt) in
      let is = line_read_lem _ _ _ _ (clear i) (clear j) (clear k) (clear l) short in
      let end = body_end _ _ _ _ (clear i) (clear j) (clear k) (clear l) in
      chosen _ (eq-eqb _ 0 (ap (λ (x : Answer). x.number) is))
      ∙ ap read_body (ap (λ (n : ℕ). take n (line ++ bytes "\n")) end ∙ take-append_seam line (bytes "\n"))
      ∙ body-read

pub heartbeat_reads_back : HeartbeatReadsBack
unfolding heartbeat_line
heartbeat_reads_back h a b c d = all_read h.bs h.priority h.tiebreaker (reveal_written h.reveal) a b c d (bit-small (is_set h.reveal))
