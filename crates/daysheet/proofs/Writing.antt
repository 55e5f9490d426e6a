-- A whole day, printed in one call. Assumes nothing.
use Rattle.std.specs.Prelude.{Ok}
use mathlib.Core.Bool.{true, false}
use mathlib.Core.Path.{◌≡◌, refl, sym, ap, ap₂, subst, ◌∙◌}
use mathlib.Core.List.{List, [], ◌∷◌, ◌++◌, append-nil}
use Prim.Native.Nat.{ℕ, ◌+◌, ◌-◌, ◌≤◌}
use native.Mathlib.Omega.{arith}
use lib.ListN.{length, take, drop, length-append, length-drop}
use Rattle.lists.specs.Splice.{splice}
use Rattle.lists.proofs.Cases.{tested, on, clash}
use Rattle.lists.proofs.Splicing.{splices, splice-length}
use Rattle.lists.proofs.Parts.{part-rest}
use Rattle.text.specs.Write.{Writes}
use Rattle.text.proofs.Writing.{writes-to}
use Rattle.day.specs.Sheet.{header, sheet}
use Rattle.feeding.specs.Fed.{Fed, beginning, remaining}
use Rattle.feed.specs.declared.Step.{Step}
use Rattle.feed.specs.Answers.{Begins}
use Rattle.feed.proofs.Pairing.{part-written}
use Rattle.printer.specs.declared.Printed.{Printed}
use Rattle.printer.specs.Print.{Print}
use Rattle.printer.specs.Answers.{written_bytes, Prints}
use Rattle.printer.specs.Laws.{Call, answer, is_short, none}
use Rattle.printer.proofs.Told.{begun_to, begun-slice, printed-to}
use Rattle.printer.proofs.Laws.{call-more, laws}

module _ (s : List ℕ) {d : List ℕ} {b : Step} {d₁ : List ℕ} {at : ℕ} (begun : Begins d b d₁) (fit : length (sheet s) ≤ length d) (end : at ≡ written_bytes b.written) where
  sheet-long : length (sheet s) ≡ length header + length (remaining beginning s)
  sheet-long = ap length (sym (laws.calls s s [] [] beginning none)) ∙ length-append header (remaining beginning s)

  room_for : length header ≤ length d
  room_for = let l = sheet-long in omega arith

  pub place : at ≡ length header
  place = end ∙ ap written_bytes (begun_to begun room_for)

  pub kept : length d₁ ≡ length d
  kept = ap length (begun-slice begun room_for) ∙ splice-length d 0 header (let h = room_for in omega arith)

  pub place-within : at ≤ length d₁
  place-within = let a = place in let k = kept in let h = room_for in omega arith

  module _ {f f' : Fed} {r : Printed} {e : List ℕ} (is : f ≡ beginning) (p₀ : Prints f s true (take (length d₁ - at) (drop at d₁)) r f' e) where
    p : Prints beginning s true (drop at d₁) r f' e
    p = subst (λ (g : Fed). Prints g s true (drop at d₁) r f' e) is (subst (λ (x : List ℕ). Prints f s true x r f' e) (part-rest d₁ at) p₀)

    abbrev all : Call
    all = record { piece = s; last = true; room = length (drop at d₁) }

    abbrev lines : List ℕ
    lines = (answer beginning all).lines

    done : (answer beginning all).fed.over ≡ true
    done = laws.one beginning s (length (drop at d₁)) (let l = length-drop at d₁ in let k = kept in let m = sheet-long in let a = place in omega arith)

    not_short : is_short beginning all ≡ false
    not_short = on (tested (is_short beginning all)) (λ t. absurd (clash done (ap (λ (x : Print). x.fed.over) (laws.short beginning all t)))) (λ t. t)

    whole : header ++ lines ≡ sheet s
    whole = laws.over s (drop (answer beginning all).used s) lines (all ∷ []) (answer beginning all).fed (call-more all none (sym (append-nil s)) (λ t. refl)) done

    pub bytes : written_bytes r.written ≡ length lines
    bytes = ap written_bytes (printed-to p not_short)

    pub all-within : at + length lines ≤ length d
    all-within = let a = place in let l = ap length whole in let k = length-append header lines in omega arith

    pub writes-all : {n : ℕ} {d' : List ℕ} → n ≡ written_bytes r.written → d' ≡ take at d₁ ++ (e ++ drop (length d₁ - at) (drop at d₁)) → Writes d 0 (sheet s) (Ok (at + n)) d'
    writes-all {n} {d'} q z =
        let l = ap length whole in
        let k = length-append header lines in
        let m = bytes in
        let a : at ≡ 0 + length header = let i = place in omega arith in
        writes-to (omega arith) (omega arith)
        (z
        ∙ ap (λ (x : List ℕ). take at d₁ ++ (x ++ drop (length d₁ - at) (drop at d₁))) p.out
        ∙ part-written d₁ at lines
        ∙ ap₂ (λ (x : List ℕ) (i : ℕ). splice x i lines) (begun-slice begun room_for) a
        ∙ splices d 0 header lines (omega arith)
        ∙ ap (splice d 0) whole)
