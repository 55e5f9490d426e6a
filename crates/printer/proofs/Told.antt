-- What a writer and the printer answered. Assumes nothing.
use Rattle.std.specs.Prelude.{Result, Ok, Err}
use mathlib.Core.Bool.{Bool, false}
use mathlib.Core.Path.{◌≡◌, ap, ◌∙◌}
use mathlib.Core.List.{List, [], ◌∷◌}
use Prim.Native.Nat.{ℕ, ◌+◌, ◌≤◌}
use native.Mathlib.Omega.{arith}
use borrow.Author.Tests.{le-leb}
use lib.ListN.{length}
use Rattle.lists.specs.Splice.{splice}
use Rattle.lists.proofs.Cases.{chosen, other}
use Rattle.refusal.specs.Answer.{accepted}
use Rattle.refusal.specs.declared.Refusal.{Refusal}
use Rattle.refusal.proofs.Answers.{not-both, one_value}
use Rattle.text.specs.Write.{of_written, writing, wrote}
use Rattle.day.specs.Sheet.{header}
use Rattle.feeding.specs.Fed.{Fed}
use Rattle.feed.specs.declared.Step.{Step}
use Rattle.feed.specs.Answers.{Begins}
use Rattle.printer.specs.declared.Printed.{Printed}
use Rattle.printer.specs.Print.{print, short}
use Rattle.printer.specs.Answers.{Prints}

pub same-to : {m n : ℕ} → ◌≡◌ {A = Result ℕ Refusal} (Ok m) (Ok n) → m ≡ n
same-to e = cc

pub not-to : {A : Type 0} {k : Refusal} {n : ℕ} → ◌≡◌ {A = Result ℕ Refusal} (Err k) (Ok n) → A
not-to e = absurd (let z : ◌≡◌ {A = ℕ} 0 1 = cc in omega arith)

accepted-to : (p : Result ℕ Refusal) {n : ℕ} → of_written p ≡ accepted (n ∷ []) → p ≡ Ok n
accepted-to (Ok m) e = ap Ok (one_value e)
accepted-to (Err k) e = not-both e

-- where the slice has room for it, the header stands at its start
module _ {d : List ℕ} {r : Step} {d' : List ℕ} (b : Begins d r d') (h : length header ≤ length d) where
  pub begun_to : r.written ≡ Ok (length header)
  unfolding writing
  begun_to = accepted-to r.written (b.out.answer ∙ chosen _ (le-leb (0 + length header) (length d) (omega arith)))

  pub begun-slice : d' ≡ splice d 0 header
  unfolding wrote
  begun-slice = b.out.slice ∙ chosen d (le-leb (0 + length header) (length d) (omega arith))

-- where it is not too short, all that was printed was written
pub printed-to : {f : Fed} {s : List ℕ} {last : Bool} {d : List ℕ} {r : Printed} {f' : Fed} {d' : List ℕ} → Prints f s last d r f' d' → short f s last (length d) ≡ false → r.written ≡ Ok (length (print f s last (length d)).lines)
printed-to {r = r} p e = accepted-to r.written (p.answer ∙ other _ e)
