use Rattle.std.specs.Prelude.{Result, Ok, Err}
use mathlib.Core.Path.{◌≡◌, refl, ap, ◌∙◌}
use Prim.Native.Nat.{ℕ}
use Rattle.refusal.specs.Answer.{of_verdict}
use Rattle.refusal.specs.declared.Refusal.{Refusal}
use Rattle.text.specs.Write.{of_written}
use Rattle.frame.specs.Answers.{verdict_of, bytes_of}
use Rattle.playout.specs.declared.PlainWritten.{PlainWritten}
use Rattle.playout.specs.Writing.{written_of}
use Rattle.playout.proofs.answered.Goals as goal

-- a writer's answer in numbers
in_numbers : (r : Result ℕ Refusal) → written_of (of_written r) ≡ record { number = of_verdict (verdict_of r); written = bytes_of r }
in_numbers (Ok n) = refl
in_numbers (Err k) = refl

pub returns : goal.returns
returns c =
    let e = c.written_of-put.ensures ∙ in_numbers c.args.answer.written in
    rw (e, c.plain_channel.ensures, c.state.ensures)
