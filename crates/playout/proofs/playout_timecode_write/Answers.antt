use Rattle.std.specs.Prelude.{Err}
use mathlib.Core.Path.{sym, ap, subst, ◌∙◌}
use Prim.Native.Nat.{ℕ}
use Rattle.refusal.proofs.Answers.{took, declined}
use Rattle.text.specs.Write.{WritesIf}
use Rattle.text.proofs.Writing.{refuses-first}
use Rattle.timecode.specs.Label.{label}
use Rattle.timecode.specs.Read.{of_timecode, in_day, take_frame}
use Rattle.playout.proofs.Writings.{puts_if}
use Rattle.playout.proofs.playout_timecode_write.Goals as goal

pub returns-in-Ok : goal.returns-in-Ok
unfolding take_frame
returns-in-Ok c =
    let n = c.args.frame in
    let t = took (in_day n) n 3 (sym c.of_frame.ensures ∙ ap of_timecode c.in-Ok.is) in
    puts_if (rw (← t.1) at c.write.ensures) c.written_of.ensures

pub returns-in-Err : goal.returns-in-Err
unfolding take_frame
returns-in-Err c =
    let a = c.args in
    let k = c.in-Err.k in
    let t = declined (in_day a.frame) a.frame 3 (sym c.of_frame.ensures ∙ ap of_timecode c.in-Err.is) in
    puts_if
    (subst (λ (n : ℕ). WritesIf (in_day a.frame) n a.out.now 0 (label a.frame) (Err k) a.out.now) (sym t.1) (refuses-first k t.0))
    c.written_of-in-Err.ensures
