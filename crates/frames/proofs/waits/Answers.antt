use mathlib.Core.Path.{◌∙◌, sym, subst}
use mathlib.Core.Logic.{inl, inr}
use Prim.Native.Nat.{ℕ, ◌+◌}
use Rattle.lists.proofs.Cases.{fst_true, snd_true}
use Rattle.frame.specs.Steps.{NotDue}
use Rattle.frame.proofs.Hearings.{backup_is}
use Rattle.frames.proofs.waits.Goals as goal

pub returns-then-is_backup : goal.returns-then-is_backup
returns-then-is_backup c e =
    let a = c.args in
    let first = fst_true a.link c.sleeps.result e in
    let rest = snd_true a.link c.sleeps.result e in
    inr (
      backup_is a.s.role (sym c.is_backup.ensures ∙ c.if-is_backup.true),
      (first, subst (λ (n : ℕ). NotDue a.s.silence n a.frame (a.next + 1)) c.silence_limit.ensures (c.sleeps.ensures rest)),
    )

pub returns-else-is_backup : goal.returns-else-is_backup
returns-else-is_backup c e = inl (sym c.is_still.ensures ∙ e)
