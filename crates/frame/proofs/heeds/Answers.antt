use mathlib.Core.Path.{ap, ap₂, ◌∙◌}
use mathlib.Core.Bool.{◌&&◌}
use Prim.Native.Nat.{ℕ}
use Rattle.frame.specs.Steps.{higher_beats}
use Rattle.frame.proofs.heeds.Goals as goal

pub returns : goal.returns
returns c =
    let a = c.args in
    let own = c.rank_number.ensures in
    (ap₂ ◌&&◌ c.is_backup.ensures (c.higher_beats.ensures ∙ ap (λ (n : ℕ). higher_beats n a.rank a.sending) own.0), own.1.0)
