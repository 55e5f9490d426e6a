use native.Mathlib.Omega.{arith}
use mathlib.Core.Logic.{⊎_elim}
use mathlib.Core.Path.{sym, ◌∙◌}
use Prim.Native.Nat.{◌+◌, ◌-◌, ◌<◌, ◌≤◌}
use borrow.Author.Tests.{lt-leb, le-leb}
use Rattle.lists.proofs.Cases.{less}
use Rattle.text.proofs.fits.Goals as goal

pub returns-then-at-room : goal.returns-then-at-room
returns-then-at-room c = let h : c.args.room < c.args.at + c.args.n = omega arith in sym (lt-leb _ _ h)

pub returns-else-at-room : goal.returns-else-at-room
returns-else-at-room c =
    let a = c.args in
    ⊎_elim
    (λ h. let over : a.room < a.at + a.n = omega arith in lt-leb _ _ h ∙ sym (lt-leb _ _ over))
    (λ h. let within : a.at + a.n ≤ a.room = omega arith in le-leb _ _ h ∙ sym (le-leb _ _ within))
    (less (a.room - a.at) a.n)
