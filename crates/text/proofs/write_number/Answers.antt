use mathlib.Core.Path.{sym, ◌∙◌}
use borrow.Author.Tests.{leb-true, leb-false}
use Rattle.text.proofs.Trips.{trips}
use Rattle.text.proofs.Writing.{writes_short}
use Rattle.text.proofs.write_number.Goals as goal

pub put_digits-requires : goal.put_digits-requires
put_digits-requires c = leb-true _ _ (sym c.digits_fit.ensures ∙ c.if-digits_fit.true)

pub returns-then-digits_fit : goal.returns-then-digits_fit
returns-then-digits_fit c = record { writes = c.put_digits.ensures; trips = trips }

pub returns-else-digits_fit : goal.returns-else-digits_fit
returns-else-digits_fit c = record { writes = writes_short (leb-false _ _ (sym c.digits_fit.ensures ∙ c.if-digits_fit.false)); trips = trips }
