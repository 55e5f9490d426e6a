use mathlib.Core.Path.{refl}
use native.Mathlib.Omega.{arith}
use lib.ListN.{length-append}
use Rattle.roles.specs.Words.{word_bytes}
use Rattle.lines.specs.Lines.{line, lines_of}
use Rattle.lines.proofs.said_length.Goals as goal

pub overflow_add-result : goal.overflow_add-result
overflow_add-result c = omega (arith, c.line_length-in-Two-2.ensures.1, c.line_length-in-Two.ensures.1)

pub returns-in-Nothing : goal.returns-in-Nothing
unfolding lines_of
returns-in-Nothing c = rw c.in-Nothing.is refl

pub returns-in-One : goal.returns-in-One
unfolding lines_of
returns-in-One c = rw c.in-One.is c.line_length.ensures.0

pub returns-in-Two : goal.returns-in-Two
unfolding lines_of
returns-in-Two c =
    rw c.in-Two.is
    (omega (arith, c.line_length-in-Two-2.ensures.0, c.line_length-in-Two.ensures.0, length-append (line c.args.frame c.args.identity (word_bytes c.in-Two.v)) (line c.args.frame c.args.identity (word_bytes c.in-Two.w))))
