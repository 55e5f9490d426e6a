use native.Mathlib.Omega.{arith}
use Rattle.roles.specs.Words.{word_bytes}
use Rattle.lines.proofs.Pieces.{few, line-long, word_short}
use Rattle.lines.proofs.line_length.Goals as goal

pub overflow_add-result : goal.overflow_add-result
overflow_add-result c =
    let a = c.args in
    omega (arith, few a.identity c.width.ensures (omega arith), c.word_length.ensures, word_short a.word)

pub overflow_add-result-2 : goal.overflow_add-result-2
overflow_add-result-2 c =
    let a = c.args in
    omega (arith, few a.identity c.width.ensures (omega arith), c.word_length.ensures, word_short a.word)

pub returns : goal.returns
returns c =
    let a = c.args in (
      omega (arith, line-long a.frame a.identity (word_bytes a.word), c.width.ensures, c.word_length.ensures),
      omega (arith, few a.identity c.width.ensures (omega arith), c.word_length.ensures, word_short a.word),
    )
