use native.Mathlib.Omega.{arith}
use lib.ListN.{length-append}
use Rattle.roles.specs.Words.{word_bytes}
use Rattle.lines.specs.Lines.{line}
use Rattle.lines.proofs.Puts.{room, then}
use Rattle.lines.proofs.put_two.Goals as goal

pub put_line-next-requires : goal.put_line-next-requires
put_line-next-requires c =
    let a = c.args in
    omega (arith, c.requires, length-append (line a.frame a.identity (word_bytes a.v)) (line a.frame a.identity (word_bytes a.w)))

pub put_line-requires : goal.put_line-requires
put_line-requires c = room _ c.requires c.put_line-next.ensures

pub returns : goal.returns
returns c = then _ c.requires c.put_line-next.ensures c.put_line.ensures
