use native.Mathlib.Omega.{arith}
use Rattle.roles.specs.Words.{word_bytes}
use Rattle.lines.proofs.Pieces.{line-long}
use Rattle.lines.proofs.Puts.{tab-room, digits-room, end-room, line-put}
use Rattle.lines.proofs.put_line.Goals as goal

pub put_bytes-a-requires : goal.put_bytes-a-requires
put_bytes-a-requires c = let a = c.args in omega (arith, c.requires, line-long a.frame a.identity (word_bytes a.word))

pub put_bytes-b-requires : goal.put_bytes-b-requires
put_bytes-b-requires c =
    let a = c.args in
    tab-room a.frame a.identity (word_bytes a.word) c.requires (rw c.label_of-label.ensures at c.put_bytes-a.ensures)

pub put_number-c-requires : goal.put_number-c-requires
put_number-c-requires c =
    let a = c.args in
    digits-room a.frame a.identity (word_bytes a.word) c.requires (rw c.label_of-label.ensures at c.put_bytes-a.ensures) c.put_bytes-b.ensures

pub put_end-requires : goal.put_end-requires
put_end-requires c =
    let a = c.args in
    end-room a.frame a.identity (word_bytes a.word) c.requires (rw c.label_of-label.ensures at c.put_bytes-a.ensures) c.put_bytes-b.ensures c.put_number-c.ensures

pub returns : goal.returns
returns c =
    let a = c.args in
    line-put a.frame a.identity (word_bytes a.word) c.requires (rw c.label_of-label.ensures at c.put_bytes-a.ensures) c.put_bytes-b.ensures c.put_number-c.ensures c.put_end.ensures
