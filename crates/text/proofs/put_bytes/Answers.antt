use mathlib.Core.Path.{refl, ◌∙◌}
use native.Mathlib.Omega.{arith}
use lib.ListN.{length}
use Rattle.std.proofs.lemmas.Slice.{put_mid-paste}
use Rattle.lists.proofs.Splicing.{splice_pasted}
use Rattle.text.proofs.Writing.{writes-to}
use Rattle.text.proofs.put_bytes.Goals as goal

pub returns : goal.returns
returns c =
    let a = c.args in
    let w = a.word.now in
    writes-to (omega arith) refl
    (put_mid-paste a.at _ a.out.now _ w (length w) c.copy_from_slice.ensures.after (omega arith) refl ∙ splice_pasted a.out.now a.at w (length w) refl)
