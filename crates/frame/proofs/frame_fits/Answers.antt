use mathlib.Core.Path.{refl, sym}
use Prim.Native.Nat.{◌+◌}
use native.Mathlib.Omega.{arith}
use borrow.Author.Tests.{le-leb}
use lib.ListN.{length}
use Rattle.group.specs.Frame.{frame_lines}
use Rattle.places.specs.Words.{servers_of}
use Rattle.frame.specs.Answers.{state_of}
use Rattle.places.proofs.Words.{long_of, fits-of}
use Rattle.frame.proofs.Bound.{frame-most}
use Rattle.frame.proofs.Telling.{counted-fits}
use Rattle.frame.proofs.frame_fits.Goals as goal

pub overflow_sub-out : goal.overflow_sub-out
overflow_sub-out c = omega (arith, c.requires.0)

pub returns-then-most_bytes-out : goal.returns-then-most_bytes-out
returns-then-most_bytes-out c =
    let a = c.args in
    let ch = state_of a.before a.period (servers_of a.words.now) a.whole.now in
    let most = frame-most ch a.loud c.requires.1.1.1 (long_of a.words.now) (λ i h. (fits-of a.words.now i h).identity) in
    (sym (le-leb (a.at + length (frame_lines ch)) (length a.out.now) (omega (arith, most, c.most_bytes.ensures, c.if-most_bytes-out.true, c.requires.0))), refl)

pub count_frame-after-requires : goal.count_frame-after-requires
count_frame-after-requires c = c.requires.1

pub returns : goal.returns
returns c =
    let a = c.args in
    let o = c.count_frame-after.ensures in
    counted-fits c.requires.0 o
