use mathlib.Core.Path.{◌∙◌, ap}
use native.Mathlib.Omega.{arith}
use Rattle.places.specs.Words.{sending_number}
use Rattle.places.proofs.Words.{fits-of}
use Rattle.frame.proofs.Listing.{list_begin, list_turn, list_end}
use Rattle.frame.proofs.list_senders.Goals as goal

pub loop-i-init : goal.loop-i-init
loop-i-init c = list_begin c.requires.1.0 c.requires.1.1

pub loop-i-preserved : goal.loop-i-preserved
loop-i-preserved c =
    list_turn c.loop-i.invariant (omega (arith, c.requires.0.few, c.loop-i-test.true)) (c.sending_number-sending.ensures.0 ∙ ap sending_number c.server.ensures) c.one_if-count.ensures

pub overflow_add-count : goal.overflow_add-count
overflow_add-count c = omega (arith, (loop-i-preserved c).few)

pub returns : goal.returns
returns c = list_end (fits-of c.args.words.now) c.requires.0 c.loop-i.invariant c.loop-i-test.false
