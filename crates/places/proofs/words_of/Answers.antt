use mathlib.Core.Path.{refl}
use native.Mathlib.Omega.{arith}
use Rattle.lists.proofs.Cases.{length_mapped}
use Rattle.places.proofs.Words.{stored-begin, stored-turn, stored-end}
use borrow.Author.Rules.{rules}
use Rattle.places.proofs.words_of.Goals as goal

pub loop-i-init : goal.loop-i-init
loop-i-init c = stored-begin refl (search (rules, length_mapped))

pub loop-i-preserved : goal.loop-i-preserved
loop-i-preserved c = stored-turn c.loop-i.invariant c.loop-i-test.true refl c.store.ensures

pub returns : goal.returns
returns c = stored-end c.loop-i.invariant c.loop-i-test.false
