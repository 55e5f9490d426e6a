use mathlib.Core.Path.{◌≡◌}
use native.Mathlib.Omega.{arith}
use borrow.Author.Rules.{rules}
use lib.ListN.{length}
use Rattle.places.proofs.Words.{clear_is}
use Rattle.places.proofs.Canonical.{clear_keeps}
use Rattle.frame.proofs.clear_at.Goals as goal

pub overflow_mul-words : goal.overflow_mul-words
overflow_mul-words c = omega (arith, c.requires)

pub overflow_add-words : goal.overflow_add-words
overflow_add-words c = omega (arith, c.requires)

pub offset_bounds-words-j : goal.offset_bounds-words-j
offset_bounds-words-j c = omega (arith, c.requires)

pub bounds-words-j : goal.bounds-words-j
bounds-words-j c = let long : length c.args.words.now ≡ 80 = search rules in omega (arith, c.requires)

pub returns : goal.returns
returns c = let a = c.args in let long : length a.words.now ≡ 80 = search rules in (clear_keeps a.j, clear_is a.words.now a.j 0 long c.requires)
