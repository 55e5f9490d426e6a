use Rattle.std.proofs.Common.{rules, ◌≡◌, ◌∙◌, sym}
use Rattle.std.specs.List.{fold}
use Rattle.std.proofs.lemmas.Iterator.{YieldsList-from_slice}
use Rattle.std.proofs.lemmas.Iterator.Consumers.{fold_from_yields_List}
use Rattle.vectors.specs.Check.{stepped}
use Rattle.vectors.proofs.Checking.{folded}
use Rattle.vectors.proofs.check.Goals as goal

pub returns : goal.returns
returns c =
    let s = c.args.s.now in
    let e : c.fold.result ≡ fold stepped 14695981039346656037 s =
    fold_from_yields_List _ stepped _ c.fold.result c.fold.ensures.ran (YieldsList-from_slice s cc) (λ a x b k. search rules) in
    e ∙ sym (folded s)
