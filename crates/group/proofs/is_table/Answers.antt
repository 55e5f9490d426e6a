use mathlib.Core.Bool.{Bool, ◌&&◌}
use mathlib.Core.Path.{◌≡◌, sym, ap, ap₂, ◌∙◌}
use borrow.Author.Rules.{rules}
use borrow.Author.Tests.{eq-eqb}
use lib.ListN.{length}
use Rattle.lists.specs.Lists.{every}
use Rattle.lists.proofs.Cases.{length_mapped}
use Rattle.group.specs.Table.{most, is_new, rises, is_table}
use Rattle.group.proofs.is_table.Goals as goal

pub returns : goal.returns
unfolding is_table
returns c =
    let l = c.args.servers in
    let long : length l ≡ most = search (rules, length_mapped) in
    ap₂ (λ (a b : Bool). a && b) c.are_new.ensures c.rise.ensures ∙ sym (ap (λ (t : Bool). t && (every is_new l && rises l)) (eq-eqb (length l) most long))
