use Rattle.std.proofs.Common.{◌≡◌, ◌∙◌, length, rules, arith}
use Rattle.std.proofs.lemmas.Iterator.{YieldsList-from_slice, YieldsList-from_map}
use Rattle.std.proofs.lemmas.Iterator.Consumers.{sum_by_from_yields_List, fits_by_from_yields_list}
use Rattle.lists.proofs.Cases.{length_mapped}
use Rattle.group.proofs.Tables.{one_of, sum_counts, counted-few}
use Rattle.group.proofs.count.Goals as goal

pub sum-requires-clause-fits : goal.sum-requires-clause-fits
sum-requires-clause-fits c =
    fits_by_from_yields_list one_of c.args.servers _ _
    (YieldsList-from_map _ one_of (YieldsList-from_slice c.args.servers cc) c.map.ensures.closure (λ x r q k. search rules))
    (let long : length c.args.servers ≡ 16 = search (rules, length_mapped) in omega (arith, sum_counts c.args.servers, counted-few c.args.servers))

pub returns : goal.returns
returns c =
    sum_by_from_yields_List one_of c.args.servers c.map.result _ c.sum.ensures.ran
    (YieldsList-from_map _ one_of (YieldsList-from_slice c.args.servers cc) c.map.ensures.closure (λ x r q k. search rules))
    ∙ sum_counts c.args.servers
