use Rattle.vectors.specs.Tally.{beginning}
use Rattle.vectors.proofs.Pairing.{Pairing}
use Rattle.vectors.proofs.all_pairs.Given as goal

abbrev pub invariant-loop-k : goal.invariant-loop-k
invariant-loop-k g l = Pairing l.file (beginning l.at) l.count l.k l.tally
