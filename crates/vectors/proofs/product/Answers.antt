use Rattle.vectors.proofs.Checking.{parts}
use Rattle.vectors.proofs.product.Goals as goal

pub returns : goal.returns
returns c = parts c.args.x c.wrapping_add_u64.ensures.value c.wrapping_add_u64-2.ensures.value
