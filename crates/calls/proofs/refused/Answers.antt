use mathlib.Core.Path.{refl}
use Rattle.calls.proofs.Ending.{no_channel_is}
use Rattle.calls.proofs.refused.Goals as goal

pub returns : goal.returns
returns c = record { verdict = refl; channel = no_channel_is c.fresh-opened.ensures.channel c.empty.ensures }
