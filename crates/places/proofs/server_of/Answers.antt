use Rattle.places.specs.Words.{server_of}
use Rattle.places.proofs.server_of.Goals as goal

pub returns : goal.returns
unfolding server_of
returns c = rw c.role_of.ensures
