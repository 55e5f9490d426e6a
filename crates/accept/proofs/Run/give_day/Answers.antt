use Rattle.accept.proofs.Taking.{day-within, fits, rest}
use Rattle.accept.proofs.Run.give_day.Goals as goal

pub without-rest-requires : goal.without-rest-requires
without-rest-requires g c = fits c.requires (day-within c.take_day-given.ensures)

pub filled-requires : goal.filled-requires
filled-requires g c = rest c.requires (day-within c.take_day-given.ensures) c.without-rest.ensures
