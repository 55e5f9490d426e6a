use Rattle.text.proofs.Writing.{fits-is_ok}
use Rattle.lines.proofs.put_number.Goals as goal

pub unwrap-requires : goal.unwrap-requires
unwrap-requires c = fits-is_ok c.requires c.write_number.result c.write_number.ensures.writes

pub returns : goal.returns
returns c = rw c.unwrap.ensures at c.write_number.ensures.writes
