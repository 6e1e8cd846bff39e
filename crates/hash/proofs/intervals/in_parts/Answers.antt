-- `in_parts` meets its contract: the three parts are all octets (`value_parts`).
use Rattle.hash.proofs.Lesser.{value_parts}
use Rattle.std.proofs.Common.{rules}
use Rattle.hash.proofs.intervals.in_parts.Goals as goal

pub returns : goal.returns
returns c = rw (c.part-high.ensures, c.part-middle.ensures, c.part-low.ensures) (value_parts c.args.hash (search rules))
