-- `labels_spelled` meets its contract: the two counts are the same exactly where no octet of a label is another (`spelled_counted`).
use native.Mathlib.Omega.{arith}
use Rattle.name.proofs.Whole.{whole_fits}
use Rattle.spelling.proofs.SpelledLabels.{spelled_counted}
use Rattle.spelling.proofs.labels_spelled.Goals as goal

pub others-requires : goal.others-requires
others-requires c = let b = c.requires in (omega (arith, b.within), omega (arith, b.within, whole_fits _ b.whole))

pub returns : goal.returns
returns c = spelled_counted c.requires c.others.ensures c.other_lengths.ensures
