-- `all_spelled` meets its contract: folded labels are spelled in the full alphabet (`full_labels_spelled`).
use Rattle.spelling.proofs.SpelledLabels.{full_labels_spelled}
use Rattle.spelling.proofs.all_spelled.Goals as goal

pub returns-in-Full : goal.returns-in-Full
returns-in-Full c = rw c.in-Full.is (full_labels_spelled _ c.args.cut)

pub returns-in-Ldh : goal.returns-in-Ldh
returns-in-Ldh c = rw c.in-Ldh.is c.labels_spelled.ensures
