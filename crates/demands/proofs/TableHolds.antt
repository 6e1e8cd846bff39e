-- Every case of the table holds of the definitions, by computation.
use mathlib.Core.Path.{◌≡◌, refl}
use mathlib.Core.Bool.{true}
use Rattle.name.specs.Wire.{read_from}
use Rattle.name.specs.Labels.{split}
use Rattle.order.specs.Sequence.{labels}
use Rattle.key.specs.ReadKey.{read_key, read_escaped}
use Rattle.zone.specs.Alphabet.{scan, from, below}
use Rattle.zone.specs.Steps.{least, greatest, raised, climb, deeper, successor_steps, fill_labels, predecessor_steps}
use Rattle.demands.specs.Table.{table, all_hold}

pub table_holds : all_hold table ≡ true
unfolding read_from split labels read_key read_escaped scan from below least greatest raised climb deeper successor_steps fill_labels
    predecessor_steps
table_holds = refl
