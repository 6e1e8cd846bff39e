-- What is made on the spot covers no name that exists: the gaps of a denial (`denies_missing`), and the gap around a name
-- (`denies_itself`).
use mathlib.Core.Path.{refl}
use Rattle.name.specs.Wire.{read_from}
use Rattle.name.specs.Labels.{split}
use Rattle.zone.specs.Alphabet.{scan, from, below}
use Rattle.zone.specs.Steps.{least, greatest, raised, climb, deeper, successor_steps, fill_labels, predecessor_steps}
use Rattle.existing.specs.OnTheSpot.{OnTheSpot}
use Rattle.existing.proofs.OnTheSpotDenial.{denies_missing}
use Rattle.existing.proofs.OnTheSpotNeighbours.{neighbours_itself, modified_itself}

pub on_the_spot : OnTheSpot
unfolding read_from split scan from below least greatest raised climb deeper successor_steps fill_labels predecessor_steps
on_the_spot =
    record {
      denial = denies_missing;
      neighbours = λ alphabet apex limit names name owner next q n missing e f.
          neighbours_itself alphabet apex limit names name owner next q missing n e f;
      modified = λ alphabet depth apex limit names name owner next q n missing e f.
          modified_itself alphabet apex limit names name owner next q missing depth n e f;
      too_deep = (refl, refl, refl);
    }
