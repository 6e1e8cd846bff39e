-- `qorshudan_label_places` meets its contract: the values of what the operation says are small, so packing them loses nothing.
use native.Mathlib.Omega.{arith}
use Rattle.qorshudan.proofs.Packing.{exports, value_fits}
use Rattle.qorshudan.proofs.Values.{label_places_small}
use Rattle.qorshudan.proofs.qorshudan_label_places.Goals as goal

pub pack_outcome-requires : goal.pack_outcome-requires
pack_outcome-requires c = value_fits c.label_places.ensures (label_places_small _ _) (omega arith)

pub returns : goal.returns
returns c = exports c.label_places.ensures c.pack_outcome.ensures
