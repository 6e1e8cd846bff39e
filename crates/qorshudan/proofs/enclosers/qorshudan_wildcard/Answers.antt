-- `qorshudan_wildcard` meets its contract: the values of what the operation says are small, so packing them loses nothing.
use native.Mathlib.Omega.{arith}
use Rattle.qorshudan.proofs.Packing.{exports, value_fits}
use Rattle.qorshudan.proofs.PackedEnclosers.{wildcard_small}
use Rattle.qorshudan.proofs.enclosers.qorshudan_wildcard.Goals as goal

pub pack_outcome-requires : goal.pack_outcome-requires
pack_outcome-requires c = value_fits c.wildcard.ensures (wildcard_small _ _) (omega arith)

pub returns : goal.returns
returns c = exports c.wildcard.ensures c.pack_outcome.ensures
