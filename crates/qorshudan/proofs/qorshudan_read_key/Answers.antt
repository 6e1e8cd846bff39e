-- `qorshudan_read_key` meets its contract: the values of what the operation says are small, so packing them loses nothing.
use native.Mathlib.Omega.{arith}
use Rattle.qorshudan.proofs.Packing.{exports, value_fits}
use Rattle.qorshudan.proofs.Values.{read_key_small}
use Rattle.qorshudan.proofs.qorshudan_read_key.Goals as goal

pub pack_outcome-requires : goal.pack_outcome-requires
pack_outcome-requires c = value_fits c.read_key.ensures (read_key_small _ _) (omega arith)

pub returns : goal.returns
returns c = exports c.read_key.ensures c.pack_outcome.ensures
