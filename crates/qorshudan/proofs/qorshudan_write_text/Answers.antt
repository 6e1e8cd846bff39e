-- `qorshudan_write_text` meets its contract: the values of what the operation says are small, so packing them loses nothing.
use native.Mathlib.Omega.{arith}
use Rattle.qorshudan.proofs.Packing.{exports, value_fits}
use Rattle.qorshudan.proofs.Values.{write_text_small}
use Rattle.qorshudan.proofs.qorshudan_write_text.Goals as goal

pub pack_outcome-requires : goal.pack_outcome-requires
pack_outcome-requires c = value_fits c.write_text.ensures (write_text_small _ _) (omega arith)

pub returns : goal.returns
returns c = exports c.write_text.ensures c.pack_outcome.ensures
