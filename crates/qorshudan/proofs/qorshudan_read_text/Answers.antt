-- `qorshudan_read_text` meets its contract: the values of what the operation says are small, so packing them loses nothing.
use native.Mathlib.Omega.{arith}
use lib.ListN.{length}
use Rattle.qorshudan.proofs.Packing.{exports, value_fits}
use Rattle.qorshudan.proofs.Values.{read_text_small}
use Rattle.qorshudan.proofs.qorshudan_read_text.Goals as goal

pub pack_text-requires : goal.pack_text-requires
pack_text-requires c = let a = c.args in
    value_fits c.read_at-read.ensures.fills (read_text_small a.text.now (length a.space.now)) (omega arith)

pub returns : goal.returns
returns c = exports c.read_at-read.ensures.fills c.pack_text.ensures
