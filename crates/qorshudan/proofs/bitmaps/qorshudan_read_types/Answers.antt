-- `qorshudan_read_types` meets its contract: the values of what the operation says are small, so packing them loses nothing.
use native.Mathlib.Omega.{arith}
use lib.ListN.{length}
use Rattle.qorshudan.proofs.Packing.{exports, value_fits}
use Rattle.qorshudan.proofs.TypeSizes.{read_types_small}
use Rattle.qorshudan.proofs.bitmaps.qorshudan_read_types.Goals as goal

pub pack_types-requires : goal.pack_types-requires
pack_types-requires c = let a = c.args in
    value_fits c.read_types.ensures (read_types_small a.bitmap.now (length a.types.now)) (omega arith)

pub returns : goal.returns
returns c = exports c.read_types.ensures c.pack_types.ensures
