-- `qorshudan_write_types` meets its contract: the values of what the operation says are small, so packing them loses nothing.
use native.Mathlib.Omega.{arith}
use lib.ListN.{length}
use Rattle.qorshudan.proofs.Packing.{exports, value_fits}
use Rattle.qorshudan.proofs.TypeSizes.{write_types_small}
use Rattle.qorshudan.proofs.bitmaps.qorshudan_write_types.Goals as goal

pub pack_types-requires : goal.pack_types-requires
pack_types-requires c = let a = c.args in
    let small = write_types_small a.types.now (length a.space.now) (λ i. (c.type_inv.types i).fits) in
    value_fits c.write_types.ensures small (omega arith)

pub returns : goal.returns
returns c = exports c.write_types.ensures c.pack_types.ensures
