-- `qorshudan_largest_type` meets its contract: the values of what the operation says are small, so packing them loses nothing.
use native.Mathlib.Omega.{arith}
use mathlib.Core.Path.{ap, ◌∙◌}
use Rattle.qorshudan.specs.Packed.{packed}
use Rattle.qorshudan.proofs.TypeSizes.{largest_small}
use Rattle.qorshudan.proofs.bitmaps.qorshudan_largest_type.Goals as goal

pub pack_type-requires : goal.pack_type-requires
pack_type-requires c = let a = c.args in
    rw c.largest_type.ensures (omega (arith, largest_small a.bitmap.now))

pub returns : goal.returns
returns c = c.pack_type.ensures ∙ ap packed c.largest_type.ensures
