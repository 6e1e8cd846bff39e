-- `qorshudan_count_types` meets its contract: the values of what the operation says are small, so packing them loses nothing.
use native.Mathlib.Omega.{arith}
use mathlib.Core.Path.{ap, ◌∙◌}
use Rattle.qorshudan.specs.Packed.{packed}
use Rattle.qorshudan.proofs.TypeSizes.{count_types_small}
use Rattle.qorshudan.proofs.bitmaps.qorshudan_count_types.Goals as goal

pub pack_count-requires : goal.pack_count-requires
pack_count-requires c = let a = c.args in
    rw c.count_types.ensures (omega (arith, count_types_small a.bitmap.now))

pub returns : goal.returns
returns c = c.pack_count.ensures ∙ ap packed c.count_types.ensures
