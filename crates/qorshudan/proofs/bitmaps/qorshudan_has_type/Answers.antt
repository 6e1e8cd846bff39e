-- `qorshudan_has_type` meets its contract: the values of what the operation says are small, so packing them loses nothing.
use native.Mathlib.Omega.{arith}
use mathlib.Core.Path.{ap, ◌∙◌}
use Rattle.qorshudan.specs.Packed.{packed}
use Rattle.qorshudan.proofs.TypeSizes.{has_type_small}
use Rattle.qorshudan.proofs.bitmaps.qorshudan_has_type.Goals as goal

pub pack_member-requires : goal.pack_member-requires
pack_member-requires c = let a = c.args in
    rw c.has_type.ensures (omega (arith, has_type_small a.bitmap.now a.t))

pub returns : goal.returns
returns c = c.pack_member.ensures ∙ ap packed c.has_type.ensures
