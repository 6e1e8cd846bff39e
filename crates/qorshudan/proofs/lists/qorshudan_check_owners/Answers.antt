-- `qorshudan_check_owners` meets its contract: the values of what the operation says are small, so packing them loses nothing.
use mathlib.Core.Path.{ap, ◌∙◌}
use Rattle.qorshudan.specs.Packed.{packed}
use Rattle.qorshudan.proofs.PackedOwners.{owners_small}
use Rattle.qorshudan.proofs.lists.qorshudan_check_owners.Goals as goal

pub pack_owners-requires : goal.pack_owners-requires
pack_owners-requires c = let a = c.args in
    rw c.check_owners.ensures (owners_small a.apex.now a.limit a.names.now a.starts.now)

pub returns : goal.returns
returns c = c.pack_owners.ensures ∙ ap packed c.check_owners.ensures
