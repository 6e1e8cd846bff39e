-- `qorshudan_find_owner` meets its contract: the values of what the operation says are small, so packing them loses nothing.
use mathlib.Core.Path.{ap, ◌∙◌}
use Rattle.name.specs.Answer.{Result}
use Rattle.owners.specs.declared.Found.{Found}
use Rattle.qorshudan.specs.Packed.{packed, found}
use Rattle.qorshudan.proofs.PackedOwners.{lookup_small}
use Rattle.qorshudan.proofs.lists.qorshudan_find_owner.Goals as goal

pub pack_lookup-requires : goal.pack_lookup-requires
pack_lookup-requires c = let a = c.args in
    rw c.find_owner.ensures (lookup_small a.names.now a.starts.now a.query.now)

pub returns : goal.returns
returns c = c.pack_lookup.ensures ∙ ap (λ (r : Result Found). packed (found r)) c.find_owner.ensures
