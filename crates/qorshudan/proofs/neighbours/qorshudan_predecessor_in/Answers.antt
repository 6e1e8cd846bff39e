-- `qorshudan_predecessor_in` meets its contract: the values of what the operation says are small, so packing them loses nothing.
use Rattle.checks.specs.declared.Depth.TheVariants.{All}
use Rattle.plan.specs.declared.Way.TheVariants.{Before}
use Rattle.qorshudan.proofs.Packing.{exports}
use Rattle.qorshudan.proofs.Values.{neighbour_fits}
use Rattle.qorshudan.proofs.neighbours.qorshudan_predecessor_in.Goals as goal

pub pack_outcome-requires : goal.pack_outcome-requires
pack_outcome-requires c = let a = c.args in
    neighbour_fits Before c.alphabet_of.result All a.apex.now a.limit a.name.now
    c.type_inv.apex c.type_inv.name c.predecessor.ensures

pub returns : goal.returns
returns c = exports (rw c.alphabet_of.ensures at c.predecessor.ensures) c.pack_outcome.ensures
