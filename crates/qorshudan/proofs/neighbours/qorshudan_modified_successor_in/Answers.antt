-- `qorshudan_modified_successor_in` meets its contract: the values of what the operation says are small, so packing them loses nothing.
use mathlib.Core.Path.{sym}
use Rattle.name.proofs.Answers.{fills_same}
use Rattle.plan.specs.declared.Way.TheVariants.{After}
use Rattle.neighbour.specs.Private.Depths.{depth_of}
use Rattle.neighbour.proofs.Depths.{modified_successor_nearest}
use Rattle.qorshudan.proofs.Packing.{exports}
use Rattle.qorshudan.proofs.Values.{neighbour_fits}
use Rattle.qorshudan.proofs.neighbours.qorshudan_modified_successor_in.Goals as goal

pub pack_outcome-requires : goal.pack_outcome-requires
pack_outcome-requires c = let a = c.args in
    let m = modified_successor_nearest a.apex.now a.limit a.name.now c.alphabet_of.result a.depth in
    neighbour_fits After c.alphabet_of.result (depth_of a.depth) a.apex.now a.limit a.name.now
    c.type_inv.apex c.type_inv.name (fills_same (sym m) c.modified_successor.ensures)

pub returns : goal.returns
returns c = exports (rw c.alphabet_of.ensures at c.modified_successor.ensures) c.pack_outcome.ensures
