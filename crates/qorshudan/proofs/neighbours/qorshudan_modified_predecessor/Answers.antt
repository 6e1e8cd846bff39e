-- `qorshudan_modified_predecessor` meets its contract: in the full alphabet the answers are document 01's (`full_modified_predecessor`).
use Rattle.neighbour.proofs.FullAlphabet.{full_modified_predecessor}
use Rattle.qorshudan.proofs.Packing.{exports_same}
use Rattle.qorshudan.proofs.neighbours.qorshudan_modified_predecessor.Goals as goal

pub returns : goal.returns
returns c = let a = c.args in
    exports_same (full_modified_predecessor a.apex.now a.limit a.name.now) c.qorshudan_modified_predecessor_in.ensures
