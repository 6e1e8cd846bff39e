-- `qorshudan_successor` meets its contract: in the full alphabet the answers are document 01's (`full_successor`).
use Rattle.neighbour.proofs.FullAlphabet.{full_successor}
use Rattle.qorshudan.proofs.Packing.{exports_same}
use Rattle.qorshudan.proofs.neighbours.qorshudan_successor.Goals as goal

pub returns : goal.returns
returns c = let a = c.args in
    exports_same (full_successor a.apex.now a.limit a.name.now) c.qorshudan_successor_in.ensures
