-- `qorshudan_read_hash_label` meets its contract: the values of what the operation says are small, so packing them loses nothing.
use native.Mathlib.Omega.{arith}
use lib.ListN.{length}
use Rattle.qorshudan.proofs.Packing.{exports, value_fits}
use Rattle.qorshudan.proofs.PackedHashes.{read_label_small}
use Rattle.qorshudan.proofs.hashes.qorshudan_read_hash_label.Goals as goal

pub pack_hash-requires : goal.pack_hash-requires
pack_hash-requires c = let a = c.args in
    value_fits c.read_label.ensures (read_label_small a.label.now (length a.space.now)) (omega arith)

pub returns : goal.returns
returns c = exports c.read_label.ensures c.pack_hash.ensures
