-- `qorshudan_hash_before` meets its contract: the values of what the operation says are small, so packing them loses nothing.
use native.Mathlib.Omega.{arith}
use lib.ListN.{length}
use Rattle.qorshudan.proofs.Packing.{exports, value_fits}
use Rattle.qorshudan.proofs.PackedHashes.{before_small}
use Rattle.qorshudan.proofs.hashes.qorshudan_hash_before.Goals as goal

pub pack_hash-requires : goal.pack_hash-requires
pack_hash-requires c = let a = c.args in
    value_fits c.before-2.ensures (before_small a.hash.now (length a.space.now)) (omega arith)

pub returns : goal.returns
returns c = exports c.before-2.ensures c.pack_hash.ensures
