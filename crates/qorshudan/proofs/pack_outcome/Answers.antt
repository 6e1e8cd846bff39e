-- `pack_outcome` meets its contract: an answer packs its length, and a refusal is packed as a refusal.
use native.Mathlib.Omega.{arith}
use Rattle.qorshudan.proofs.pack_outcome.Goals as goal

pub pack-requires : goal.pack-requires
pack-requires c = (omega arith, omega arith, rw c.in-Ok.is at c.requires)

pub pack_refusal-requires : goal.pack_refusal-requires
pack_refusal-requires c = rw c.in-Err.is at c.requires

pub returns-in-Ok : goal.returns-in-Ok
returns-in-Ok c = rw c.in-Ok.is c.pack.ensures

pub returns-in-Err : goal.returns-in-Err
returns-in-Err c = rw c.in-Err.is c.pack_refusal.ensures
