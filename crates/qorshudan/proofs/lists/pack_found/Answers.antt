-- `pack_found` meets its contract: the number of looks, and 256 for each of 1 plus the index, have room.
use Prim.Native.Nat.{◌^◌, ◌<◌}
use native.Mathlib.Omega.{arith}
use Rattle.owners.specs.declared.Found.TheVariants.{Owner}
use Rattle.qorshudan.specs.Packed.{found_value}
use Rattle.qorshudan.proofs.lists.pack_found.Goals as goal

pub overflow_add-i : goal.overflow_add-i
overflow_add-i c = let room : found_value (Owner c.in-Owner.i c.in-Owner.looks) < 2 ^ 32 = rw c.in-Owner.is at c.requires in
    omega (arith, room)

pub overflow_mul-i : goal.overflow_mul-i
overflow_mul-i c = let room : found_value (Owner c.in-Owner.i c.in-Owner.looks) < 2 ^ 32 = rw c.in-Owner.is at c.requires in
    omega (arith, room)

pub overflow_add-looks : goal.overflow_add-looks
overflow_add-looks c = let room : found_value (Owner c.in-Owner.i c.in-Owner.looks) < 2 ^ 32 = rw c.in-Owner.is at c.requires in
    omega (arith, room)

pub pack-requires : goal.pack-requires
pack-requires c = let room : found_value (Owner c.in-Owner.i c.in-Owner.looks) < 2 ^ 32 = rw c.in-Owner.is at c.requires in
    (omega arith, omega arith, omega (arith, room))

pub pack-requires-in-NoOwner : goal.pack-requires-in-NoOwner
pack-requires-in-NoOwner c = (omega arith, omega arith, rw c.in-NoOwner.is at c.requires)

pub returns-in-Owner : goal.returns-in-Owner
returns-in-Owner c = rw c.in-Owner.is c.pack.ensures

pub returns-in-NoOwner : goal.returns-in-NoOwner
returns-in-NoOwner c = rw c.in-NoOwner.is c.pack-in-NoOwner.ensures
