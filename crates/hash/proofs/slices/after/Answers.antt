-- Octets that are no hash are refused, and a hash is stepped from and written.
use Rattle.name.proofs.Answers.{fills_refusal}
use Rattle.hash.specs.Ring.{after}
use Rattle.hash.proofs.Hashes.{no_hash, hash_answered}
use Rattle.hash.proofs.slices.after.Goals as goal

pub returns-then-hash-ne20 : goal.returns-then-hash-ne20
returns-then-hash-ne20 c = fills_refusal (no_hash c.args.hash.now _ c.if-hash-ne20.true)

pub array-requires : goal.array-requires
array-requires c = tt

pub hash_after-requires : goal.hash_after-requires
hash_after-requires c = tt

pub put_hash-requires : goal.put_hash-requires
put_hash-requires c = tt

pub returns : goal.returns
returns c = hash_answered after c.args.hash.now c.if-hash-ne20.false c.array.ensures c.hash_after.ensures
    c.put_hash.ensures
