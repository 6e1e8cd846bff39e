-- Each of the three is refused in turn, and three hashes are compared as arrays.
use Rattle.hash.proofs.Hashes.{no_first, no_middle, no_second, all_hashes}
use Rattle.hash.proofs.slices.between.Goals as goal

pub returns-then-first-ne20 : goal.returns-then-first-ne20
returns-then-first-ne20 c = let a = c.args in no_first a.first.now a.hash.now a.second.now c.if-first-ne20.true

pub returns-then-hash-ne20 : goal.returns-then-hash-ne20
returns-then-hash-ne20 c = let a = c.args in
    no_middle a.first.now a.hash.now a.second.now c.if-first-ne20.false c.if-hash-ne20.true

pub returns-then-second-ne20 : goal.returns-then-second-ne20
returns-then-second-ne20 c = let a = c.args in
    no_second a.first.now a.hash.now a.second.now c.if-first-ne20.false c.if-hash-ne20.false c.if-second-ne20.true

pub array-requires : goal.array-requires
array-requires c = tt

pub array-requires-2 : goal.array-requires-2
array-requires-2 c = tt

pub array-requires-3 : goal.array-requires-3
array-requires-3 c = tt

pub hash_between-requires : goal.hash_between-requires
hash_between-requires c = tt

pub returns : goal.returns
returns c = let a = c.args in
    all_hashes a.first.now a.hash.now a.second.now c.if-first-ne20.false c.if-hash-ne20.false c.if-second-ne20.false
    c.array.ensures c.array-2.ensures c.array-3.ensures c.hash_between.ensures
