-- Octets that are no hash are refused, and the label of a hash is written.
use mathlib.Core.Path.{refl}
use Rattle.name.proofs.Answers.{fills_refusal}
use Rattle.hash.specs.Label.{label_of}
use Rattle.hash.proofs.Hashes.{no_hash, hash_answered}
use Rattle.hashlabel.proofs.write_label.Goals as goal

pub returns-then-hash-ne20 : goal.returns-then-hash-ne20
returns-then-hash-ne20 c = fills_refusal (no_hash c.args.hash.now _ c.if-hash-ne20.true)

pub array-requires : goal.array-requires
array-requires c = tt

pub spell_hash-requires : goal.spell_hash-requires
spell_hash-requires c = tt

pub returns : goal.returns
returns c = hash_answered label_of c.args.hash.now c.if-hash-ne20.false c.array.ensures refl c.spell_hash.ensures
