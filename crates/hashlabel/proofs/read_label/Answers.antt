-- A label is refused for its length or a character, and otherwise its digits are regrouped where the hash has room.
use Rattle.hash.specs.Label.{label_digits}
use Rattle.hash.specs.Private.Below.{Below}
use mathlib.Core.Path.{◌≡◌, sym}
use lib.ListN.{length}
use native.Mathlib.Omega.{arith}
use Rattle.name.proofs.Answers.{fills_refusal, fills_no_room, fills_answer}
use Rattle.hash.proofs.Label.{hash_length}
use Rattle.hashlabel.proofs.Writing.{to_hash, tested_right, tested_wrong, other_length, other_character, label_taken, hash_written}
use Rattle.hashlabel.proofs.Writing.{digits_size}
use Rattle.hashlabel.proofs.read_label.Goals as goal

pub returns-then-label-ne32 : goal.returns-then-label-ne32
returns-then-label-ne32 c = fills_refusal (other_length c.args.label.now (omega arith))

pub returns-then-space-lt20 : goal.returns-then-space-lt20
returns-then-space-lt20 c = let size : length c.args.label.now ≡ 32 = omega arith in
    let right : Below 32 (label_digits c.args.label.now) =
    tested_right (label_digits c.args.label.now) c.unspell.ensures c.are_digits.ensures c.if-are_digits.true in
    fills_no_room (label_taken c.args.label.now size right) (omega (arith, hash_length c.args.label.now))

pub slice_bounds-regroup-end : goal.slice_bounds-regroup-end
slice_bounds-regroup-end c = let size : length c.args.label.now ≡ 32 = omega arith in
    sym (digits_size c.args.label.now size c.unspell.ensures)

pub regroup-requires : goal.regroup-requires
regroup-requires c = let size : length c.args.label.now ≡ 32 = omega arith in
    let right : Below 32 (label_digits c.args.label.now) =
    tested_right (label_digits c.args.label.now) c.unspell.ensures c.are_digits.ensures c.if-are_digits.true in
    to_hash c.unspell.new.digits c.args.space.now (digits_size c.args.label.now size c.unspell.ensures)
    (rw c.unspell.ensures right) c.if-space-lt20.false

pub returns-then-are_digits : goal.returns-then-are_digits
returns-then-are_digits c = let size : length c.args.label.now ≡ 32 = omega arith in
    let right : Below 32 (label_digits c.args.label.now) =
    tested_right (label_digits c.args.label.now) c.unspell.ensures c.are_digits.ensures c.if-are_digits.true in
    fills_answer (label_taken c.args.label.now size right) (sym (hash_length c.args.label.now))
    (omega (arith, hash_length c.args.label.now))
    (hash_written c.args.label.now size _ c.args.space.now c.unspell.ensures c.regroup.ensures)

pub returns : goal.returns
returns c = let size : length c.args.label.now ≡ 32 = omega arith in
    fills_refusal (other_character c.args.label.now size
    (tested_wrong (label_digits c.args.label.now) c.unspell.ensures c.are_digits.ensures c.if-are_digits.false))
