-- A refusal before anything is written, or the digits of the hash, which are then spelled.
use mathlib.Core.Path.{refl, sym}
use native.Mathlib.Omega.{arith}
use Rattle.name.proofs.Answers.{fills_no_room, fills_answer}
use Rattle.hash.proofs.Arrays.{array_octets}
use Rattle.hash.proofs.Label.{label_length}
use Rattle.hashlabel.proofs.Writing.{to_label, front_below, label_spelled}
use borrow.Author.Rules.{rules}
use Rattle.hashlabel.proofs.spell_hash.Goals as goal

pub returns-then-space-lt32 : goal.returns-then-space-lt32
returns-then-space-lt32 c = fills_no_room refl (omega (arith, label_length c.args.hash))

pub regroup-requires : goal.regroup-requires
regroup-requires c = to_label c.args.hash c.args.space.now (search rules) (search (array_octets, rules)) c.if-space-lt32.false

pub spell-requires : goal.spell-requires
spell-requires c = let a = c.args in
    (search rules, front_below a.hash a.space.now c.regroup.ensures)

pub returns : goal.returns
returns c = let a = c.args in
    fills_answer refl (sym (label_length a.hash)) (omega (arith, label_length a.hash))
    (label_spelled a.hash a.space.now c.regroup.ensures c.spell.ensures)
