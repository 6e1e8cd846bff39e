-- `put_short` meets its contract: the block or nothing, the rest over what is too much of it, and the two octets (ShortWriting).
use mathlib.Core.Path.{◌≡◌, ◌∙◌}
use Prim.Native.Nat.{◌+◌}
use native.Mathlib.Omega.{arith}
use lib.ListN.{length, length-set}
use Rattle.space.specs.Private.Put.{folded_part}
use Rattle.space.specs.Private.Written.{Written}
use Rattle.writing.proofs.ShortWriting.{short_none, short_block, short_put}
use Rattle.writing.proofs.put_short.Goals.{else-kept-gt0, then-kept-gt0}
use Rattle.writing.proofs.put_short.Goals as goal

pub bounds-d-kept : goal.bounds-d-kept
bounds-d-kept c = let sized : length c.put_folded.new.d ≡ length c.args.d.now =
    let label : Written c.args.d.now 1 1 (folded_part c.args.s.now c.args.first c.args.kept) (c.args.kept + 1) 17 c.if-kept-gt0.d =
    elim c.if-kept-gt0.branch [
      | then-kept-gt0 w ↦ short_block c.requires (w.d-is ∙ w.put_block.ensures)
      | else-kept-gt0 w ↦ short_none c.requires w.d-is w.if-kept-gt0.false
    ] in
    let l = label in omega (arith, l.size, c.put_folded.auto.d) in
    omega (arith, sized, c.requires.room)

pub bounds-d-0 : goal.bounds-d-0
bounds-d-0 c = let sized : length c.put_folded.new.d ≡ length c.args.d.now =
    let label : Written c.args.d.now 1 1 (folded_part c.args.s.now c.args.first c.args.kept) (c.args.kept + 1) 17 c.if-kept-gt0.d =
    elim c.if-kept-gt0.branch [
      | then-kept-gt0 w ↦ short_block c.requires (w.d-is ∙ w.put_block.ensures)
      | else-kept-gt0 w ↦ short_none c.requires w.d-is w.if-kept-gt0.false
    ] in
    let l = label in omega (arith, l.size, c.put_folded.auto.d) in
    simp length-set (omega (arith, sized, c.requires.room))

pub returns : goal.returns
returns c = let label : Written c.args.d.now 1 1 (folded_part c.args.s.now c.args.first c.args.kept) (c.args.kept + 1) 17 c.if-kept-gt0.d =
    elim c.if-kept-gt0.branch [
      | then-kept-gt0 w ↦ short_block c.requires (w.d-is ∙ w.put_block.ensures)
      | else-kept-gt0 w ↦ short_none c.requires w.d-is w.if-kept-gt0.false
    ] in
    short_put c.requires _ label c.put_folded.ensures
