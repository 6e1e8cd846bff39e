-- A refusal before anything is written, or the hash, which has room.
use Rattle.std.proofs.Common.{◌≡◌, length, sym, refl, ◌∙◌, arith, rules}
use Rattle.space.proofs.Putting.{put_overlay}
use Rattle.name.proofs.Answers.{fills_no_room, fills_answer}
use Rattle.hash.proofs.slices.put_hash.Goals as goal

pub returns-then-space-lt20 : goal.returns-then-space-lt20
returns-then-space-lt20 c = let e : length c.args.hash ≡ 20 = search rules in fills_no_room refl (omega arith)

pub returns : goal.returns
returns c = let e : length c.args.hash ≡ 20 = search rules in
    fills_answer refl (sym e) (omega arith) (c.put.ensures ∙ put_overlay _ _ (omega arith))
