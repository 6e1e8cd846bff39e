-- `fold` meets its contract: the folded name, which has room.
use Rattle.space.specs.Fold.{folded}
use Rattle.name.specs.Answer.{answer}
use mathlib.Core.Path.{sym, ◌∙◌}
use native.Mathlib.Omega.{arith}
use lib.ListN.{length-map}
use Rattle.space.proofs.Putting.{folded_overlay}
use Rattle.name.proofs.Answers.{found_ok, whole_passed, fills_answer}
use Rattle.name.proofs.fold.Goals as goal

pub returns : goal.returns
returns c = let a = c.args in
    fills_answer (whole_passed (answer (folded a.name.now)) _ 4 (sym c.read.ensures ∙ found_ok c.read.result c.in_ok-map_err.ensures.cases))
    (simp length-map) (simp length-map (omega arith))
    (c.put_folded.ensures ∙ folded_overlay a.space.now a.name.now 0 _ (omega arith) (omega arith))
