-- `label_places` meets its contract: the places that were noted, which have room.
use mathlib.Core.Path.{sym, ◌∙◌}
use native.Mathlib.Omega.{arith}
use lib.Seq.{length-take-le}
use Rattle.space.proofs.Putting.{put_overlay}
use Rattle.name.proofs.Answers.{found_ok, whole_passed, fills_answer}
use Rattle.name.proofs.Marking.{marked_whole, marked_count, marked_most, marked_length, marked_first}
use Rattle.name.proofs.starts.label_places.Goals as goal

pub slice_bounds-noted-end : goal.slice_bounds-noted-end
slice_bounds-noted-end c = let m = c.mark.ensures in
    let e = found_ok c.mark.result c.in_ok-n.ensures.cases in
    omega (arith, marked_most _ _ _ m _ e, marked_length _ _ _ m _ e)

pub slice_bounds-put-end : goal.slice_bounds-put-end
slice_bounds-put-end c = let m = c.mark.ensures in
    let e = found_ok c.mark.result c.in_ok-n.ensures.cases in
    sym (length-take-le _ _ (omega (arith, marked_most _ _ _ m _ e, marked_length _ _ _ m _ e)))

pub returns : goal.returns
returns c = let m = c.mark.ensures in
    let e = found_ok c.mark.result c.in_ok-n.ensures.cases in
    fills_answer (whole_passed _ _ 4 (marked_whole _ _ _ m _ e)) (marked_count _ _ _ m _ e) (omega (arith, marked_count _ _ _ m _ e))
    (c.put.ensures ∙ rw (marked_first _ _ _ m _ e) (put_overlay _ _ (omega (arith, marked_count _ _ _ m _ e))))
