-- `put_kept` meets its contract: nothing, a block whose end is written again, or exactly the octets (LabelWriting).
use native.Mathlib.Omega.{arith}
use Rattle.writing.proofs.LabelWriting.{kept_none, kept_exactly, kept_block}
use Rattle.writing.proofs.put_kept.Goals as goal

pub returns-then-kept-eq0 : goal.returns-then-kept-eq0
returns-then-kept-eq0 c = let a = c.args in kept_none _ a.s.now _ a.first _ (omega arith) (omega arith)

pub returns-then-s-first-ge16 : goal.returns-then-s-first-ge16
returns-then-s-first-ge16 c =
    kept_block _ _ _ _ _ _ c.put_block.ensures c.fill.ensures (omega arith) (omega arith) (omega arith) (c.requires.4 (omega arith))

pub returns : goal.returns
returns c = kept_exactly _ _ _ _ _ c.put_folded.ensures (omega arith) (omega arith)
