-- `same_octets` meets its contract: each way compares all octets, in blocks that overlap (`same_ends`).
use native.Mathlib.Omega.{arith}
use Rattle.space.proofs.SameBlocks.{same_ends}
use Rattle.space.proofs.sameness.same_octets.Goals as goal

pub returns-then-n-ge16 : goal.returns-then-n-ge16
returns-then-n-ge16 c = same_ends _ _ _ _ _ 16 _ c.same_block.ensures c.same_block-then-n-ge16.ensures (omega arith)

pub returns-then-n-ge8 : goal.returns-then-n-ge8
returns-then-n-ge8 c = same_ends _ _ _ _ _ 8 _ c.same_block-then-n-ge8.ensures c.same_block-then-n-ge8-2.ensures (omega arith)

pub returns-then-n-ge4 : goal.returns-then-n-ge4
returns-then-n-ge4 c = same_ends _ _ _ _ _ 4 _ c.same_block-then-n-ge4.ensures c.same_block-then-n-ge4-2.ensures (omega arith)
