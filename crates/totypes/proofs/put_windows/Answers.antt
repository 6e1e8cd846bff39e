-- The last window that is left is written before those that are written: zeros, bits, count and number (`Backward`).
use Prim.Native.Nat.{◌+◌, ◌-◌, ◌≤◌}
use native.Mathlib.Omega.{arith}
use lib.ListN.{length-set}
use Rattle.types.specs.Window.{octet_count}
use Rattle.totypes.specs.Private.Marked.{last_type}
use Rattle.totypes.proofs.Backwards.{backward_none, backward_all, backward_room, backward_marking, backward_index}
use Rattle.totypes.proofs.Backwards.{backward_more}
use Rattle.totypes.proofs.put_windows.Goals as goal

pub loop-i-init : goal.loop-i-init
loop-i-init c = let p = c.requires in backward_none _ _ _ p.1 p.2

pub bounds-types-i : goal.bounds-types-i
bounds-types-i c = omega (arith, c.loop-i.invariant.within)

pub overflow_sub-start : goal.overflow_sub-start
overflow_sub-start c = let room : octet_count (last_type c.args.types.now c.loop-i.i) + 2 ≤ c.loop-i.end =
    backward_room c.requires.0 c.loop-i.invariant c.loop-i-test.true in
    omega (arith, room)

pub fill-requires : goal.fill-requires
fill-requires c = tt

pub mark-i-requires : goal.mark-i-requires
mark-i-requires c = backward_marking c.requires.0 c.loop-i.invariant c.loop-i-test.true c.fill.ensures

pub overflow_sub-space : goal.overflow_sub-space
overflow_sub-space c = let room : octet_count (last_type c.args.types.now c.loop-i.i) + 2 ≤ c.loop-i.end =
    backward_room c.requires.0 c.loop-i.invariant c.loop-i-test.true in
    omega (arith, room)

pub bounds-space-start : goal.bounds-space-start
bounds-space-start c = let room : octet_count (last_type c.args.types.now c.loop-i.i) + 2 ≤ c.loop-i.end =
    backward_room c.requires.0 c.loop-i.invariant c.loop-i-test.true in
    omega (
      arith,
      room,
      backward_index c.requires.0 c.loop-i.invariant c.loop-i-test.true c.fill.ensures c.mark-i.ensures,
    )

pub overflow_cast-space-in-loop-i : goal.overflow_cast-space-in-loop-i
overflow_cast-space-in-loop-i c = omega (arith, c.type_inv.types (c.loop-i.i - 1))

pub overflow_sub-space-in-loop-i : goal.overflow_sub-space-in-loop-i
overflow_sub-space-in-loop-i c = let room : octet_count (last_type c.args.types.now c.loop-i.i) + 2 ≤ c.loop-i.end =
    backward_room c.requires.0 c.loop-i.invariant c.loop-i-test.true in
    omega (arith, room)

pub bounds-space-start-in-loop-i : goal.bounds-space-start-in-loop-i
bounds-space-start-in-loop-i c = let room : octet_count (last_type c.args.types.now c.loop-i.i) + 2 ≤ c.loop-i.end =
    backward_room c.requires.0 c.loop-i.invariant c.loop-i-test.true in
    simp length-set (omega (
      arith,
      room,
      backward_index c.requires.0 c.loop-i.invariant c.loop-i-test.true c.fill.ensures c.mark-i.ensures,
    ))

pub overflow_sub-end : goal.overflow_sub-end
overflow_sub-end c = let room : octet_count (last_type c.args.types.now c.loop-i.i) + 2 ≤ c.loop-i.end =
    backward_room c.requires.0 c.loop-i.invariant c.loop-i-test.true in
    omega (arith, room)

pub loop-i-smaller : goal.loop-i-smaller
loop-i-smaller c = c.mark-i.ensures.less

pub loop-i-preserved : goal.loop-i-preserved
loop-i-preserved c = backward_more c.requires.0 c.loop-i.invariant c.loop-i-test.true c.fill.ensures c.mark-i.ensures

pub returns : goal.returns
returns c = backward_all c.loop-i.invariant c.loop-i-test.false
