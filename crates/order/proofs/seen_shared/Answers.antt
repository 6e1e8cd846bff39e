-- `seen_shared` meets its contract: the last k labels are shared, and one more that begins as far from the end within the same octets.
use mathlib.Core.Path.{refl}
use Prim.Native.Nat.{◌-◌}
use native.Mathlib.Omega.{arith}
use Rattle.order.proofs.StartPlaces.{start_fits}
use Rattle.tail.proofs.Tails.{Tail, tail_fewer}
use Rattle.order.proofs.CommonTail.{none_shared, one_more_shared}
use Rattle.order.proofs.seen_shared.Goals as goal

pub returns-then-most-eq0 : goal.returns-then-most-eq0
returns-then-most-eq0 c = (omega arith, omega arith, none_shared c.requires.0 c.requires.1)

pub overflow_sub-s : goal.overflow_sub-s
overflow_sub-s c = omega (arith, start_fits {i = c.args.m - 1} c.requires.0 (omega arith) refl)

pub overflow_sub-t : goal.overflow_sub-t
overflow_sub-t c = omega (arith, start_fits {i = c.args.n - 1} c.requires.1 (omega arith) refl)

pub returns-then-s-a : goal.returns-then-s-a
returns-then-s-a c = (omega arith, omega arith, none_shared c.requires.0 c.requires.1)

pub loop-k-init : goal.loop-k-init
loop-k-init c = (omega arith, omega arith, none_shared c.requires.0 c.requires.1)

pub overflow_sub-d-in-loop-k-2 : goal.overflow_sub-d-in-loop-k-2
overflow_sub-d-in-loop-k-2 c = omega (arith, start_fits {i = c.args.m - c.loop-k.k - 1} c.requires.0 (omega arith) refl)

pub overflow_sub-t-in-loop-k : goal.overflow_sub-t-in-loop-k
overflow_sub-t-in-loop-k c = omega (arith, start_fits {i = c.args.n - c.loop-k.k - 1} c.requires.1 (omega arith) refl)

pub loop-k-preserved : goal.loop-k-preserved
loop-k-preserved c = let p = c.requires in
    let hp = start_fits {i = c.args.m - c.loop-k.k - 1} p.0 (omega arith) refl in
    let hq = start_fits {i = c.args.n - c.loop-k.k - 1} p.1 (omega arith) refl in
    let e = c.same_tail-tail.ensures in
    let g : Tail c.args.s.now c.args.t.now c.same_tail-tail.result = record { first = e.0; second = e.1; same = e.2 } in (
      omega arith,
      omega arith,
      one_more_shared p.0 p.1 _ _ _ (omega arith) (omega arith) refl refl
          (tail_fewer g _ _ (omega arith) (omega arith) c.if-d-t.false (omega arith)),
    )
