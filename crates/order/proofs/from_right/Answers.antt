-- `from_right` meets its contract: the last k labels are shared (`Aligned`), and the next two decide, or are shared too.
use native.Mathlib.Omega.{arith}
use mathlib.Core.Path.{◌≡◌, refl, sym, ap, ◌∙◌}
use mathlib.Core.List.{[]}
use Prim.Native.Nat.{◌-◌, ◌+◌}
use lib.ListN.{get_or}
use mir.Facts.{to_z-of_z}
use mir.Syntax.{w16}
use Rattle.std.specs.declared.cmp.Ordering.TheVariants.{Less, Greater}
use Rattle.order.specs.Order.{folded_labels}
use Rattle.order.specs.Compare.{order_of, signed}
use Rattle.order.proofs.StartPlaces.{start_fits, start_folded, starts_at_most_127, starts_folded}
use Rattle.order.proofs.Alignment.{aligned_shared, aligned_next, first_ended, second_ended, both_ended, label_earlier}
use Rattle.order.proofs.Alignment.{label_later}
use Rattle.order.proofs.from_right.Goals as goal

pub loop-k-init : goal.loop-k-init
loop-k-init c = search (starts_at_most_127, aligned_shared, starts_folded, arith)

pub returns-then-n-k : goal.returns-then-n-k
returns-then-n-k c = to_z-of_z {w = w16} (record { sfits = c.signed_number.type_inv }) ∙ c.signed_number.ensures
    ∙ ap (signed Greater) (omega arith) ∙ sym (second_ended _ _ _ _ _ c.loop-k.invariant.4 (omega arith) (omega arith))

pub order_at-order-requires : goal.order_at-order-requires
order_at-order-requires c = (
  start_fits {i = c.args.m - c.loop-k.k - 1} c.requires.0 (omega arith) refl,
  start_fits {i = c.args.n - c.loop-k.k - 1} c.requires.1 (omega arith) refl,
)

pub returns-in-Less : goal.returns-in-Less
returns-in-Less c = let found : c.order_at-order.result
    ≡ order_of (get_or (folded_labels c.args.s.now) (c.args.m - c.loop-k.k - 1) [])
    (get_or (folded_labels c.args.t.now) (c.args.n - c.loop-k.k - 1) []) =
    c.order_at-order.ensures
    ∙ rw (
      start_folded {i = c.args.m - c.loop-k.k - 1} c.requires.0 (omega arith) refl,
      start_folded {i = c.args.n - c.loop-k.k - 1} c.requires.1 (omega arith) refl,
    ) in
    to_z-of_z {w = w16} (record { sfits = c.signed_number-in-Less.type_inv }) ∙ c.signed_number-in-Less.ensures
    ∙ ap (signed Less) (omega arith) ∙ sym (label_earlier _ _ _ _ _ c.loop-k.invariant.4 (omega arith) (omega arith) _ found
    c.in-Less.is)

pub returns-in-Greater : goal.returns-in-Greater
returns-in-Greater c = let found : c.order_at-order.result
    ≡ order_of (get_or (folded_labels c.args.s.now) (c.args.m - c.loop-k.k - 1) [])
    (get_or (folded_labels c.args.t.now) (c.args.n - c.loop-k.k - 1) []) =
    c.order_at-order.ensures
    ∙ rw (
      start_folded {i = c.args.m - c.loop-k.k - 1} c.requires.0 (omega arith) refl,
      start_folded {i = c.args.n - c.loop-k.k - 1} c.requires.1 (omega arith) refl,
    ) in
    to_z-of_z {w = w16} (record { sfits = c.signed_number-in-Greater.type_inv }) ∙ c.signed_number-in-Greater.ensures
    ∙ ap (signed Greater) (omega arith) ∙ sym (label_later _ _ _ _ _ c.loop-k.invariant.4 (omega arith) (omega arith) _ found
    c.in-Greater.is)

pub loop-k-preserved : goal.loop-k-preserved
loop-k-preserved c = let found : c.order_at-order.result
    ≡ order_of (get_or (folded_labels c.args.s.now) (c.args.m - c.loop-k.k - 1) [])
    (get_or (folded_labels c.args.t.now) (c.args.n - c.loop-k.k - 1) []) =
    c.order_at-order.ensures
    ∙ rw (
      start_folded {i = c.args.m - c.loop-k.k - 1} c.requires.0 (omega arith) refl,
      start_folded {i = c.args.n - c.loop-k.k - 1} c.requires.1 (omega arith) refl,
    ) in
    let i : c.args.m - (c.loop-k.k + 1) ≡ c.args.m - c.loop-k.k - 1 = omega arith in
    let j : c.args.n - (c.loop-k.k + 1) ≡ c.args.n - c.loop-k.k - 1 = omega arith in (
      omega arith,
      omega arith,
      omega arith,
      omega arith,
      rw (i, j) (aligned_next _ _ _ _ _ c.loop-k.invariant.4 (omega arith) (omega arith) _ found c.in-Equal.is),
    )

pub returns-then-m-n : goal.returns-then-m-n
returns-then-m-n c = to_z-of_z {w = w16} (record { sfits = c.signed_number-then-m-n.type_inv }) ∙ c.signed_number-then-m-n.ensures
    ∙ ap (signed Less) (omega arith) ∙ sym (first_ended _ _ _ _ _ c.loop-k.invariant.4 (omega arith) (omega arith))

pub returns : goal.returns
returns c = sym (search (both_ended, arith))
