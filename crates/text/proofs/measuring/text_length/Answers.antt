-- `text_length` meets its contract: the length octets and the last are counted with the others, and their characters taken off.
use mathlib.Core.Path.{◌≡◌, sym, ap}
use Prim.Native.Nat.{◌+◌}
use native.Mathlib.Omega.{arith}
use lib.ListN.{length}
use Rattle.name.proofs.Whole.{whole_fits}
use Rattle.order.specs.Order.{folded_labels}
use Rattle.text.specs.WriteText.{text_of}
use Rattle.text.proofs.TextSteps.{text_root}
use Rattle.text.proofs.Measures.{extra_fits, text_measured}
use Rattle.text.proofs.measuring.text_length.Goals as goal

pub returns-then-name-eq1 : goal.returns-then-name-eq1
returns-then-name-eq1 c = sym (ap length (text_root c.args.name.now c.requires.0 c.if-name-eq1.true))

pub extra-requires : goal.extra-requires
extra-requires c = whole_fits _ c.requires.0

pub overflow_add-result : goal.overflow_add-result
overflow_add-result c = omega (arith, extra_fits _ c.requires.0 _ c.extra.ensures)

pub overflow_sub-result : goal.overflow_sub-result
overflow_sub-result c = let measured : length c.args.name.now + c.extra.result
    ≡ length (text_of (folded_labels c.args.name.now)) + c.args.lengths + 4 =
    text_measured _ c.requires.0 _ c.extra.ensures _ c.requires.1 c.if-name-eq1.false in
    omega (arith, measured)

pub overflow_sub-result-2 : goal.overflow_sub-result-2
overflow_sub-result-2 c = let measured : length c.args.name.now + c.extra.result
    ≡ length (text_of (folded_labels c.args.name.now)) + c.args.lengths + 4 =
    text_measured _ c.requires.0 _ c.extra.ensures _ c.requires.1 c.if-name-eq1.false in
    omega (arith, measured)

pub returns : goal.returns
returns c = let measured : length c.args.name.now + c.extra.result
    ≡ length (text_of (folded_labels c.args.name.now)) + c.args.lengths + 4 =
    text_measured _ c.requires.0 _ c.extra.ensures _ c.requires.1 c.if-name-eq1.false in
    omega (arith, measured)
