-- `put_known` meets its contract: the text stands there, or is written over what was tried (`at_once_over`).
use mathlib.Core.Path.{◌≡◌, ◌∙◌}
use mathlib.Core.Logic.{◌⊎◌, inl, inr}
use Prim.Native.Nat.{◌≤◌}
use native.Mathlib.Omega.{arith}
use lib.ListN.{length}
use Rattle.name.proofs.Whole.{whole_fits}
use Rattle.space.specs.Octets.{overlay}
use Rattle.order.specs.Order.{folded_labels}
use Rattle.totext.specs.Private.AtOnce.{widest}
use Rattle.totext.specs.Private.Shown.{joined}
use Rattle.totext.proofs.AtOnce.{at_once_none, at_once_plain, text_widest, tried_length, at_once_over}
use Rattle.totext.proofs.put_known.Goals.{then-looks_plain+else-all_shown+else-has_dotted_length, else-looks_plain}
use Rattle.totext.proofs.put_known.Goals as goal

pub overflow_mul-name : goal.overflow_mul-name
overflow_mul-name c = omega (arith, whole_fits _ c.requires.0)

pub returns-then-space-name : goal.returns-then-space-name
returns-then-space-name c = at_once_none _ _

pub returns-then-all_shown : goal.returns-then-all_shown
returns-then-all_shown c = let room : widest (length c.args.name.now) ≤ length c.args.space.now = omega (arith, c.if-space-name.false) in
    at_once_plain _ c.requires.0 c.requires.1 _ room c.put_plain.ensures c.all_shown.ensures c.if-all_shown.true

pub put_measured-requires : goal.put_measured-requires
put_measured-requires c = let room : widest (length c.args.name.now) ≤ length c.args.space.now = omega (arith, c.if-space-name.false) in (
  c.requires.0,
  omega (
    arith,
    room,
    text_widest _ c.requires.0 c.requires.1,
    tried_length _ c.requires.0 c.requires.1 _ room (inr c.put_plain.ensures),
  ),
)

pub returns-then-has_dotted_length : goal.returns-then-has_dotted_length
returns-then-has_dotted_length c =
    let room : widest (length c.args.name.now) ≤ length c.args.space.now = omega (arith, c.if-space-name.false) in
    at_once_over _ c.requires.0 c.requires.1 _ room (inr c.put_plain.ensures) c.put_measured.ensures.0
    c.put_measured.ensures.1

pub put_listed-requires : goal.put_listed-requires
put_listed-requires c = let room : widest (length c.args.name.now) ≤ length c.args.space.now = omega (arith, c.if-space-name.false) in
    let tried : (c.if-looks_plain.space ≡ c.args.space.now)
    ⊎ (c.if-looks_plain.space ≡ overlay (joined (folded_labels c.args.name.now)) c.args.space.now) =
    elim c.if-looks_plain.branch [
      | then-looks_plain+else-all_shown+else-has_dotted_length w ↦ inr
          (w.space-is ∙ w.put_plain.ensures)
      | else-looks_plain w ↦ inl w.space-is
    ] in
    (c.requires.0, c.requires.1, omega (arith, room, tried_length _ c.requires.0 c.requires.1 _ room tried))

pub returns : goal.returns
returns c = let room : widest (length c.args.name.now) ≤ length c.args.space.now = omega (arith, c.if-space-name.false) in
    let tried : (c.if-looks_plain.space ≡ c.args.space.now)
    ⊎ (c.if-looks_plain.space ≡ overlay (joined (folded_labels c.args.name.now)) c.args.space.now) =
    elim c.if-looks_plain.branch [
      | then-looks_plain+else-all_shown+else-has_dotted_length w ↦ inr
          (w.space-is ∙ w.put_plain.ensures)
      | else-looks_plain w ↦ inl w.space-is
    ] in
    at_once_over _ c.requires.0 c.requires.1 _ room tried c.put_listed.ensures.0 c.put_listed.ensures.1
