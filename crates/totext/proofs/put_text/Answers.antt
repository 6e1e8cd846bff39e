-- `put_text` meets its contract: the root is a dot, and any other name's text is copied or written octet by octet.
use mathlib.Core.Path.{ap, ◌∙◌}
use mathlib.Core.List.{List}
use Prim.Native.Nat.{ℕ, ◌≤◌}
use native.Mathlib.Omega.{arith}
use lib.ListN.{length}
use Rattle.name.proofs.LabelSteps.{inside, stands}
use Rattle.space.specs.Octets.{overlay}
use Rattle.order.specs.Order.{folded_labels}
use Rattle.text.specs.WriteText.{text_of}
use Rattle.totext.proofs.Joined.{joined_is_text}
use Rattle.totext.proofs.PutTexts.{root_room, root_put}
use Rattle.totext.proofs.put_text.Goals as goal

pub bounds-space-0 : goal.bounds-space-0
bounds-space-0 c =
    let room : length (text_of (folded_labels c.args.name.now)) ≤ length c.args.space.now = omega (arith, c.requires.1, c.requires.2) in
    root_room _ c.args.space.now c.requires.0 c.if-name-eq1.true room

pub returns-then-name-eq1 : goal.returns-then-name-eq1
returns-then-name-eq1 c =
    let room : length (text_of (folded_labels c.args.name.now)) ≤ length c.args.space.now = omega (arith, c.requires.1, c.requires.2) in
    root_put _ _ c.requires.0 c.if-name-eq1.true room

pub put_plain-requires : goal.put_plain-requires
put_plain-requires c = (
  c.requires.0,
  omega (arith, c.requires.2, c.if-len-name.true),
)

pub returns-then-len-name : goal.returns-then-len-name
returns-then-len-name c = c.put_plain.ensures
    ∙ ap (λ (x : List ℕ). overlay x c.args.space.now) (joined_is_text _ c.requires.0 c.if-name-eq1.false (omega arith))

pub put_labels-requires : goal.put_labels-requires
put_labels-requires c =
    let room : length (text_of (folded_labels c.args.name.now)) ≤ length c.args.space.now = omega (arith, c.requires.1, c.requires.2) in
    (c.requires.0, omega (arith, inside (stands _ c.requires.0)), room)

pub returns : goal.returns
returns c = c.put_labels.ensures
