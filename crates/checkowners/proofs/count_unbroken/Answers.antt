-- `count_unbroken` meets its contract: the owners before an index do not break the list (`Counted`).
use mathlib.Core.Path.{◌≡◌, sym, ap, ◌∙◌}
use mathlib.Core.List.{List, []}
use Prim.Native.Nat.{ℕ, ◌-◌, ◌≤◌}
use native.Mathlib.Omega.{arith}
use lib.ListN.{length, get_or}
use Rattle.space.specs.Fold.{folded}
use Rattle.space.specs.Same.{same_octets}
use Rattle.owners.specs.Layout.{owners_of}
use Rattle.owners.specs.Members.{follows}
use Rattle.owners.proofs.Layouts.{owners_length}
use Rattle.checkowners.proofs.ZoneLines.{follows_same}
use Rattle.checkowners.proofs.Counting.{first_breaks, first_counted, next_counted, next_breaks, all_counted}
use Rattle.checkowners.proofs.count_unbroken.Goals as goal

pub loop-i-init : goal.loop-i-init
loop-i-init c = let some : 1 ≤ length (owners_of c.args.names.now c.args.starts.now) =
    omega (arith, owners_length c.args.names.now c.args.starts.now, c.requires.1) in
    let first : c.is_apex.result ≡ same_octets (get_or (owners_of c.args.names.now c.args.starts.now) 0 []) (folded c.args.apex.now) =
    let a = c.args in
    c.is_apex.ensures ∙ ap (λ (o : List ℕ). same_octets o (folded a.apex.now)) c.owner_at-first.ensures in
    let a = c.args in
    first_counted a.apex.now a.limit (owners_of a.names.now a.starts.now) c.requires.0.whole some
    (sym c.if-is_apex.true ∙ first)

pub is_next-requires : goal.is_next-requires
is_next-requires c = (c.requires.0, rw c.owner_at-before.ensures c.loop-i.invariant.whole)

pub loop-i-preserved : goal.loop-i-preserved
loop-i-preserved c = let other : let os = owners_of c.args.names.now c.args.starts.now in
    c.is_next.result ≡ follows c.args.apex.now c.args.limit (get_or os (c.loop-i.i - 1) []) (get_or os c.loop-i.i []) = let a = c.args in
    c.is_next.ensures ∙ follows_same a.apex.now a.limit c.owner_at-before.ensures c.owner_at-owner.ensures in
    let a = c.args in
    next_counted c.loop-i.invariant (omega (arith, owners_length a.names.now a.starts.now)) (sym c.if-not-is_next.false ∙ other)

pub returns-then-not-is_next : goal.returns-then-not-is_next
returns-then-not-is_next c = let other : let os = owners_of c.args.names.now c.args.starts.now in
    c.is_next.result ≡ follows c.args.apex.now c.args.limit (get_or os (c.loop-i.i - 1) []) (get_or os c.loop-i.i []) = let a = c.args in
    c.is_next.ensures ∙ follows_same a.apex.now a.limit c.owner_at-before.ensures c.owner_at-owner.ensures in
    let a = c.args in
    next_breaks c.loop-i.invariant (omega (arith, owners_length a.names.now a.starts.now)) (sym c.if-not-is_next.true ∙ other)

pub returns-then-is_apex : goal.returns-then-is_apex
returns-then-is_apex c = let a = c.args in
    (omega arith) ∙ all_counted c.loop-i.invariant (omega (arith, owners_length a.names.now a.starts.now))

pub returns : goal.returns
returns c = let some : 1 ≤ length (owners_of c.args.names.now c.args.starts.now) =
    omega (arith, owners_length c.args.names.now c.args.starts.now, c.requires.1) in
    let first : c.is_apex.result ≡ same_octets (get_or (owners_of c.args.names.now c.args.starts.now) 0 []) (folded c.args.apex.now) =
    let a = c.args in
    c.is_apex.ensures ∙ ap (λ (o : List ℕ). same_octets o (folded a.apex.now)) c.owner_at-first.ensures in
    let a = c.args in
    first_breaks a.apex.now a.limit (owners_of a.names.now a.starts.now) some (sym c.if-is_apex.false ∙ first)
