-- `is_next` meets its contract: of a member, one look from the owner before it tells whether it is after that one.
use mathlib.Core.Path.{◌≡◌, sym, ap, ◌∙◌}
use mathlib.Core.Bool.{Bool, true, false}
use Rattle.owners.specs.Members.{follows}
use Rattle.checkowners.proofs.ZoneLines.{is_after, next_no_member, next_seen}
use Rattle.checkowners.proofs.is_next.Goals as goal

pub is_member-requires : goal.is_member-requires
is_member-requires c = c.requires.0

pub returns-in-After : goal.returns-in-After
returns-in-After c = let seen : (b : Bool) → is_after c.look-seen.result ≡ b → let a = c.args in
    b ≡ follows a.apex.now a.limit a.before.now a.owner.now = λ b e. let a = c.args in
    next_seen a.apex.now a.limit a.before.now a.owner.now c.requires.1 (sym c.if-is_member.true ∙ c.is_member.ensures)
    _ c.look-seen.ensures b e in
    seen true (ap is_after c.in-After.is)

pub returns-in-NotAfter : goal.returns-in-NotAfter
returns-in-NotAfter c = let seen : (b : Bool) → is_after c.look-seen.result ≡ b → let a = c.args in
    b ≡ follows a.apex.now a.limit a.before.now a.owner.now = λ b e. let a = c.args in
    next_seen a.apex.now a.limit a.before.now a.owner.now c.requires.1 (sym c.if-is_member.true ∙ c.is_member.ensures)
    _ c.look-seen.ensures b e in
    seen false (ap is_after c.in-NotAfter.is)

pub returns-in-Broken : goal.returns-in-Broken
returns-in-Broken c = let seen : (b : Bool) → is_after c.look-seen.result ≡ b → let a = c.args in
    b ≡ follows a.apex.now a.limit a.before.now a.owner.now = λ b e. let a = c.args in
    next_seen a.apex.now a.limit a.before.now a.owner.now c.requires.1 (sym c.if-is_member.true ∙ c.is_member.ensures)
    _ c.look-seen.ensures b e in
    seen false (ap is_after c.in-Broken.is)

pub returns : goal.returns
returns c = let a = c.args in
    next_no_member a.apex.now a.limit a.before.now a.owner.now (sym c.if-is_member.false ∙ c.is_member.ensures)
