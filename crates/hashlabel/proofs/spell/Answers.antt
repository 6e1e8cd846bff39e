-- Characters are copied over the digits from a table, and a digit that is read is not written over yet.
use mathlib.Core.Path.{refl}
use mathlib.Core.List.{List, [], ◌∷◌}
use Prim.Native.Nat.{ℕ, ◌<◌}
use native.Mathlib.Nat.{zero-add}
use lib.ListN.{get_or}
use Rattle.hash.proofs.Label.{listed_character}
use Rattle.hashlabel.proofs.Spelling.{spelled_none, spelled_digit, spelled_more, spelled_all}
use Rattle.hashlabel.proofs.spell.Goals as goal

-- 0 to 9, a to v
abbrev characters : List ℕ
characters =
    48 ∷ 49 ∷ 50 ∷ 51 ∷ 52 ∷ 53 ∷ 54 ∷ 55 ∷ 56 ∷ 57 ∷ 97 ∷ 98 ∷ 99 ∷ 100 ∷ 101 ∷ 102
    ∷ 103 ∷ 104 ∷ 105 ∷ 106 ∷ 107 ∷ 108 ∷ 109 ∷ 110 ∷ 111 ∷ 112 ∷ 113 ∷ 114 ∷ 115 ∷ 116 ∷ 117 ∷ 118 ∷ []

pub loop-i-init : goal.loop-i-init
loop-i-init c = spelled_none c.requires.0

pub bounds-table-d : goal.bounds-table-d
bounds-table-d c = let digit : get_or c.loop-i.d c.loop-i.i 0 < 32 = spelled_digit c.loop-i.invariant c.loop-i-test.true c.requires.1 in
    digit

pub loop-i-preserved : goal.loop-i-preserved
loop-i-preserved c = let digit : get_or c.loop-i.d c.loop-i.i 0 < 32 = spelled_digit c.loop-i.invariant c.loop-i-test.true c.requires.1 in
    spelled_more c.loop-i.invariant c.loop-i-test.true _
    (rw zero-add at (listed_character 0 characters (get_or c.loop-i.d c.loop-i.i 0) refl digit))

pub returns : goal.returns
returns c = spelled_all c.loop-i.invariant c.loop-i-test.false
