-- The octet of a way and the way of an octet undo each other (`octet_way`, `way_octet`), and what is above 3 is no way.
use mathlib.Core.Path.{◌≡◌, refl, sym}
use mathlib.Core.Bool.{Bool, true, false, cond, true≢false}
use Prim.Native.Nat.{ℕ, ◌<◌}
use native.Mathlib.Omega.{arith}
use borrow.Author.Tests.{eqb-true, ne_eqb}
use lib.Dec.{eqb}
use Rattle.question.specs.declared.Way.{Way}
use Rattle.question.specs.declared.Way.TheVariants.{AbsolutePredecessor, AbsoluteSuccessor, ModifiedPredecessor, ModifiedSuccessor}
use Rattle.std.specs.Prelude.{Some, None}
use Rattle.question.specs.Way.{octet_of, way_of}

pub octet_way : (w : Way) → way_of (octet_of w) ≡ Some w
octet_way AbsolutePredecessor = refl
octet_way AbsoluteSuccessor = refl
octet_way ModifiedPredecessor = refl
octet_way ModifiedSuccessor = refl

pub way_octet : (o : ℕ) (w : Way) → way_of o ≡ Some w → octet_of w ≡ o
way_octet o w e = go (eqb o 0) (eqb o 1) (eqb o 2) (eqb o 3) refl refl refl refl e
  where
    go : (a b c d : Bool) → eqb o 0 ≡ a → eqb o 1 ≡ b → eqb o 2 ≡ c → eqb o 3 ≡ d
        → cond a (Some AbsolutePredecessor) (cond b (Some AbsoluteSuccessor) (cond c (Some ModifiedPredecessor)
        (cond d (Some ModifiedSuccessor) None))) ≡ Some w
        → octet_of w ≡ o
    go true b c d ea eb ec ed x = let k : AbsolutePredecessor ≡ w = cc in rw (← k) (sym (eqb-true o 0 ea))
    go false true c d ea eb ec ed x = let k : AbsoluteSuccessor ≡ w = cc in rw (← k) (sym (eqb-true o 1 eb))
    go false false true d ea eb ec ed x = let k : ModifiedPredecessor ≡ w = cc in rw (← k) (sym (eqb-true o 2 ec))
    go false false false true ea eb ec ed x = let k : ModifiedSuccessor ≡ w = cc in rw (← k) (sym (eqb-true o 3 ed))
    go false false false false ea eb ec ed x = absurd (true≢false (cc))

pub no_way_unknown : (o : ℕ) → (o ≡ 0 → ⊥) → (o ≡ 1 → ⊥) → (o ≡ 2 → ⊥) → (o ≡ 3 → ⊥) → way_of o ≡ None
no_way_unknown o a b c d = rw (ne_eqb o 0 a, ne_eqb o 1 b, ne_eqb o 2 c, ne_eqb o 3 d)

pub above_unknown : (o : ℕ) → 3 < o → way_of o ≡ None
above_unknown o h = no_way_unknown o (λ e. omega arith) (λ e. omega arith) (λ e. omega arith) (λ e. omega arith)
