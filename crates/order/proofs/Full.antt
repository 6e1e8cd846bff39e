-- The full alphabet has every octet but 65 to 90, which are those that folding changes.
use mathlib.Core.Path.{◌≡◌, refl}
use mathlib.Core.Bool.{Bool, true, false}
use Prim.Native.Nat.{ℕ, ◌≤◌}
use borrow.Author.Tests.{ltb-false, le-ltb}
use lib.Dec.{T, ltb}
use Rattle.order.specs.Place.{full}

pub full_not_upper : (o : ℕ) → T (full o) → 65 ≤ o → o ≤ 90 → ⊥
full_not_upper o t a b =
    let f : T (full o) → T false = λ x. rw (le-ltb o 65 a, le-ltb 90 o b) at x in f t

pub not_upper_full : (o : ℕ) → (65 ≤ o → o ≤ 90 → ⊥) → T (full o)
not_upper_full o f = go (ltb o 65) (ltb 90 o) refl refl
  where
    go : (a b : Bool) → ltb o 65 ≡ a → ltb 90 o ≡ b → T (full o)
    go true b ea eb = rw ea tt
    go false true ea eb = rw (ea, eb) tt
    go false false ea eb = absurd (f (ltb-false o 65 ea) (ltb-false 90 o eb))
