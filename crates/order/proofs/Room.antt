-- Where one more octet fits: two symbols are left, for it and for the end of its label, and the label or the name has room for it.
use mathlib.Core.Path.{◌≡◌, refl}
use mathlib.Core.Bool.{true}
use Prim.Native.Nat.{ℕ, zero, suc, ◌≤◌}
use native.Mathlib.Omega.{arith}
use Rattle.order.specs.Place.{at, within, room}

pub room_at : (n d : ℕ) → 2 ≤ n → 1 ≤ d → room n (at d) ≡ true
room_at zero d h k = absurd (omega arith)
room_at (suc zero) d h k = absurd (omega arith)
room_at (suc (suc n)) zero h k = absurd (omega arith)
room_at (suc (suc n)) (suc d) h k = refl

pub room_within : (n d r : ℕ) → 2 ≤ n → 1 ≤ r → room n (within d r) ≡ true
room_within zero d r h k = absurd (omega arith)
room_within (suc zero) d r h k = absurd (omega arith)
room_within (suc (suc n)) d zero h k = absurd (omega arith)
room_within (suc (suc n)) d (suc r) h k = refl
