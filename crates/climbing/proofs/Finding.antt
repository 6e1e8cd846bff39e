-- What a climb finds as a number is taken apart again: its place, and its index, which tells how the label changes there.
use mathlib.Core.Path.{◌≡◌, sym, ◌∙◌}
use mathlib.Core.Bool.{Bool}
use mathlib.Core.List.{List}
use Prim.Native.Nat.{ℕ, ◌-◌, ◌%◌, ◌/◌, ◌<◌}
use native.Mathlib.Nat.{add-mul-mod_self_left, add-mul-div_left, mod-eq_of_lt, div-eq_of_lt}
use native.Mathlib.Omega.{arith}
use lib.ListN.{length, get_or}
use Rattle.zone.specs.Steps.{greatest}
use Rattle.checks.specs.Private.Climbs.{past}
use Rattle.plan.specs.Private.Asked.{Plans, whole}
use Rattle.climbing.specs.Private.Raised.{extended_plan, raised_plan, Finds}

module _ {allowed : ℕ → Bool} {s octets : List ℕ} {r : ℕ} (f : Finds allowed s octets r) where
  place : r % 256 ≡ f.place
  place = rw (f.is, add-mul-mod_self_left f.place 256 f.index) (mod-eq_of_lt f.near)

  index : r / 256 ≡ f.index
  index =
      let some : 0 < 256 = omega arith in
      rw (f.is, add-mul-div_left f.place f.index some, div-eq_of_lt f.near) (omega arith)

  pub found_apex : r / 256 ≡ 0 → Plans (greatest allowed) s octets (whole 0 (r % 256))
  found_apex e = rw place (f.apex (sym index ∙ e))

  pub found_longer : r / 256 ≡ 64 → (past s (r % 256) < length s) × Plans (greatest allowed) s octets (extended_plan allowed s (r % 256))
  found_longer e = let n : f.index ≡ 64 = sym index ∙ e in rw place (f.within (omega arith), f.longer n)

  pub found_higher : (r / 256 ≡ 0 → ⊥) → (r / 256 ≡ 64 → ⊥)
      → (past s (r % 256) < length s)
      × (r / 256 - 1 < get_or s (r % 256) 0)
      × Plans (greatest allowed) s octets (raised_plan allowed s (r % 256) (r / 256 - 1))
  found_higher some less =
      let low : 0 < f.index = omega (arith, index) in
      let high : f.index < 64 = omega (arith, index, f.few) in
      let raises = f.higher low high in
      rw (place, index) (f.within low, raises.0, raises.1)
