-- The labels before a place of a name, counted from its front (`counting_all`).
use mathlib.Core.Path.{◌≡◌, ap}
use mathlib.Core.List.{List}
use Prim.Native.Nat.{ℕ, ◌+◌, ◌≤◌, ◌<◌}
use native.Mathlib.Nat.{zero-add}
use native.Mathlib.Omega.{arith}
use lib.ListN.{length}
use Rattle.checks.specs.Private.Boundary.{Boundary, upper}
use Rattle.checks.specs.Private.Climbs.{past, between, Climbs}
use Rattle.checks.proofs.Climbing.{tried, climbs_end, boundary_climbs}

-- n labels stand before the place p, and the others up to the place cut
pub record Counting (s : List ℕ) (cut n p : ℕ) : Type 0 where
  pub climbs : Climbs s p cut (length s)
  pub count : n + length (between s p cut) ≡ length (upper s cut)
  pub few : n ≤ p

pub counting_none : (s : List ℕ) (cut : ℕ) → Boundary s cut → Counting s cut 0 0
counting_none s cut b =
    record { climbs = boundary_climbs b (length s) (omega arith); count = zero-add (length (upper s cut)); few = omega arith }

module _ {s : List ℕ} {cut n p : ℕ} (c : Counting s cut n p) where
  pub counting_more : p < cut → Counting s cut (n + 1) (past s p)
  counting_more h =
      let t = tried c.climbs h in
      record { climbs = t.parent; count = omega (arith, c.count, ap length t.first); few = omega (arith, c.few) }

  pub counting_within : p < cut → past s p < length s
  counting_within h = (tried c.climbs h).within

  pub counting_all : cut ≤ p → n ≡ length (upper s cut)
  counting_all h = omega (arith, c.count, ap length (climbs_end c.climbs h))
