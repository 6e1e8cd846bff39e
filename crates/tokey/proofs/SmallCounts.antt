-- Counting the octets of a name that are 0 or 1: besides those of its labels these are the length octets that are 1 and the last octet
-- (`small_whole`).
use mathlib.Core.Path.{◌≡◌, refl, sym, ap, ◌∙◌}
use mathlib.Core.List.{List, [], ◌∷◌, ◌++◌, map}
use Prim.Native.Nat.{ℕ, zero, suc, ◌+◌, ◌≤◌, ◌<◌}
use native.Mathlib.Omega.{arith}
use lib.ListN.{length, drop, get_or}
use Rattle.facts.proofs.Lists.{drop_next}
use Rattle.std.specs.Prelude.{Ok}
use Rattle.name.specs.Wire.{reading_of}
use Rattle.name.specs.Labels.{wire, labels_of}
use Rattle.name.proofs.Labels.{wire_labels}
use Rattle.key.specs.Small.{small_octet, small_in, small}
use Rattle.key.proofs.KeyLength.{large_octet, small_in_label}

small_append : (s t : List ℕ) → small_in (s ++ t) ≡ small_in s + small_in t
small_append [] t = omega arith
small_append (o ∷ s) t = omega (arith, small_append s t)

small_wire : (ls : List (List ℕ)) → small_in (wire ls) ≡ small ls + small_in (map length ls) + 1
small_wire [] = refl
small_wire (l ∷ ls) = omega (arith, small_append l (wire ls), small_wire ls)

pub small_whole : (s : List ℕ) → reading_of s ≡ Ok tt → small_in s ≡ small (labels_of s) + small_in (map length (labels_of s)) + 1
small_whole s e = ap small_in (sym (wire_labels s e)) ∙ small_wire (labels_of s)

-- ---- octet by octet

small_octet_lem : (o : ℕ) → o < 2 → small_octet o ≡ 1
small_octet_lem zero h = refl
small_octet_lem (suc zero) h = refl
small_octet_lem (suc (suc o)) h = absurd (omega arith)

-- n of the octets before the index i are 0 or 1
pub record Counting (s : List ℕ) (n i : ℕ) : Type 0 where
  pub within : i ≤ length s
  pub sum : n + small_in (drop i s) ≡ small_in s

module _ {s : List ℕ} {n i : ℕ} (c : Counting s n i) where
  counting_step : i < length s → n + small_octet (get_or s i 0) + small_in (drop (i + 1) s) ≡ small_in s
  counting_step h =
      omega (arith, c.sum, ap small_in (drop_next s i 0 h))

  pub counting_small : i < length s → get_or s i 0 < 2 → Counting s (n + 1) (i + 1)
  counting_small h o =
      record { within = omega arith; sum = omega (arith, counting_step h, small_octet_lem (get_or s i 0) o) }

  pub counting_large : i < length s → 2 ≤ get_or s i 0 → Counting s n (i + 1)
  counting_large h o =
      record { within = omega arith; sum = omega (arith, counting_step h, large_octet (get_or s i 0) o) }

  pub counting_room : i < length s → get_or s i 0 < 2 → n < length s
  counting_room h o = omega (arith, counting_step h, small_octet_lem (get_or s i 0) o, small_in_label s)
