-- The octets of the greatest labels in front of a name (document 01, "Absolute neighbours"; RFC 4471 section 3.1), where g is the greatest
-- octet: one short label or none, and after it labels of 63 octets.
use Rattle.std.specs.Prelude.{◌≡◌, List, [], ◌∷◌, ◌++◌, ℕ, zero, suc, ◌-◌, ◌*◌, ◌/◌, ◌%◌, ◌≤◌, ◌<◌, replicate}

module _ (g : ℕ) where
  -- a label that takes r octets, and no label where r is 0
  unfoldable pub short : ℕ → List ℕ
  short zero = []
  short (suc r) = r ∷ replicate r g

  -- m labels of 63 octets
  unfoldable pub fulls : ℕ → List ℕ
  fulls zero = []
  fulls (suc m) = fulls m ++ short 64

  -- the labels that take n octets
  unfoldable pub greatest_octets : ℕ → List ℕ
  greatest_octets n = short (n % 64) ++ fulls (n / 64)

-- how many octets they take, n, of k labels in so many octets: full labels alone, or all the octets, or all but one that no label can use
pub data Taken (k left n : ℕ) : Type 0 where
  full_labels_lem : 64 * k ≤ left → n ≡ 64 * k → Taken k left n
  all_but_one : left < 64 * k → left % 64 ≡ 1 → n ≡ left - 1 → Taken k left n
  all_octets_lem : left < 64 * k → (left % 64 ≡ 1 → ⊥) → n ≡ left → Taken k left n
