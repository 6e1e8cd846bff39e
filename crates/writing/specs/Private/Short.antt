-- A plan whose label is written as a block of 16 octets, with the rest of the name over what is too much of it, and the octets that it
-- stands for.
use Rattle.std.specs.Prelude.{◌≡◌, List, ◌∷◌, ◌++◌, ℕ, ◌+◌, ◌-◌, ◌≤◌, length, drop}
use Rattle.space.specs.Fold.{folded}
use Rattle.space.specs.Private.Put.{folded_part}

-- Nothing stands in front of the label and one octet behind those that it keeps, since labels in front never take 1 octet. A block behind
-- the length octet has all that the label keeps, and ends among the `end` octets that the plan stands for. The name has `left` octets from
-- the first one kept on, which are enough for it.
pub record Short (front kept tail end left : ℕ) : Type 0 where
  pub single : front + tail ≡ 1
  pub few : kept ≤ 16
  pub long : 17 ≤ end
  pub block : 16 ≤ left

-- the same of the name s and a space d that the plan's octets have room in
pub record ShortFits (d s : List ℕ) (first kept rest : ℕ) : Type 0 where
  pub few : kept ≤ 16
  pub long : 17 ≤ kept + 2 + (length s - rest)
  pub block : first + 16 ≤ length s
  pub rest_within : rest ≤ length s
  pub room : kept + 2 + (length s - rest) ≤ length d

-- the label of the `kept` octets of s from the index `first` on, folded, and the octet o, and then s from the index `rest` on, folded
abbrev pub short_octets : List ℕ → ℕ → ℕ → ℕ → ℕ → List ℕ
short_octets s first kept o rest = (kept + 1) ∷ folded_part s first kept ++ o ∷ folded (drop rest s)
