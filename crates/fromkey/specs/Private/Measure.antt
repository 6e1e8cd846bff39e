-- Measuring a key: what is said of one label and of the whole key.
use Rattle.std.specs.Prelude.{◌≡◌, List, [], ◌∷◌, Bool, true, false, ℕ, zero, suc, ◌+◌, ◌-◌, ◌*◌, ◌≤◌, ◌<◌, length, drop, Result as Outcome}
use Rattle.std.specs.Prelude.{Ok, Err}
use Rattle.order.specs.Place.{Place, at, within}
use Rattle.key.specs.ReadKey.{Read, found, stops, read_key, reading}
use Rattle.fromkey.specs.Private.KeyLabels.{symbols_in, sizes_in}
use Rattle.fromkey.specs.Private.PutName.{Layout}

-- 01 or 02 comes first
abbrev pub is_escape : List ℕ → Bool
is_escape [] = false
is_escape (zero ∷ s) = false
is_escape (suc zero ∷ s) = true
is_escape (suc (suc zero) ∷ s) = true
is_escape (suc (suc (suc o)) ∷ s) = false

-- where reading stops: 0 where it does not, and otherwise 1 more than the place
abbrev pub stop_of : Read → ℕ
stop_of (found s) = 0
stop_of (stops p) = suc p

-- the place in a label of which `size` octets are read, where d labels were left before it
abbrev pub place_in : ℕ → ℕ → Place
place_in d zero = at d
place_in d (suc size) = within (d - 1) (62 - size)

-- where reading on at the place p stops, in a label of which `size` octets are read, where d labels and `left` symbols were left before it
abbrev pub stop_from : List ℕ → ℕ → ℕ → ℕ → ℕ → ℕ
stop_from key left d size p = stop_of (read_key (left - size) (place_in d size) p (drop p key))

-- from the place of a label on, reading stops at the place m; a label takes two symbols at least, so d labels are enough
abbrev pub StopsAt : List ℕ → ℕ → ℕ → ℕ → Type 0
StopsAt key from left m = (d : ℕ) → left ≤ 2 * d → stop_from key left d 0 from ≡ suc m

-- the label at the place `from` has `size` octets, and reading goes on at the place `next`
pub record LabelEnds (key : List ℕ) (from left size next : ℕ) : Type 0 where
  pub some : 1 ≤ size
  pub fits : size < left
  pub on : from < next
  pub within_key : next ≤ length key
  pub sizes : sizes_in (drop from key) ≡ size ∷ sizes_in (drop next key)
  pub reads : (d : ℕ) → left ≤ 2 * d → stop_from key left d 0 from ≡ stop_from key (left - (size + 1)) (d - 1) 0 next

-- what measuring a label says, where `left` symbols are left
abbrev pub LabelRead : List ℕ → ℕ → ℕ → Outcome (ℕ × ℕ) ℕ → Type 0
LabelRead key from left (Ok (size, next)) = LabelEnds key from left size next
LabelRead key from left (Err p) = StopsAt key from left p

-- what measuring a key says, and the sizes that it notes
abbrev pub Measures : List ℕ → List ℕ → Outcome ℕ ℕ → Type 0
Measures key sizes (Ok n) = (reading key ≡ found (symbols_in key)) × Layout key sizes n
Measures key sizes (Err p) = reading key ≡ stops p
