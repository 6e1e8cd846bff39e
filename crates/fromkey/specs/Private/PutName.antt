-- Writing the name that has a key: what must be known of the key, and what is written of one label.
use Rattle.std.specs.Prelude.{◌≡◌, List, ◌∷◌, ℕ, ◌+◌, length, drop}
use Rattle.space.specs.Private.Written.{Written}
use Rattle.name.specs.Labels.{rest}
use Rattle.space.specs.Octets.{overlay}
use Rattle.key.specs.Key.{label_key, right_key}
use Rattle.fromkey.specs.Private.KeyLabels.{labels_in, sizes_in, name_in, first_label}

-- the octets are the key of their labels, whose sizes the array notes, and whose name has n octets
pub record Layout (key sizes : List ℕ) (n : ℕ) : Type 0 where
  pub is : right_key (labels_in key) ≡ key
  pub array : length sizes ≡ 127
  pub noted : overlay (sizes_in key) sizes ≡ sizes
  pub size : n ≡ length (name_in key)

-- the label at the place p, and the labels after it
abbrev pub label_at : List ℕ → ℕ → List ℕ
label_at key p = first_label (labels_in (drop p key))

abbrev pub labels_after : List ℕ → ℕ → List (List ℕ)
labels_after key p = rest (labels_in (drop p key))

-- at the place p stands the key of a label of n octets, and of those after it
pub record LabelAt (key : List ℕ) (p n : ℕ) : Type 0 where
  pub is : label_key (label_at key p) (right_key (labels_after key p)) ≡ drop p key
  pub size : length (label_at key p) ≡ n

-- the label at the place p is written from the index `at` on, and its 00 is at the place `end`
pub record PutLabel (key : List ℕ) (p n at : ℕ) (before after : List ℕ) (end : ℕ) : Type 0 where
  pub written : Written before at at (label_at key p) (at + n) (at + n) after
  pub closed : 0 ∷ right_key (labels_after key p) ≡ drop end key
