-- What document 01 says of names themselves, over the definitions that every contract rests on: which octets are a name, what folding does,
-- what the canonical order and the comparison are, and how long a key is. Each part is one of its sentences.
use Rattle.std.specs.Prelude.{◌≡◌, List, ◌++◌, ◌⊎◌, ◌↔◌, ℕ, ◌+◌, ◌≤◌, ◌<◌, length, get_or, neg_ℤ, nat_abs}
use Rattle.space.specs.Fold.{lower_of, folded}
use Rattle.name.specs.WellFormed.{WellFormed}
use Rattle.name.specs.Labels.{wire, IsName, labels_of}
use Rattle.order.specs.Order.{Before, folded_labels}
use Rattle.order.specs.Compare.{number_of}
use Rattle.key.specs.Key.{key_of}
use Rattle.key.specs.Small.{small}

pub record Names : Type 0 where
  -- a name is labels of 1 to 63 octets, each behind its length octet, and one zero octet, 1 to 255 octets in all: octets are well formed
  -- exactly when they are one, whole
  pub well_formed : (s : List ℕ) → WellFormed s ↔ (ls : List (List ℕ)) × IsName ls × (s ≡ wire ls)
  pub some : (ls : List (List ℕ)) → 1 ≤ length (wire ls)
  -- its labels are these and no others, 0 to 127 of them
  pub labels : (ls : List (List ℕ)) → IsName ls → labels_of (wire ls) ≡ ls
  pub at_most_127 : (ls : List (List ℕ)) → IsName ls → length ls ≤ 127
  -- folding turns octets 65 to 90 into 97 to 122 and touches nothing else; a folded name is a name, and holds no octet of 65 to 90
  pub letter_folded : (o : ℕ) → 65 ≤ o → o ≤ 90 → lower_of o ≡ o + 32
  pub other_kept : (o : ℕ) → (o < 65) ⊎ (90 < o) → lower_of o ≡ o
  pub folded_formed : (s : List ℕ) → WellFormed s → WellFormed (folded s)
  pub no_upper : (s : List ℕ) (i : ℕ) → 65 ≤ get_or (folded s) i 0 → get_or (folded s) i 0 ≤ 90 → ⊥
  -- labels, not octets alone, are folded: no length octet reaches 65
  pub labels_folded : (s : List ℕ) → WellFormed s → labels_of (folded s) ≡ folded_labels s
  -- the canonical order is a strict total order, and a name sorts before every name under it
  pub irreflexive : (ls : List (List ℕ)) → Before ls ls → ⊥
  pub transitive : (ls ms ns : List (List ℕ)) → Before ls ms → Before ms ns → Before ls ns
  pub total : (ls ms : List (List ℕ)) → Before ls ms ⊎ ((ls ≡ ms) ⊎ Before ms ls)
  pub under_later : (ms ls : List (List ℕ)) → 1 ≤ length ms → Before ls (ms ++ ls)
  -- the comparison lies between -127 and 127, and swapping the names turns its sign
  pub range : (s t : List ℕ) → WellFormed s → WellFormed t → nat_abs (number_of (folded_labels s) (folded_labels t)) ≤ 127
  pub swap : (ls ms : List (List ℕ)) → number_of ms ls ≡ neg_ℤ (number_of ls ms)
  -- key length is the name's length, less 1, plus the number of its label octets that are 0 or 1
  pub key_length : (s : List ℕ) → WellFormed s → length (key_of (folded_labels s)) + 1 ≡ length s + small (labels_of s)
