-- Request Eleven of document 02, answers that know their labels: the number of a name's labels and the places of their length octets, as
-- the checked name has them and as they are told, over the definitions that the contracts cite, with the lines of the operation.
use Rattle.std.specs.Prelude.{◌≡◌, List, [], map, ℕ, ◌≤◌, ◌<◌, length, take, drop, get_or, replicate}
use Rattle.space.specs.Octets.{Octets}
use Rattle.name.specs.WellFormed.{WellFormed}
use Rattle.name.specs.Labels.{wire, labels_of}
use Rattle.name.specs.Starts.{starts_of, label_at, label_places_of}
use Rattle.name.specs.Check.{name_of}
use Rattle.name.specs.Answer.{fitted}
use Rattle.demands.specs.Lines.{NameLines}

pub record LabelPlaces : Type 0 where
  -- as many as there are labels, 127 at most, and each is an octet
  pub count : (s : List ℕ) → WellFormed s → length (starts_of s) ≡ length (labels_of s)
  pub at_most_127 : (s : List ℕ) → WellFormed s → length (starts_of s) ≤ 127
  pub octets : (s : List ℕ) → WellFormed s → Octets (starts_of s)
  -- from the left: at the i-th place stands the length octet of the i-th label, and from there on this label and those behind it
  pub length_octet : (s : List ℕ) → WellFormed s → (i : ℕ) → i < length (labels_of s)
      → get_or s (get_or (starts_of s) i 0) 0 ≡ length (get_or (labels_of s) i [])
  pub stands : (s : List ℕ) → WellFormed s → (i : ℕ) → i < length (labels_of s)
      → drop (get_or (starts_of s) i 0) s ≡ wire (drop i (labels_of s))
  -- the labels that the places cut are the name's
  pub cut : (s : List ℕ) → WellFormed s → map (label_at s) (starts_of s) ≡ labels_of s
  -- a checked name has their number and the places, and its unused places are 0; beside a refusal both are none
  pub checked_count : (s : List ℕ) → WellFormed s → (name_of s).labels ≡ length (labels_of s)
  pub checked_places : (s : List ℕ) → WellFormed s → take (name_of s).labels (name_of s).places ≡ starts_of s
  pub unused : (s : List ℕ) → WellFormed s → (i : ℕ) → (name_of s).labels ≤ i → get_or (name_of s).places i 0 ≡ 0
  pub beside_refusal : ((name_of []).labels ≡ 0) × ((name_of []).places ≡ replicate 127 0)
  -- 4, then 9, then the number of labels
  pub lines : (name : List ℕ) (room : ℕ) → NameLines (fitted room (label_places_of name)) name room (starts_of name)
