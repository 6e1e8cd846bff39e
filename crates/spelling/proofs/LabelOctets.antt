-- The octets of labels: those of the first labels stand in front of a name's other octets (`wire_label_octets`). And one octet of a name,
-- folded (`part_one`).
use mathlib.Core.Path.{◌≡◌, refl, sym, ap, ◌∙◌}
use mathlib.Core.List.{List, [], ◌∷◌, ◌++◌, append_assoc}
use Prim.Native.Nat.{ℕ, ◌<◌}
use lib.ListN.{length, get_or}
use lib.Seq.{drop-cons}
use Rattle.space.specs.Fold.{lower_of}
use Rattle.space.specs.Private.Put.{folded_part}
use Rattle.name.specs.Labels.{wire}
use Rattle.spelling.specs.Private.LabelOctets.{label_octets}

pub label_octets_append : (ls ms : List (List ℕ)) → label_octets (ls ++ ms) ≡ label_octets ls ++ label_octets ms
label_octets_append [] ms = refl
label_octets_append (l ∷ ls) ms =
    ap (λ (t : List ℕ). length l ∷ l ++ t) (label_octets_append ls ms)
    ∙ ap (λ (t : List ℕ). length l ∷ t) (sym (append_assoc l (label_octets ls) (label_octets ms)))

pub wire_label_octets : (ls ms : List (List ℕ)) → wire (ls ++ ms) ≡ label_octets ls ++ wire ms
wire_label_octets [] ms = refl
wire_label_octets (l ∷ ls) ms =
    ap (λ (t : List ℕ). length l ∷ l ++ t) (wire_label_octets ls ms)
    ∙ ap (λ (t : List ℕ). length l ∷ t) (sym (append_assoc l (label_octets ls) (wire ms)))

-- one octet of s, folded
pub part_one : (s : List ℕ) (p : ℕ) → p < length s → folded_part s p 1 ≡ lower_of (get_or s p 0) ∷ []
part_one s p h = rw (drop-cons s p 0 h)
