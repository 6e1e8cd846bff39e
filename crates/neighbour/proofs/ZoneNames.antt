-- Names and the labels above the apex: the folded names at or under the apex within a limit are those of the zone's members, in the same
-- order, whatever the alphabet and the depth.
use mathlib.Core.Path.{◌≡◌, refl, sym, ap, ◌∙◌}
use mathlib.Core.List.{List, [], ◌∷◌, ◌++◌, map}
use mathlib.Core.Bool.{true}
use Prim.Native.Nat.{ℕ, ◌≤◌}
use native.Mathlib.Omega.{arith}
use lib.ListN.{length, length-append, length-map}
use lib.Seq.{length-take-le, take-append_seam}
use Rattle.std.specs.Prelude.{Ok}
use Rattle.name.specs.Wire.{reading_of}
use Rattle.name.specs.Labels.{wire, Sizes, AllOctets, labels_of}
use Rattle.space.specs.Fold.{folded}
use Rattle.name.proofs.Labels.{wire_whole, labels_wire, wire_octets, whole_name, label_sizes}
use Rattle.name.proofs.Folding.{folded_length, folded_sizes, folded_wire, folded_is_wire}
use Rattle.name.proofs.Folding.{folded_idempotent, folded_octets}
use Rattle.order.specs.Order.{folded_labels}
use Rattle.order.specs.Place.{full}
use Rattle.zone.specs.Zone.{AllSpelled, Member}
use Rattle.zone.proofs.FullAlphabet.{folded_spelled}
use Rattle.checks.specs.Under.{is_under, more, above}
use Rattle.checks.specs.Under.{under}
use Rattle.checks.proofs.UnderLabels.{under_labels, labels_under}
use Rattle.facts.proofs.Lists.{map_append}
use Rattle.checks.proofs.Lists.{sizes_append, sizes_parts}
use Rattle.name.specs.WellFormed.{WellFormed}
use Rattle.alphabet.specs.declared.Alphabet.{Alphabet}
use Rattle.alphabet.specs.declared.Alphabet.TheVariants.{Full}
use Rattle.alphabet.specs.Alphabets.{allowed, all_spelled}
use Rattle.alphabet.proofs.Spelling.{all_spelled_labels, labels_all_spelled, spelled_folded}
use Rattle.neighbour.specs.Nearest.{InZoneOf}

-- ---- lists of labels

octets_join : (ls ms : List (List ℕ)) → AllOctets ls → AllOctets ms → AllOctets (ls ++ ms)
octets_join [] ms a b = b
octets_join (l ∷ ls) ms a b = (a.0, octets_join ls ms a.1 b)

spelled_front : (ls ms : List (List ℕ)) → AllSpelled full (ls ++ ms) → AllSpelled full ls
spelled_front [] ms h = tt
spelled_front (l ∷ ls) ms h = (h.0, spelled_front ls ms h.1)

folded_labels_octets : (ls : List (List ℕ)) → AllOctets ls → AllOctets (map folded ls)
folded_labels_octets [] h = tt
folded_labels_octets (l ∷ ls) h = (folded_octets l h.0, folded_labels_octets ls h.1)

pub folded_labels_again : (ls : List (List ℕ)) → map folded (map folded ls) ≡ map folded ls
folded_labels_again [] = refl
folded_labels_again (l ∷ ls) = rw (folded_idempotent l, folded_labels_again ls)

-- a name is as long as the wire octets of its folded labels
pub folded_labels_length : (s : List ℕ) → reading_of s ≡ Ok tt → length (wire (folded_labels s)) ≡ length s
folded_labels_length s e = ap length (sym (folded_is_wire s e)) ∙ folded_length s

module _ (apex : List ℕ) (va : WellFormed apex) where
  -- ---- from a name under the apex to its labels above it

  module _ (name : List ℕ) (vn : WellFormed name) (h : is_under apex name ≡ true) where
    pub name_parts : folded_labels name ≡ above apex name ++ folded_labels apex
    name_parts = under_labels apex name h

    pub above_count : length (above apex name) ≡ more apex name
    above_count =
        length-take-le (more apex name) (folded_labels name)
        (rw (length-map (labels_of name) folded) (omega arith))

    name_sizes : Sizes (above apex name ++ folded_labels apex)
    name_sizes = rw (← name_parts) (folded_sizes (labels_of name) (label_sizes name vn.whole))

    name_spelled : AllSpelled full (above apex name ++ folded_labels apex)
    name_spelled = rw (← name_parts) (folded_spelled (labels_of name) (whole_name name vn.octets vn.whole).octets)

    pub name_length : length (wire (above apex name ++ folded_labels apex)) ≡ length name
    name_length = rw (← name_parts) (folded_labels_length name vn.whole)

    pub name_member : (alphabet : Alphabet) → all_spelled alphabet (above apex name) ≡ true → (limit depth : ℕ) → length name ≤ limit
        → more apex name ≤ depth → Member (allowed alphabet) limit depth (folded_labels apex) (above apex name)
    name_member alphabet spelled limit depth fits few =
        let octets = (spelled_folded Full (above apex name) (spelled_front (above apex name) (folded_labels apex) name_spelled)).0 in
        record {
          sizes = (sizes_parts (above apex name) (folded_labels apex) name_sizes).0;
          octets = all_spelled_labels alphabet (above apex name) octets spelled;
          few = rw above_count few;
          fits = rw name_length fits;
        }

    -- a folded name is that of its labels
    pub name_under : folded name ≡ name → name ≡ under apex (above apex name)
    name_under e = sym e ∙ folded_is_wire name vn.whole ∙ ap wire name_parts

  -- ---- from labels above the apex to the name

  module _ (alphabet : Alphabet) (limit depth : ℕ) (most : limit ≤ 255) (ms : List (List ℕ))
      (m : Member (allowed alphabet) limit depth (folded_labels apex) ms) where
    sizes : Sizes (ms ++ folded_labels apex)
    sizes = sizes_append ms (folded_labels apex) m.sizes (folded_sizes (labels_of apex) (label_sizes apex va.whole))

    octets : AllOctets (ms ++ folded_labels apex)
    octets =
        octets_join ms (folded_labels apex) (spelled_folded alphabet ms m.octets).0
        (folded_labels_octets (labels_of apex) (whole_name apex va.octets va.whole).octets)

    again : map folded (ms ++ folded_labels apex) ≡ ms ++ folded_labels apex
    again =
        map_append folded ms (folded_labels apex)
        ∙ rw ((spelled_folded alphabet ms m.octets).1, folded_labels_again (labels_of apex))

    back : labels_of (under apex ms) ≡ ms ++ folded_labels apex
    back = labels_wire (ms ++ folded_labels apex) sizes

    pub member_labels : folded_labels (under apex ms) ≡ ms ++ folded_labels apex
    member_labels = ap (λ (t : List (List ℕ)). map folded t) back ∙ again

    pub member_formed : WellFormed (under apex ms)
    member_formed =
        record {
          octets = wire_octets (ms ++ folded_labels apex) sizes octets;
          whole = wire_whole (ms ++ folded_labels apex) (record { sizes = sizes; octets = octets; fits = omega (arith, m.fits) });
        }

    pub member_more : more apex (under apex ms) ≡ length ms
    member_more = omega (arith, ap length back, length-append ms (folded_labels apex), length-map (labels_of apex) folded)

    pub member_under : is_under apex (under apex ms) ≡ true
    member_under = labels_under apex (under apex ms) ms member_labels

    pub member_above : above apex (under apex ms) ≡ ms
    member_above = rw (member_more, member_labels) (take-append_seam ms (folded_labels apex))

    pub member_zone : InZoneOf alphabet apex limit (under apex ms)
    member_zone =
        record {
          zone = record {
            formed = member_formed;
            folds = folded_wire (ms ++ folded_labels apex) sizes ∙ ap wire again;
            under = member_under;
            fits = m.fits;
          };
          spelled = rw member_above (labels_all_spelled alphabet ms m.octets);
        }
