-- The names of the full alphabet: the labels of a name that folding leaves as they are. From the right they are the members of the full
-- alphabet (`name_member`, `member_name`); every well formed name has such labels once it is folded (`folded_name`).
use mathlib.Core.Path.{◌≡◌, refl, ap, ◌∙◌}
use mathlib.Core.List.{List, [], ◌∷◌, reverse, reverse-reverse, map}
use Prim.Native.Nat.{ℕ, ◌+◌, ◌≤◌}
use native.Mathlib.Omega.{arith}
use lib.ListN.{length, length-reverse}
use Rattle.order.proofs.Full.{full_not_upper, not_upper_full}
use Rattle.std.specs.Prelude.{Ok}
use Rattle.space.specs.Octets.{Octets}
use Rattle.name.specs.Wire.{reading_of}
use Rattle.name.specs.Labels.{wire, Sizes, AllOctets, IsName, labels_of}
use Rattle.space.specs.Fold.{folded}
use Rattle.name.proofs.Labels.{labels_wire, wire_whole, wire_octets, wire_length, whole_name}
use Rattle.name.proofs.Folding.{NoUpper, folded_no_upper, no_upper_folded, folded_idempotent, folded_octets, folded_wire, folded_labels_lem}
use Rattle.name.proofs.Folding.{folded_whole}
use Rattle.order.specs.Order.{folded_labels}
use Rattle.order.specs.Place.{full}
use Rattle.order.proofs.Canonical.{sequence_length}
use Rattle.order.proofs.Members.{Octets as OctetsOf, Labels, Member, labels_reverse}

-- the labels of a name, folded
pub record FullName (ls : List (List ℕ)) : Type 0 where
  pub name : IsName ls
  pub folds : map folded ls ≡ ls

-- ---- octets of the full alphabet are those that folding keeps

label_full : (l : List ℕ) → Octets l → NoUpper l → OctetsOf full l
label_full [] h f = tt
label_full (o ∷ l) h f = ((h.0, not_upper_full o f.0), label_full l h.1 f.1)

full_label : (l : List ℕ) → OctetsOf full l → Octets l × NoUpper l
full_label [] h = (tt, tt)
full_label (o ∷ l) h = let r = full_label l h.1 in ((h.0.0, r.0), (full_not_upper o h.0.1, r.1))

-- ---- labels

pub labels_full : (ls : List (List ℕ)) → Sizes ls → AllOctets ls → map folded ls ≡ ls → Labels full ls
labels_full [] v a e = tt
labels_full (l ∷ ls) v a e =
    let el : folded l ≡ l = cc in
    let els : map folded ls ≡ ls = cc in
    (v.0, v.1, label_full l a.0 (rw el at (folded_no_upper l)), labels_full ls v.2 a.1 els)

pub full_labels_lem : (ls : List (List ℕ)) → Labels full ls → Sizes ls × AllOctets ls × (map folded ls ≡ ls)
full_labels_lem [] h = (tt, tt, refl)
full_labels_lem (l ∷ ls) h =
    let a = full_label l h.2 in
    let r = full_labels_lem ls h.3 in
    ((h.0, h.1, r.0), (a.0, r.1), rw (no_upper_folded l a.1, r.2))

-- ---- names and members, with at most n symbols

pub name_member : (n : ℕ) (ls : List (List ℕ)) → FullName ls → length (wire ls) ≤ n + 1 → Member full n 127 (reverse ls)
name_member n ls h b =
    let v : IsName ls = h.name in
    record {
      labels = labels_reverse full ls (labels_full ls v.sizes v.octets h.folds);
      depth = rw (length-reverse ls) (omega (arith, wire_length ls v.sizes, v.fits));
      size = omega (arith, sequence_length ls);
    }

pub member_name : (n d : ℕ) (ls : List (List ℕ)) → n ≤ 254 → Member full n d (reverse ls) → FullName ls
member_name n d ls b h =
    let r = full_labels_lem ls (rw (reverse-reverse ls) at (labels_reverse full (reverse ls) h.labels)) in
    record {
      name = record { sizes = r.0; octets = r.1; fits = omega (arith, sequence_length ls, h.size) };
      folds = r.2;
    }

-- ---- well formed names

folds_twice : (ls : List (List ℕ)) → map folded (map folded ls) ≡ map folded ls
folds_twice [] = refl
folds_twice (l ∷ ls) = rw (folded_idempotent l, folds_twice ls)

pub folded_name : (s : List ℕ) → Octets s → reading_of s ≡ Ok tt → FullName (folded_labels s)
folded_name s h e =
    record {
      name = rw (folded_labels_lem s e) at (whole_name (folded s) (folded_octets s h) (folded_whole s e));
      folds = folds_twice (labels_of s);
    }

-- the wire octets of such labels are a folded name, and give them back
module _ (ls : List (List ℕ)) (h : FullName ls) where
  pub full_octets : Octets (wire ls)
  full_octets = wire_octets ls h.name.sizes h.name.octets

  pub full_whole : reading_of (wire ls) ≡ Ok tt
  full_whole = wire_whole ls h.name

  pub full_folded : folded (wire ls) ≡ wire ls
  full_folded = folded_wire ls h.name.sizes ∙ ap wire h.folds

  pub full_labels_back : folded_labels (wire ls) ≡ ls
  full_labels_back = ap (map folded) (labels_wire ls h.name.sizes) ∙ h.folds
