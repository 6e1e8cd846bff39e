-- Octets are well formed exactly when they are the wire octets of a name's labels, which are then `labels_of` them and no others
-- (`wire_labels`, `wire_whole`, `wire_unique`). A name has at most 127 labels.
use mathlib.Core.Path.{◌≡◌, refl, sym, ap, ◌∙◌}
use mathlib.Core.List.{List, [], ◌∷◌, ◌++◌}
use mathlib.Core.Logic.{⊎_elim}
use Prim.Native.Nat.{ℕ, zero, suc, ◌+◌, ◌*◌, ◌≤◌, ◌<◌}
use native.Mathlib.Omega.{arith}
use borrow.Author.Tests.{eq-eqb, ne_eqb, le-ltb}
use lib.ListN.{length, get_or, length-append}
use lib.Seq.{drop-append_seam}
use native.Mathlib.Nat.{pos_of_ne-zero}
use Rattle.facts.proofs.Lists.{length_none}
use Rattle.std.specs.Prelude.{Ok}
use Rattle.space.specs.Octets.{Octets}
use Rattle.name.specs.Wire.{read_from, reading_of}
use Rattle.name.specs.Labels.{wire, Sizes, AllOctets, IsName, split, rest, labels_of}
use Rattle.name.proofs.ReadSteps.{skip}
use Rattle.name.proofs.Whole.{at_whole, broken, whole_fits}

pub wire_some : (ls : List (List ℕ)) → 1 ≤ length (wire ls)
wire_some [] = omega arith
wire_some (l ∷ ls) = omega arith

-- ---- the wire octets of labels are read whole

pub labels_read : (ls : List (List ℕ)) (p : ℕ) → Sizes ls → p + length (wire ls) ≤ 255 → read_from p 0 (wire ls) ≡ Ok tt
unfolding read_from
labels_read [] p v h = refl
labels_read (l ∷ ls) p v h =
    let hl : p + (1 + (length l + length (wire ls))) ≤ 255 = omega (arith, length-append l (wire ls)) in
    let some : 1 ≤ length (wire ls) = wire_some ls in
    rw (ne_eqb (length l) 0 (λ z. omega (arith, v.0)), le-ltb 63 (length l) v.1, le-ltb 254 (p + 1 + length l) (omega arith))
    (skip (l ++ wire ls) (p + 1) (length l) (simp length-append (omega arith))
    ∙ rw drop-append_seam (labels_read ls (p + 1 + length l) v.2 (omega arith)))

pub wire_whole : (ls : List (List ℕ)) → IsName ls → reading_of (wire ls) ≡ Ok tt
wire_whole ls v = labels_read ls 0 v.sizes (omega (arith, v.fits))

-- ---- labels are got back from their wire octets

split_label : (l t : List ℕ) (ls : List (List ℕ)) → split 0 t ≡ [] ∷ ls → split (length l) (l ++ t) ≡ l ∷ ls
unfolding split
split_label [] t ls e = e
split_label (o ∷ l) t ls e = rw (split_label l t ls e)

split_wire : (ls : List (List ℕ)) → Sizes ls → split 0 (wire ls) ≡ [] ∷ ls
unfolding split
split_wire [] v = refl
split_wire (l ∷ ls) v =
    rw (ne_eqb (length l) 0 (λ z. omega (arith, v.0)), split_label l (wire ls) ls (split_wire ls v.2))

pub labels_wire : (ls : List (List ℕ)) → Sizes ls → labels_of (wire ls) ≡ ls
labels_wire ls v = ap rest (split_wire ls v)

pub wire_unique : (ls ms : List (List ℕ)) → Sizes ls → Sizes ms → wire ls ≡ wire ms → ls ≡ ms
wire_unique ls ms v w e = sym (labels_wire ls v) ∙ ap labels_of e ∙ labels_wire ms w

-- ---- what is read whole is its labels' wire octets

-- the octets s are what is left of a label, k octets, and further labels
record Labelled (k : ℕ) (s : List ℕ) : Type 0 where
  first : List ℕ
  others : List (List ℕ)
  is : split k s ≡ first ∷ others
  size : length first ≡ k
  back : first ++ wire others ≡ s
  sizes : Sizes others

labelled : (s : List ℕ) (p k : ℕ) → read_from p k s ≡ Ok tt → Labelled k s
unfolding read_from split
labelled [] p k e = absurd (broken e)
labelled (o ∷ s) p zero e =
    ⊎_elim
    (λ w. record {
      first = [];
      others = [];
      is = rw (eq-eqb o 0 w.zero_octet);
      size = refl;
      back = rw (w.zero_octet, w.end);
      sizes = tt;
    })
    (λ w.
    let c : Labelled o s = labelled s (p + 1) o w.on in
    record {
      first = [];
      others = c.first ∷ c.others;
      is = rw (ne_eqb o 0 w.some, c.is);
      size = refl;
      back = rw (c.size, c.back);
      sizes = (omega (arith, c.size, pos_of_ne-zero w.some), omega (arith, c.size, w.small), c.sizes);
    })
    (at_whole p o s (read_from (p + 1) o s) e)
labelled (o ∷ s) p (suc k) e =
    let c : Labelled k s = labelled s (p + 1) k e in
    record {
      first = o ∷ c.first;
      others = c.others;
      is = rw c.is;
      size = ap suc c.size;
      back = ap (λ (r : List ℕ). o ∷ r) c.back;
      sizes = c.sizes;
    }

pub wire_labels : (s : List ℕ) → reading_of s ≡ Ok tt → wire (labels_of s) ≡ s
wire_labels s e =
    let c : Labelled 0 s = labelled s 0 0 e in
    rw c.is (rw (length_none c.first (omega (arith, c.size))) at c.back)

pub label_sizes : (s : List ℕ) → reading_of s ≡ Ok tt → Sizes (labels_of s)
label_sizes s e = let c : Labelled 0 s = labelled s 0 0 e in rw c.is c.sizes

-- ---- octets

-- the octets of a slice
pub octets_each : (s : List ℕ) → ((i : ℕ) → get_or s i 0 < 256) → Octets s
octets_each [] h = tt
octets_each (o ∷ s) h = (h 0, octets_each s (λ i. h (suc i)))

pub octets_append : (s t : List ℕ) → Octets s → Octets t → Octets (s ++ t)
octets_append [] t a b = b
octets_append (o ∷ s) t a b = (a.0, octets_append s t a.1 b)

octets_front : (s t : List ℕ) → Octets (s ++ t) → Octets s × Octets t
octets_front [] t h = (tt, h)
octets_front (o ∷ s) t h = let r = octets_front s t h.1 in ((h.0, r.0), r.1)

pub wire_octets : (ls : List (List ℕ)) → Sizes ls → AllOctets ls → Octets (wire ls)
wire_octets [] v a = (omega arith, tt)
wire_octets (l ∷ ls) v a = (omega (arith, v.1), octets_append l (wire ls) a.0 (wire_octets ls v.2 a.1))

label_octets_lem : (ls : List (List ℕ)) → Octets (wire ls) → AllOctets ls
label_octets_lem [] h = tt
label_octets_lem (l ∷ ls) h = let r = octets_front l (wire ls) h.1 in (r.0, label_octets_lem ls r.1)

-- ---- well formed octets are a name's

pub whole_name : (s : List ℕ) → Octets s → reading_of s ≡ Ok tt → IsName (labels_of s)
whole_name s h e =
    record {
      sizes = label_sizes s e;
      octets = label_octets_lem (labels_of s) (rw (wire_labels s e) h);
      fits = rw (wire_labels s e) (whole_fits s e);
    }

-- a label takes two octets or more
pub wire_length : (ls : List (List ℕ)) → Sizes ls → 2 * length ls + 1 ≤ length (wire ls)
wire_length [] v = omega arith
wire_length (l ∷ ls) v = omega (arith, wire_length ls v.2, v.0, length-append l (wire ls))

pub at_most_127_labels : (s : List ℕ) → reading_of s ≡ Ok tt → length (labels_of s) ≤ 127
at_most_127_labels s e =
    omega (arith, wire_length (labels_of s) (label_sizes s e), ap length (wire_labels s e), whole_fits s e)
