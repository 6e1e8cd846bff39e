-- The labels before a place of a name, in letters, digits and hyphens exactly where as many octets before it are others as length octets
-- are (`spelled_counted`): the octets counted one by one (`counted_more`), and the length octets from label to label (`lengths_more`).
use mathlib.Core.Path.{◌≡◌, refl, sym, ap, ◌∙◌}
use mathlib.Core.List.{List, [], ◌∷◌, ◌++◌, map}
use mathlib.Core.Bool.{Bool, true, not, cond}
use Prim.Native.Nat.{ℕ, zero, suc, ◌+◌, ◌≤◌, ◌<◌}
use native.Mathlib.Omega.{arith}
use borrow.Author.Tests.{eq-eqb, ne_eqb}
use lib.Dec.{eqb}
use lib.ListN.{length, get_or, take, drop, length-append, length-drop}
use lib.Seq.{take_at}
use Rattle.facts.proofs.Lists.{map_take}
use Rattle.space.specs.Fold.{lower_of, folded}
use Rattle.space.specs.Private.Put.{folded_part}
use Rattle.space.proofs.FoldedBlocks.{part_split}
use Rattle.name.specs.Labels.{wire, labels_of}
use Rattle.name.proofs.Folding.{folded_length}
use Rattle.alphabet.specs.declared.Alphabet.TheVariants.{Full, Ldh}
use Rattle.alphabet.specs.Alphabets.{allowed, spelled, all_spelled}
use Rattle.alphabet.specs.Private.Counting.{others}
use Rattle.alphabet.proofs.Spelling.{spelled_append, full_all_spelled, others_append, others_one, others_few, others_spelled}
use Rattle.checks.specs.Private.Boundary.{Boundary, before, upper, lower}
use Rattle.checks.specs.Private.Climbs.{past, between, Climbs}
use Rattle.checks.proofs.Climbing.{folded_from, climbs_octets, tried, climbs_end, boundary_climbs}
use Rattle.spelling.specs.Private.LabelOctets.{label_octets}
use Rattle.spelling.proofs.LabelOctets.{wire_label_octets, part_one}

-- in the full alphabet they are, whatever the name
pub full_labels_spelled : (s : List ℕ) (cut : ℕ) → true ≡ all_spelled Full (upper s cut)
full_labels_spelled s cut = sym (full_all_spelled (take (before s cut) (labels_of s)))

-- ---- the octets

-- of count octets the first k are looked at, and n of them are others
pub record Counted (s : List ℕ) (count n k : ℕ) : Type 0 where
  pub has : count ≤ length s
  pub small : count ≤ 255
  pub within : k ≤ count
  pub few : n ≤ k
  pub is : n ≡ others (folded_part s 0 k)

pub counted_none : (s : List ℕ) (count : ℕ) → (count ≤ length s) × (count ≤ 255) → Counted s count 0 0
unfolding others
counted_none s count h = record { has = h.0; small = h.1; within = omega arith; few = omega arith; is = refl }

module _ {s : List ℕ} {count n k : ℕ} (w : Counted s count n k) where
  pub counted_more : k < count → {t : Bool} → t ≡ allowed Ldh (lower_of (get_or s k 0)) → {m : ℕ} → m ≡ n + cond (not t) 1 0
      → Counted s count m (k + 1)
  counted_more h {t} et {m} em =
      let o : ℕ = lower_of (get_or s k 0) in
      let z : 0 + k ≡ k = omega arith in
      let one : folded_part s (0 + k) 1 ≡ o ∷ [] = rw z (part_one s k (omega (arith, w.has))) in
      let split : others (folded_part s 0 (k + 1)) ≡ others (folded_part s 0 k) + others (o ∷ []) =
      ap others (part_split s 0 k 1) ∙ others_append (folded_part s 0 k) (folded_part s (0 + k) 1)
      ∙ ap (λ (l : List ℕ). others (folded_part s 0 k) + others l) one in
      record {
        has = w.has;
        small = w.small;
        within = omega arith;
        few = omega (arith, w.few, em, others_one o et, others_few o);
        is = omega (arith, w.is, em, others_one o et, split);
      }

  pub counted_all : count ≤ k → n ≡ others (folded_part s 0 count)
  counted_all h = let e : k ≡ count = omega (arith, w.within) in rw (← e) w.is

-- ---- the length octets

-- of those before the place p, n are others, and as many as are left of those before the place cut from there on
pub record Lengths (s : List ℕ) (cut n p : ℕ) : Type 0 where
  pub climbs : Climbs s p cut (length s)
  pub few : n ≤ p
  pub sum : n + others (map length (between s p cut)) ≡ others (map length (upper s cut))

pub lengths_none : (s : List ℕ) (cut : ℕ) → Boundary s cut → Lengths s cut 0 0
lengths_none s cut b = record { climbs = boundary_climbs b (length s) (omega arith); few = omega arith; sum = omega arith }

module _ {s : List ℕ} {cut n p : ℕ} (w : Lengths s cut n p) where
  pub lengths_within : p < cut → past s p < length s
  lengths_within h = (tried w.climbs h).within

  pub lengths_more : p < cut → {t : Bool} → t ≡ allowed Ldh (get_or s p 0) → {m : ℕ} → m ≡ n + cond (not t) 1 0
      → Lengths s cut m (past s p)
  lengths_more h {t} et {m} em =
      let x = tried w.climbs h in
      let rest : List ℕ = map length (between s (past s p) cut) in
      let size : length (folded x.label) ≡ get_or s p 0 = folded_length x.label ∙ sym x.octet in
      let split : others (map length (between s p cut)) ≡ others (get_or s p 0 ∷ []) + others rest =
      ap (λ (ls : List (List ℕ)). others (map length ls)) x.first ∙ ap (λ (o : ℕ). others (o ∷ rest)) size
      ∙ others_append (get_or s p 0 ∷ []) rest in
      record {
        climbs = x.parent;
        few = omega (arith, w.few, em, others_one (get_or s p 0) et, others_few (get_or s p 0));
        sum = omega (arith, w.sum, em, others_one (get_or s p 0) et, split);
      }

  pub lengths_all : cut ≤ p → n ≡ others (map length (upper s cut))
  unfolding others
  lengths_all h = omega (arith, w.sum, ap (λ (ls : List (List ℕ)). others (map length ls)) (climbs_end w.climbs h))

-- ---- the two counts

-- the octets of labels without their length octets
abbrev joined : List (List ℕ) → List ℕ
joined [] = []
joined (l ∷ ls) = l ++ joined ls

all_joined : (ls : List (List ℕ)) → all_spelled Ldh ls ≡ spelled Ldh (joined ls)
all_joined [] = refl
all_joined (l ∷ ls) = rw (spelled_append Ldh l (joined ls), all_joined ls)

octets_parted : (ls : List (List ℕ)) → others (label_octets ls) ≡ others (map length ls) + others (joined ls)
unfolding others
octets_parted [] = refl
octets_parted (l ∷ ls) =
    omega (
      arith,
      others_append (length l ∷ []) (l ++ label_octets ls),
      others_append l (label_octets ls),
      others_append (length l ∷ []) (map length ls),
      others_append l (joined ls),
      octets_parted ls,
    )

equal_sum : (n m x : ℕ) → n ≡ m + x → eqb n m ≡ eqb x 0
equal_sum n m zero e = eq-eqb n m (omega arith)
equal_sum n m (suc x) e = ne_eqb n m (λ q. omega arith) ∙ sym (ne_eqb (suc x) 0 (λ z. omega arith))

module _ {s : List ℕ} {cut : ℕ} (b : Boundary s cut) where
  front_octets : folded_part s 0 cut ≡ label_octets (upper s cut)
  front_octets =
      let w = boundary_climbs b (length s) (omega arith) in
      let e : folded s ≡ label_octets (upper s cut) ++ wire (lower s cut) =
      climbs_octets w ∙ wire_label_octets (upper s cut) (lower s cut) in
      let n : length (label_octets (upper s cut)) ≡ cut =
      omega (
        arith,
        ap length e,
        length-append (label_octets (upper s cut)) (wire (lower s cut)),
        folded_length s,
        ap length (folded_from w.ends),
        folded_length (drop cut s),
        length-drop cut s,
        b.within,
      ) in
      map_take lower_of cut s ∙ ap (take cut) e ∙ take_at (label_octets (upper s cut)) (wire (lower s cut)) cut n

  pub spelled_counted : {n m : ℕ} → n ≡ others (folded_part s 0 cut) → m ≡ others (map length (upper s cut))
      → eqb n m ≡ all_spelled Ldh (upper s cut)
  spelled_counted {n} {m} en em =
      let ls : List (List ℕ) = upper s cut in
      equal_sum n m (others (joined ls)) (omega (arith, en, em, ap others front_octets, octets_parted ls))
      ∙ sym (others_spelled (joined ls)) ∙ sym (all_joined ls)
