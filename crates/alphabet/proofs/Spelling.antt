-- Labels that an alphabet spells, tested (`all_spelled_labels`, `labels_all_spelled`): they are octets, and folded (`spelled_folded`).
-- Folded labels are spelled in the full alphabet, whatever they are (`full_all_spelled`), and in the small one where no octet of theirs is
-- counted as another (`others_spelled`).
use mathlib.Core.Path.{◌≡◌, refl, sym}
use mathlib.Core.List.{List, [], ◌∷◌, ◌++◌, map}
use mathlib.Core.Bool.{Bool, true, false, not, cond, ◌&&◌, false≢true}
use Prim.Native.Nat.{ℕ, suc, ◌+◌, ◌≤◌}
use native.Mathlib.Omega.{arith}
use borrow.Author.Tests.{ne_eqb}
use lib.Dec.{T, eqb}
use Rattle.facts.proofs.Booleans.{both_true}
use Rattle.space.specs.Octets.{Octets}
use Rattle.space.specs.Fold.{folded}
use Rattle.name.specs.Labels.{AllOctets}
use Rattle.name.proofs.Folding.{NoUpper, folded_no_upper}
use Rattle.order.specs.Place.{full}
use Rattle.zone.specs.Zone.{Spelled, AllSpelled}
use Rattle.zone.proofs.FullAlphabet.{not_upper_full}
use Rattle.alphabet.specs.declared.Alphabet.{Alphabet}
use Rattle.alphabet.specs.declared.Alphabet.TheVariants.{Full, Ldh}
use Rattle.alphabet.specs.Alphabets.{ldh, among, allowed, spelled, all_spelled}
use Rattle.alphabet.specs.Private.Counting.{others}
use Rattle.alphabet.proofs.Folded.{allowed_kept}

true_is : (b : Bool) → b ≡ true → T b
true_is true e = tt
true_is false e = false≢true e

is_true : (b : Bool) → T b → b ≡ true
is_true true t = refl
is_true false t = absurd t

and_assoc : (a b c : Bool) → a && (b && c) ≡ (a && b) && c
and_assoc true b c = refl
and_assoc false b c = refl

module _ (alphabet : Alphabet) where
  pub spelled_append : (l m : List ℕ) → spelled alphabet (l ++ m) ≡ spelled alphabet l && spelled alphabet m
  spelled_append [] m = refl
  spelled_append (o ∷ l) m = rw (spelled_append l m) (and_assoc (allowed alphabet o) (spelled alphabet l) (spelled alphabet m))

  spelled_label : (l : List ℕ) → Octets l → spelled alphabet l ≡ true → Spelled (allowed alphabet) l
  spelled_label [] v e = tt
  spelled_label (o ∷ l) v e =
      let p = both_true (allowed alphabet o) (spelled alphabet l) e in
      (v.0, true_is (allowed alphabet o) p.0, spelled_label l v.1 p.1)

  pub all_spelled_labels : (ls : List (List ℕ)) → AllOctets ls → all_spelled alphabet ls ≡ true → AllSpelled (allowed alphabet) ls
  all_spelled_labels [] v e = tt
  all_spelled_labels (l ∷ ls) v e =
      let p = both_true (spelled alphabet l) (all_spelled alphabet ls) e in
      (spelled_label l v.0 p.0, all_spelled_labels ls v.1 p.1)

  label_spelled : (l : List ℕ) → Spelled (allowed alphabet) l → spelled alphabet l ≡ true
  label_spelled [] v = refl
  label_spelled (o ∷ l) v = rw (is_true (allowed alphabet o) v.1, label_spelled l v.2)

  pub labels_all_spelled : (ls : List (List ℕ)) → AllSpelled (allowed alphabet) ls → all_spelled alphabet ls ≡ true
  labels_all_spelled [] v = refl
  labels_all_spelled (l ∷ ls) v = rw (label_spelled l v.0, labels_all_spelled ls v.1)

  spelled_octets : (l : List ℕ) → Spelled (allowed alphabet) l → Octets l × (folded l ≡ l)
  spelled_octets [] v = (tt, refl)
  spelled_octets (o ∷ l) v = let r = spelled_octets l v.2 in ((v.0, r.0), rw (allowed_kept alphabet o v.1, r.1))

  pub spelled_folded : (ls : List (List ℕ)) → AllSpelled (allowed alphabet) ls → AllOctets ls × (map folded ls ≡ ls)
  spelled_folded [] v = (tt, refl)
  spelled_folded (l ∷ ls) v =
      let r = spelled_octets l v.0 in
      let rs = spelled_folded ls v.1 in
      ((r.0, rs.0), rw (r.1, rs.1))

-- ---- the full alphabet

full_spelled : (l : List ℕ) → NoUpper l → spelled Full l ≡ true
full_spelled [] v = refl
full_spelled (o ∷ l) v = rw (is_true (full o) (not_upper_full o v.0), full_spelled l v.1)

pub full_all_spelled : (ls : List (List ℕ)) → all_spelled Full (map folded ls) ≡ true
full_all_spelled [] = refl
full_all_spelled (l ∷ ls) = rw (full_spelled (folded l) (folded_no_upper l), full_all_spelled ls)

-- ---- letters, digits and hyphens

pub others_append : (l m : List ℕ) → others (l ++ m) ≡ others l + others m
unfolding others
others_append [] m = omega arith
others_append (o ∷ l) m = go (among o ldh) (others_append l m)
  where
    go : (t : Bool) → others (l ++ m) ≡ others l + others m
        → cond t (others (l ++ m)) (suc (others (l ++ m))) ≡ cond t (others l) (suc (others l)) + others m
    go true e = e
    go false e = omega arith

-- one octet, tested
pub others_one : (o : ℕ) {t : Bool} → t ≡ among o ldh → cond (not t) 1 0 ≡ others (o ∷ [])
unfolding others
others_one o {t} e = rw (← e) (go t)
  where
    go : (t : Bool) → ◌≡◌ {A = ℕ} (cond (not t) 1 0) (cond t 0 1)
    go true = refl
    go false = refl

pub others_few : (o : ℕ) → others (o ∷ []) ≤ 1
unfolding others
others_few o = go (among o ldh)
  where
    go : (t : Bool) → cond t 0 1 ≤ 1
    go true = omega arith
    go false = omega arith

pub others_spelled : (l : List ℕ) → spelled Ldh l ≡ eqb (others l) 0
unfolding others
others_spelled [] = refl
others_spelled (o ∷ l) = go (among o ldh) (others_spelled l)
  where
    go : (t : Bool) → spelled Ldh l ≡ eqb (others l) 0 → t && spelled Ldh l ≡ eqb (cond t (others l) (suc (others l))) 0
    go true e = e
    go false e = sym (ne_eqb (suc (others l)) 0 (λ z. omega arith))
