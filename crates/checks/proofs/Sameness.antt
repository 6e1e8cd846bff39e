-- Labels that are found the same are equal, and equal ones are found the same.
use mathlib.Core.Path.{◌≡◌, refl}
use mathlib.Core.List.{List, [], ◌∷◌}
use mathlib.Core.Bool.{true, false≢true}
use Prim.Native.Nat.{ℕ}
use Rattle.space.specs.Same.{same_octets}
use Rattle.facts.proofs.Booleans.{both_true}
use Rattle.space.proofs.SameBlocks.{same_octets_equal, same_octets_refl}
use Rattle.checks.specs.Under.{same_labels}

pub same_labels_equal : (ls ms : List (List ℕ)) → same_labels ls ms ≡ true → ls ≡ ms
same_labels_equal [] [] e = refl
same_labels_equal [] (m ∷ ms) e = absurd (false≢true e)
same_labels_equal (l ∷ ls) [] e = absurd (false≢true e)
same_labels_equal (l ∷ ls) (m ∷ ms) e =
    let p = both_true (same_octets l m) (same_labels ls ms) e in
    rw (same_octets_equal l m p.0, same_labels_equal ls ms p.1)

pub same_labels_refl : (ls : List (List ℕ)) → same_labels ls ls ≡ true
same_labels_refl [] = refl
same_labels_refl (l ∷ ls) = rw (same_octets_refl l, same_labels_refl ls)
