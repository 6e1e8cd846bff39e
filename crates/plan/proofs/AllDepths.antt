-- A depth of 127 or more allows every label that fits, so the predecessor is the same for each such depth.
use mathlib.Core.Path.{◌≡◌, refl, sym, ◌∙◌}
use mathlib.Core.List.{List, [], ◌∷◌, ◌++◌}
use mathlib.Core.Bool.{Bool}
use mathlib.Core.Option.{Option, none, some}
use Prim.Native.Nat.{ℕ, suc, ◌-◌, ◌≤◌, min}
use native.Mathlib.Omega.{arith}
use lib.ListN.{length, take, get_or, replicate, length-append}
use Rattle.name.specs.Labels.{Sizes}
use Rattle.zone.specs.Alphabet.{below}
use Rattle.zone.specs.Zone.{size}
use Rattle.zone.specs.Steps.{greatest, deepest, padded, lowered, predecessor_steps}
use Rattle.zone.proofs.Depth.{size_count, fill_labels_enough, predecessor_absolute}

module _ (allowed : ℕ → Bool) (n d e : ℕ) (d-many : 127 ≤ d) (e-many : 127 ≤ e) (few : n ≤ 254) where
  deepest_enough : (l : List ℕ) (ls : List (List ℕ)) → 1 ≤ length l → Sizes ls → deepest allowed n d (l ∷ ls) ≡ deepest allowed n e (l ∷ ls)
  deepest_enough l ls h v =
      fill_labels_enough allowed (d - suc (length ls)) (e - suc (length ls)) (n - size (l ∷ ls)) (l ∷ ls)
      (omega (arith, size_count ls v)) (omega (arith, size_count ls v))

  lowered_enough : (o : Option ℕ) (l : List ℕ) (ls : List (List ℕ)) → Sizes ls → lowered allowed n d o l ls ≡ lowered allowed n e o l ls
  lowered_enough (some o) l ls v =
      let pad : List ℕ = replicate (min (63 - length (l ++ o ∷ [])) (n - size ((l ++ o ∷ []) ∷ ls))) (greatest allowed) in
      deepest_enough (padded allowed n (l ++ o ∷ []) ls) ls (simp length-append (omega arith)) v
  lowered_enough none [] ls v = refl
  lowered_enough none (o ∷ l) ls v = deepest_enough (o ∷ l) ls (omega arith) v

  pub predecessor_enough : (ls : List (List ℕ)) → Sizes ls → size ls ≤ n
      → predecessor_steps allowed n d ls ≡ predecessor_steps allowed n e ls
  unfolding predecessor_steps
  predecessor_enough [] v h = fill_labels_enough allowed (d - 0) (e - 0) (n - 0) [] (omega arith) (omega arith)
  predecessor_enough (l ∷ ls) v h =
      predecessor_absolute allowed n d d-many few l ls v h
      ∙ lowered_enough (below allowed (get_or l (length l - 1) 0)) (take (length l - 1) l) ls v.2
      ∙ sym (predecessor_absolute allowed n e e-many few l ls v h)
