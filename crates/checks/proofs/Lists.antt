-- Lists of octets and of labels: sizes of parts, and the octets past the first labels.
use mathlib.Core.Path.{◌≡◌, refl, ◌∙◌}
use mathlib.Core.List.{List, [], ◌∷◌, ◌++◌, map}
use Prim.Native.Nat.{ℕ, suc, ◌+◌}
use native.Mathlib.Omega.{arith}
use lib.ListN.{length, drop}
use lib.Seq.{drop-append-add}
pub use Rattle.facts.proofs.Lists.{map_take, map_drop, map_append}
use Rattle.name.specs.Labels.{wire, Sizes}
use Rattle.space.specs.Fold.{folded}
use Rattle.name.proofs.Folding.{folded_length}
use Rattle.zone.specs.Zone.{size}

pub sizes_append : (ls ms : List (List ℕ)) → Sizes ls → Sizes ms → Sizes (ls ++ ms)
sizes_append [] ms v w = w
sizes_append (l ∷ ls) ms v w = (v.0, v.1, sizes_append ls ms v.2 w)

pub sizes_parts : (ls ms : List (List ℕ)) → Sizes (ls ++ ms) → Sizes ls × Sizes ms
sizes_parts [] ms v = (tt, v)
sizes_parts (l ∷ ls) ms v = let r = sizes_parts ls ms v.2 in ((v.0, v.1, r.0), r.1)

pub folded_size : (ls : List (List ℕ)) → size (map folded ls) ≡ size ls
folded_size [] = refl
folded_size (l ∷ ls) = omega (arith, folded_length l, folded_size ls)

-- past the octets of the first labels come those of the others
pub drop_size : (us ms : List (List ℕ)) → drop (size us) (wire (us ++ ms)) ≡ wire ms
drop_size [] ms = refl
drop_size (l ∷ us) ms =
    let e : size (l ∷ us) ≡ suc (length l + size us) = omega arith in
    rw e (drop-append-add l (wire (us ++ ms)) (size us) ∙ drop_size us ms)
