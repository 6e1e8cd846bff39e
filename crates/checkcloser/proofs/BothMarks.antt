-- The walk over a name for two places is a walk for each: the places noted are those of both (`WalkingBoth`), and each case of it is that
-- case of the walk for one. Where the name ends, a label begins at the cut or none does, and so at the mark (`both_found`).
use mathlib.Core.Path.{◌≡◌}
use mathlib.Core.List.{List}
use Prim.Native.Nat.{ℕ, ◌+◌, ◌≤◌, ◌<◌}
use native.Mathlib.Omega.{arith}
use lib.ListN.{length, get_or}
use Rattle.checks.specs.declared.Depth.TheVariants.{All, One}
use Rattle.checks.specs.Private.Walks.{Walks}
use Rattle.checkcloser.specs.Private.Both.{WalksBoth}
use Rattle.checks.proofs.Marks.{WalkingLast, last_start}
use Rattle.checks.proofs.Marks.{walking_left_over, walking_last, walking_none, walking_bad_length, walking_short}

-- the walk for the cut, which notes where the last label ends and not where it begins, and the walk for the mark
pub record WalkingBoth (s : List ℕ) (cut mark p at end over : ℕ) : Type 0 where
  pub place : ℕ
  pub cuts : WalkingLast s cut p place over
  pub marks : WalkingLast s mark p at end

pub both_start : (s : List ℕ) (cut mark : ℕ) → WalkingBoth s cut mark 0 0 0 0
both_start s cut mark = record { place = 0; cuts = last_start s cut; marks = last_start s mark }

module _ {s : List ℕ} {cut mark : ℕ} where
  -- no label begins at the cut
  uncut : Walks s cut 1 255 → WalksBoth s cut mark 256
  uncut w =
      record {
        most = omega arith;
        begins = λ h. absurd (omega arith);
        marks = λ h. absurd (omega arith);
        none = λ h. w.none (omega arith);
      }

  -- one does, and the walk for the mark tells whether one does there
  pairs : {r : ℕ} → Walks s cut 127 0 → Walks s mark 1 r → WalksBoth s cut mark r
  pairs w v =
      record {
        most = omega (arith, v.most);
        begins = λ h. w.begins (omega arith);
        marks = λ h. v;
        none = λ h. absurd (omega (arith, v.most));
      }

module _ {s : List ℕ} {cut mark p at end over : ℕ} (w : WalkingBoth s cut mark p at end over) where
  pub both_short : length s ≤ p → WalksBoth s cut mark 256
  both_short h = uncut (walking_short w.cuts.walks h)

  module _ (h : p < length s) where
    pub both_left_over : get_or s p 0 ≡ 0 → p + 1 < length s → WalksBoth s cut mark 256
    both_left_over z g = uncut (walking_left_over w.cuts.walks h z g)

    pub both_bad_length : 63 < get_or s p 0 → WalksBoth s cut mark 256
    both_bad_length g = uncut (walking_bad_length w.cuts.walks h g)

    pub both_uncut : get_or s p 0 ≡ 0 → (over ≡ cut → ⊥) → WalksBoth s cut mark 256
    both_uncut z f = uncut (walking_none w.cuts.walks h z f)

    module _ (fits : length s ≤ 255) (z : get_or s p 0 ≡ 0) (g : length s ≤ p + 1) (e : over ≡ cut) where
      pub both_found : end ≡ mark → WalksBoth s cut mark at
      both_found f = pairs (walking_last w.cuts.walks h fits z g e All) (walking_last w.marks.walks h fits z g f One)

      pub both_unmarked : (end ≡ mark → ⊥) → WalksBoth s cut mark 255
      both_unmarked f = pairs (walking_last w.cuts.walks h fits z g e All) (walking_none w.marks.walks h z f)
