-- What the checks find with the walk for two places: a name passes where it finds a label at the cut and the octets from there on are the
-- apex's, folded (`both_walked`), and nowhere else, as with the walk for one (checks/proofs/Placing.antt).
use mathlib.Core.Path.{◌≡◌}
use mathlib.Core.List.{List}
use mathlib.Core.Bool.{true}
use Prim.Native.Nat.{ℕ, ◌+◌, ◌-◌, ◌≤◌}
use native.Mathlib.Omega.{arith}
use lib.ListN.{length, take, drop}
use Rattle.space.specs.Fold.{folded}
use Rattle.space.specs.Same.{same_octets}
use Rattle.checks.proofs.CheckLines.{Admitted, checks_refused}
use Rattle.checks.proofs.Placing.{uncut_out, passes_cut}
use Rattle.checkcloser.specs.Private.Both.{WalksBoth, PlacesBoth}

module _ (apex : List ℕ) (limit : ℕ) (name : List ℕ) where
  pub both_refused : {mark : ℕ} → (Admitted apex limit name → ⊥) → PlacesBoth apex limit mark name 256
  both_refused f =
      record {
        most = omega arith;
        passes = λ h. absurd (omega arith);
        marks = λ h. absurd (omega arith);
        refuses = λ h. checks_refused apex limit name f;
      }

  module _ (h : length apex ≤ length name) (most : limit ≤ 255) (fits : length name ≤ limit) (room : length apex + 2 ≤ limit)
      (e : true ≡ same_octets (folded (take (length apex) (drop (length name - length apex) name))) (folded apex)) where
    pub both_walked : {mark r : ℕ} → WalksBoth name (length name - length apex) mark r → PlacesBoth apex limit mark name r
    both_walked w =
        record {
          most = w.most;
          passes = λ g. passes_cut apex limit name h most fits room e (w.begins g);
          marks = w.marks;
          refuses = λ g. checks_refused apex limit name (uncut_out apex limit name h (w.none g));
        }
