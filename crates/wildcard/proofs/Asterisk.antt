-- The wildcard name in a space: two octets, and behind them the encloser.
use mathlib.Core.Path.{◌≡◌, refl, ◌∙◌}
use mathlib.Core.List.{List, [], ◌∷◌}
use Prim.Native.Nat.{ℕ, ◌+◌, ◌≤◌}
use native.Mathlib.Omega.{arith}
use lib.ListN.{length, set, length-set}
use Rattle.space.specs.Private.Put.{put}
use Rattle.space.specs.Private.Written.{Written}
use Rattle.space.proofs.Putting.{put_written}
use Rattle.space.proofs.Written.{written_octet, written_behind}

pub wildcard_written : (d s e : List ℕ) → length s + 2 ≤ length d → e ≡ put (set (set d 0 1) 1 42) 2 s
    → Written d 0 0 (1 ∷ 42 ∷ s) (2 + length s) (2 + length s) e
wildcard_written d s e room is =
    let c : List ℕ = set (set d 0 1) 1 42 in
    let n : length c ≡ length d = length-set (set d 0 1) 1 42 ∙ length-set d 0 1 in
    let a : Written d 0 0 (1 ∷ []) 1 1 (set d 0 1) = written_octet d 0 1 refl (omega arith) in
    let b : Written (set d 0 1) 1 1 (42 ∷ []) 2 2 c = written_octet (set d 0 1) 1 42 refl (omega (arith, length-set d 0 1)) in
    let w : Written c 2 2 s (2 + length s) (2 + length s) e = put_written c 2 s is refl (omega arith) in
    written_behind (written_behind a b (omega arith)) w (omega arith)
