-- The elements of an array of octets are octets: what owning an array tells, as a property of its list. Octets put over a whole array are
-- what it then has.
use Rattle.std.proofs.Common.{◌≡◌, ℕ, List, [], ◌∷◌, ◌++◌, length, ap, ◌∙◌, append-nil, arith, drop_of_length-le, w8}
use mir.Val.{Val}
use denote.Array.{each}
use denote.Shadow.{shadow}
use denote.Plain.{UInt}
use Rattle.space.specs.Private.Put.{put}
use Rattle.space.proofs.Putting.{put_overlay}
use Rattle.hash.specs.Private.Below.{Below}

pub array_octets : (xs : List ℕ) (us : List Val) → shadow (each ℕ (UInt w8).own_val xs us) → Below 256 xs
array_octets [] us p = tt
array_octets (x ∷ xs) [] p = absurd p
array_octets (x ∷ xs) (u ∷ us) p = (p.0.1, array_octets xs us p.1)

pub put_whole : (d k : List ℕ) → length k ≡ length d → put d 0 k ≡ k
put_whole d k e =
    put_overlay d k (omega arith) ∙ ap (λ (l : List ℕ). k ++ l) (drop_of_length-le d {i = length k} (omega arith)) ∙ append-nil k
