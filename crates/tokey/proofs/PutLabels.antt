-- A label's key written before an index: the 00 that closes it, and then its octets, coded one by one or copied at once.
use mathlib.Core.Path.{◌≡◌, ap}
use mathlib.Core.List.{List, [], ◌∷◌}
use Prim.Native.Nat.{ℕ, ◌+◌, ◌-◌, ◌≤◌}
use native.Mathlib.Omega.{arith}
use lib.ListN.{length, length-append, length-set, set}
use Rattle.space.specs.Private.Put.{folded_part}
use Rattle.space.specs.Private.Written.{Written, Room}
use Rattle.space.specs.Private.Put.{put_folded}
use Rattle.space.proofs.Written.{written_octet, written_before}
use Rattle.space.proofs.Putting.{part_length, folded_written}
use Rattle.key.specs.Key.{label_key}
use Rattle.tokey.specs.Private.Codes.{codes}
use Rattle.key.specs.Small.{small_in}
use Rattle.tokey.proofs.KeyParts.{codes_before, codes_plain, label_key_codes}

module _ {d : List ℕ} {end : ℕ} (s : List ℕ) (from n : ℕ) (has : from + n ≤ length s)
    (room : Room d end (label_key (folded_part s from n) [])) where
  label_size_lem : length (codes (folded_part s from n)) + 1 ≤ end
  label_size_lem =
      let l : List ℕ = folded_part s from n in
      omega (arith, room.fits, ap length (label_key_codes l []), length-append (codes l) (0 ∷ []))

  pub label_fits : n + 1 ≤ end
  label_fits = let e = part_length s from n has in omega (arith, label_size_lem, codes_before (folded_part s from n) n (omega arith))

  pub label_room : Room (set d (end - 1) 0) (end - 1) (codes (folded_part s from n))
  label_room = record { fits = omega (arith, label_size_lem); within = simp length-set (omega (arith, room.within)) }

  pub label_octets_lem : {at : ℕ} {e : List ℕ} → Written (set d (end - 1) 0) at at (codes (folded_part s from n)) (end - 1) (end - 1) e
      → Written d at at (label_key (folded_part s from n) []) end end e
  label_octets_lem w =
      let some : 1 ≤ end = omega (arith, label_size_lem) in
      rw (label_key_codes (folded_part s from n) [])
      (written_before (written_octet d (end - 1) 0 (omega arith) (omega arith)) w (omega arith))

  pub label_plain : {e : List ℕ} → small_in (folded_part s from n) ≡ 0 → e ≡ put_folded (set d (end - 1) 0) (end - 1 - n) s from n
      → Written d (end - 1 - n) (end - 1 - n) (label_key (folded_part s from n) []) end end e
  label_plain plain is =
      label_octets_lem (rw (codes_plain (folded_part s from n) plain)
      (folded_written (set d (end - 1) 0) (end - 1 - n) s from n has is (omega (arith, label_fits)) (simp length-set (omega arith))))
