-- Octets of a label written as a key has them, from the last to the first: each but the first is written with two octets, and the next one
-- is written over what is of no use among them.
use mathlib.Core.Path.{◌≡◌, refl, ap, ◌∙◌}
use mathlib.Core.List.{List, [], ◌∷◌, ◌++◌}
use Prim.Native.Nat.{ℕ, ◌+◌, ◌-◌, ◌≤◌, ◌<◌}
use native.Mathlib.Nat.{add-zero}
use native.Mathlib.Omega.{arith}
use lib.ListN.{length, length-append, length-set, drop, get_or, set}
use Rattle.space.specs.Fold.{lower_of}
use Rattle.space.specs.Private.Put.{folded_part}
use Rattle.space.specs.Private.Written.{Written, Room}
use Rattle.space.proofs.Written.{written_wider, written_before, written_part, written_octet, written_stored}
use Rattle.space.proofs.Putting.{part_length, part_at}
use Rattle.key.specs.Key.{coded}
use Rattle.tokey.specs.Private.Codes.{codes}
use Rattle.key.proofs.KeyLength.{coded_length}
use Rattle.tokey.proofs.KeyParts.{lower_coded_small, lower_coded_large, codes_step, codes_before}

-- ---- one octet

module _ {d : List ℕ} {end : ℕ} (o : ℕ) (r : Room d end (coded (lower_of o) [])) where
  pub octet_some : 1 ≤ end
  octet_some = omega (arith, r.fits, coded_length (lower_of o) [])

  pub octet_two : o < 2 → 2 ≤ end
  octet_two h = omega (arith, r.fits, ap length (lower_coded_small o [] h))

  pub octet_small : o < 2
      → Written d (end - 1 - 1) (end - 1 - 1) (coded (lower_of o) []) end end (set (set d (end - 1) (o + 1)) (end - 1 - 1) 1)
  octet_small h =
      let two : 2 ≤ end = octet_two h in
      rw (lower_coded_small o [] h)
      (written_before (written_octet d (end - 1) (o + 1) (omega arith) (omega arith))
      (written_octet (set d (end - 1) (o + 1)) (end - 1 - 1) 1 (omega arith) (simp length-set (omega arith))) (omega arith))

  pub octet_large : 2 ≤ o → {x : ℕ} → x ≡ lower_of o → Written d (end - 1) (end - 1) (coded (lower_of o) []) end end (set d (end - 1) x)
  octet_large h e =
      let some : 1 ≤ end = octet_some in
      rw (lower_coded_large o [] h, e) (written_octet d (end - 1) (lower_of o) (omega arith) (omega arith))

-- two octets, of which the second is the whole code of an octet above 1
module _ {d : List ℕ} {end : ℕ} (o : ℕ) (two : 2 ≤ end) (within : end ≤ length d) where
  two_octets : (x : ℕ) → Written d (end - 2) (end - 2) (1 ∷ x ∷ []) end end (set (set d (end - 2) 1) (end - 1) x)
  two_octets x =
      let e : end - 1 ≡ end - 2 + 1 = omega arith in
      rw e (written_stored d (end - 2) (1 ∷ x ∷ []) (omega arith) within)

  pub two_small : o < 2 → {x : ℕ} → x ≡ o + 1
      → Written d (end - 2) (end - 2) (coded (lower_of o) []) end end (set (set d (end - 2) 1) (end - 1) x)
  two_small h {x} is = rw (lower_coded_small o [] h, ← is) (two_octets x)

  pub two_large : 2 ≤ o → {x : ℕ} → x ≡ lower_of o
      → Written d (end - 2) (end - 1) (coded (lower_of o) []) end end (set (set d (end - 2) 1) (end - 1) x)
  two_large h {x} is =
      rw (lower_coded_large o [] h, ← is)
      (written_part (two_octets x) (1 ∷ []) (x ∷ []) [] refl (omega arith) (omega arith))

-- ---- octets of a name

-- the octets from the i-th of n on are written, and the octet right before them is of no use
pub record Putting (before : List ℕ) (end : ℕ) (s : List ℕ) (from n : ℕ) (after : List ℕ) (at i : ℕ) : Type 0 where
  pub has : from + n ≤ length s
  pub fits : length (codes (folded_part s from n)) ≤ end
  pub some : 1 ≤ i
  pub within : i ≤ n
  pub written : Written before (at - 1) at (codes (drop i (folded_part s from n))) end end after

module _ {d : List ℕ} {end : ℕ} {s : List ℕ} {from n : ℕ} {e : List ℕ} {at i : ℕ} (p : Putting d end s from n e at i) where
  putting_step : codes (drop (i - 1) (folded_part s from n))
      ≡ coded (lower_of (get_or s (from + (i - 1)) 0)) [] ++ codes (drop i (folded_part s from n))
  putting_step =
      let l : List ℕ = folded_part s from n in
      let m : i - 1 + 1 ≡ i = omega arith in
      codes_step l (i - 1) (omega (arith, part_length s from n p.has))
      ∙ ap (λ (x : ℕ). coded x [] ++ codes (drop (i - 1 + 1) l)) (part_at s from n (i - 1) (omega arith))
      ∙ ap (λ (j : ℕ). coded (lower_of (get_or s (from + (i - 1)) 0)) [] ++ codes (drop j l)) m

  -- each octet that is left takes one at least
  pub putting_left : i ≤ at
  putting_left = let h = part_length s from n p.has in omega (arith, codes_before (folded_part s from n) i (omega arith))

  -- an octet that has another before it
  pub putting_more : 1 < i → {f : List ℕ} {to : ℕ} → Written e (at - 2) to (coded (lower_of (get_or s (from + (i - 1)) 0)) []) at at f
      → Putting d end s from n f to (i - 1)
  putting_more more w =
      record {
        has = p.has;
        fits = p.fits;
        some = omega arith;
        within = omega arith;
        written =
            rw putting_step
            (written_wider (written_before p.written w (omega arith))
            (omega (arith, coded_length (lower_of (get_or s (from + (i - 1)) 0)) [])) (omega arith) p.written.room);
      }

  -- the first octet
  module _ (one : i ≤ 1) where
    putting_whole : codes (folded_part s from n) ≡ coded (lower_of (get_or s from 0)) [] ++ codes (drop i (folded_part s from n))
    putting_whole = let z : i - 1 ≡ 0 = omega arith in simp (z, add-zero) at putting_step

    pub putting_room : Room e at (coded (lower_of (get_or s from 0)) [])
    putting_room =
        let x : List ℕ = coded (lower_of (get_or s from 0)) [] in
        record {
          fits = omega (arith, ap length putting_whole, length-append x (codes (drop i (folded_part s from n))));
          within = omega arith;
        }

    pub putting_all : {f : List ℕ} {to : ℕ} → Written e to to (coded (lower_of (get_or s from 0)) []) at at f
        → Written d to to (codes (folded_part s from n)) end end f
    putting_all w =
        rw putting_whole (written_before p.written w (omega (arith, coded_length (lower_of (get_or s from 0)) [])))
