-- Octets folded and put in blocks. A block may begin among the octets that are put already, so that the last one ends where they end
-- (`folding_block`); an octet is a block too.
use mathlib.Core.Path.{◌≡◌, refl, sym, ap, ◌∙◌}
use mathlib.Core.List.{List, [], ◌∷◌, ◌++◌, map-append}
use Prim.Native.Nat.{ℕ, ◌+◌, ◌-◌, ◌/◌, ◌≤◌, ◌<◌}
use native.Mathlib.Omega.{arith}
use lib.ListN.{length, take, drop, set, get_or}
use lib.Seq.{drop-cons, take-add, drop-drop}
use Rattle.space.specs.Fold.{lower_of, folded}
use Rattle.space.specs.Private.Put.{folded_part, put_folded}
use Rattle.space.specs.Private.Written.{Written}
use Rattle.space.proofs.Written.{written_part, written_behind, written_octet, written_none}
use Rattle.space.proofs.Putting.{part_length, written_put, folded_put, folded_written}

-- ---- parts of a part

-- the first j octets, and w more
pub part_split : (s : List ℕ) (from j w : ℕ) → folded_part s from (j + w) ≡ folded_part s from j ++ folded_part s (from + j) w
part_split s from j w =
    ap folded (take-add j w (drop from s)) ∙ map-append lower_of (take j (drop from s)) (take w (drop j (drop from s))) ∙ rw drop-drop

-- ---- blocks

written_folded : (d : List ℕ) (at : ℕ) (s : List ℕ) (from n : ℕ) → from + n ≤ length s
    → {end : ℕ} {e : List ℕ} → Written d at at (folded_part s from n) end end e → e ≡ put_folded d at s from n
written_folded d at s from n has w = written_put d at (folded_part s from n) w ∙ sym (folded_put d at s from n has)

pub octet_folded : (d : List ℕ) (at : ℕ) (s : List ℕ) (from : ℕ) → at < length d → from < length s
    → set d at (lower_of (get_or s from 0)) ≡ put_folded d at s from 1
octet_folded d at s from h g =
    let one : folded_part s from 1 ≡ lower_of (get_or s from 0) ∷ [] = rw (drop-cons s from 0 g) in
    written_folded d at s from 1 (omega arith) (rw (← one) at (written_octet d at (lower_of (get_or s from 0)) refl h))

-- the first i of n octets of s from the index `from` on are put, folded
pub record Folding (before : List ℕ) (at : ℕ) (s : List ℕ) (from n : ℕ) (after : List ℕ) (i : ℕ) : Type 0 where
  pub has : from + n ≤ length s
  pub room : at + n ≤ length before
  pub within : i ≤ n
  pub size : length after ≡ length before
  pub is : after ≡ put_folded before at s from i

module _ {d : List ℕ} {at : ℕ} {s : List ℕ} {from n : ℕ} {e : List ℕ} {i : ℕ} (c : Folding d at s from n e i) where
  pub folding_written : Written d at at (folded_part s from i) (at + i) (at + i) e
  folding_written = folded_written d at s from i (omega arith) c.is refl (omega arith)

  pub folding_all : n ≤ i → e ≡ put_folded d at s from n
  folding_all h = c.is ∙ ap (put_folded d at s from) (omega arith)

  -- w octets are put over those from the j-th on
  pub folding_block : (j w : ℕ) {f : List ℕ} → f ≡ put_folded e (at + j) s (from + j) w → {m : ℕ}
      → (j ≤ i) × (i ≤ j + w) × (j + w ≡ m) × (m ≤ n) → Folding d at s from n f m
  folding_block j w {f} block {m} h =
      let v = folding_written in
      let u = folded_written e (at + j) s (from + j) w (omega arith) block refl (omega arith) in
      let all : j + (i - j) ≡ i = omega arith in
      let sum : j + w ≡ m = omega arith in
      let front = written_part v [] (folded_part s from j) (folded_part s (from + j) (i - j))
      (sym (part_split s from j (i - j)) ∙ ap (folded_part s from) all) {first = at} {last = at + j} (omega arith)
      (omega (arith, part_length s from j (omega arith))) in
      record {
        has = c.has;
        room = c.room;
        within = omega arith;
        size = u.size ∙ c.size;
        is =
            written_folded d at s from m (omega arith) (rw (← part_split s from j w, sum) at (written_behind front u (omega arith)));
      }

  -- the octet x is stored over the j-th, or behind the last one, at the index p
  pub folding_octet : (j p x : ℕ) → p ≡ at + j → x ≡ lower_of (get_or s (from + j) 0) → {m : ℕ}
      → (j ≤ i) × (i ≤ j + 1) × (j + 1 ≡ m) × (m ≤ n) → Folding d at s from n (set e p x) m
  folding_octet j p x ep ex h =
      folding_block j 1 (rw (ep, ex) (octet_folded e (at + j) s (from + j) (omega arith) (omega arith))) (omega arith)

-- and then w octets over those from the k-th on
pub folding_blocks : {d : List ℕ} {at : ℕ} {s : List ℕ} {from n : ℕ} {e : List ℕ} {i : ℕ} → Folding d at s from n e i
    → (j k w : ℕ) {f g : List ℕ} → f ≡ put_folded e (at + j) s (from + j) w → g ≡ put_folded f (at + k) s (from + k) w → {m : ℕ}
    → (j ≤ i) × (i ≤ j + w) × (j ≤ k) × (k ≤ j + w) × (k + w ≡ m) × (m ≤ n) → Folding d at s from n g m
folding_blocks c j k w first next h = folding_block (folding_block c j w first {m = j + w} (omega arith)) k w next (omega arith)

module _ (d : List ℕ) (at : ℕ) (s : List ℕ) (from n : ℕ) where
  pub folding_none : {i : ℕ} → (i ≡ 0) × (at + n ≤ length d) × (from + n ≤ length s) → Folding d at s from n d i
  folding_none {i} h =
      let none : i ≡ 0 = omega arith in
      record {
        has = omega arith;
        room = omega arith;
        within = omega arith;
        size = refl;
        is = rw none (written_folded d at s from 0 (omega arith) (written_none d (omega arith) (omega arith) (omega arith)));
      }

  pub folded_nothing : (n ≡ 0) × (at + n ≤ length d) × (from + n ≤ length s) → d ≡ put_folded d at s from n
  folded_nothing h = (folding_none {i = n} h).is

  pub folding_first : (w : ℕ) {e : List ℕ} → e ≡ put_folded d at s from w → (w ≤ n) × (at + n ≤ length d) × (from + n ≤ length s)
      → Folding d at s from n e w
  folding_first w first h =
      let v = folded_written d at s from w (omega arith) first refl (omega arith) in
      record { has = omega arith; room = omega arith; within = omega arith; size = v.size; is = first }

  -- two blocks of w octets, the first ones and the last ones
  pub folded_ends : (w : ℕ) {e f : List ℕ} → e ≡ put_folded d at s from w → f ≡ put_folded e (at + (n - w)) s (from + (n - w)) w
      → (w ≤ n) × (n ≤ w + w) × (at + n ≤ length d) × (from + n ≤ length s) → f ≡ put_folded d at s from n
  folded_ends w first last h = (folding_block (folding_first w first (omega arith)) (n - w) w last {m = n} (omega arith)).is

  -- up to three octets: the first, the middle and the last
  pub folded_few : {x y z : ℕ} → x ≡ lower_of (get_or s from 0) → y ≡ lower_of (get_or s (from + n / 2) 0)
      → z ≡ lower_of (get_or s (from + (n - 1)) 0)
      → (0 < n) × (n < 4) × (at + n ≤ length d) × (from + n ≤ length s)
      → set (set (set d at x) (at + n / 2) y) (at + (n - 1)) z ≡ put_folded d at s from n
  folded_few {x} {y} {z} ex ey ez h =
      let one = folding_first 1 {e = set d at x} (rw ex (octet_folded d at s from (omega arith) (omega arith))) (omega arith) in
      let two = folding_octet one (n / 2) _ y refl ey {m = n / 2 + 1} (omega arith) in
      (folding_octet two (n - 1) _ z refl ez {m = n} (omega arith)).is
