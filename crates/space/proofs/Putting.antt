-- What the functions of this crate write: where the octets have room they are written, exactly (`put_written`, `folded_written`), and a
-- loop that copies octets one by one puts them all (`copied_all`).
use mathlib.Core.Path.{◌≡◌, ap, ◌∙◌}
use mathlib.Core.List.{List, [], ◌∷◌}
use mathlib.Core.Bool.{cond}
use Prim.Native.Nat.{ℕ, ◌+◌, ◌≤◌, ◌<◌}
use native.Mathlib.Nat.{add-zero, zero-add}
use native.Mathlib.Numerals.{add-one}
use native.Mathlib.Omega.{arith}
use borrow.Author.Tests.{le-leb, lt-leb}
use lib.Dec.{leb}
use lib.ListN.{length, take, drop, set, get_or, length-drop, length-map, drop_of_length-le, get_or-map}
use lib.Seq.{length-take-le, take_all, drop-cons, get_or-take, get_or-drop}
use Rattle.space.specs.Octets.{overlay}
use Rattle.space.specs.Fold.{lower_of, folded}
use Rattle.space.specs.Private.Put.{folded_part}
use Rattle.space.specs.Private.Written.{Written}
use Rattle.space.specs.Private.Put.{put, put_folded, kept}
use Rattle.space.proofs.Written.{written_octet, written_exactly, written_space, Partly, partly_none, partly_more, partly_all}

-- ---- octets of a list, folded

pub part_length : (s : List ℕ) (from n : ℕ) → from + n ≤ length s → length (folded_part s from n) ≡ n
part_length s from n h = length-map (take n (drop from s)) lower_of ∙ length-take-le n (drop from s) (omega (arith, length-drop from s))

pub part_at : (s : List ℕ) (from n i : ℕ) → i < n → get_or (folded_part s from n) i 0 ≡ lower_of (get_or s (from + i) 0)
part_at s from n i h =
    get_or-map lower_of (take n (drop from s)) i 0
    ∙ ap lower_of (get_or-take n (drop from s) i 0 h ∙ get_or-drop from s i 0)

-- to the end of the list
pub part_rest : (s : List ℕ) (from n : ℕ) → length s ≤ from + n → folded_part s from n ≡ folded (drop from s)
part_rest s from n h = ap folded (take_all n (drop from s) (omega (arith, length-drop from s)))

-- ---- where there is room

module _ (d : List ℕ) (at : ℕ) (k : List ℕ) where
  pub put_none : {n : ℕ} → length k ≡ n → length d < at + n → d ≡ put d at k
  unfolding put
  put_none e h = rw (lt-leb (at + length k) (length d) (omega arith))

  pub put_written : {e : List ℕ} → e ≡ put d at k → {end : ℕ} → at + length k ≡ end → end ≤ length d → Written d at at k end end e
  unfolding put
  put_written is ends room = written_exactly (is ∙ rw (le-leb (at + length k) (length d) (omega arith), ends)) ends room

  pub written_put : {end : ℕ} {e : List ℕ} → Written d at at k end end e → e ≡ put d at k
  unfolding put
  written_put w = written_space w ∙ rw (le-leb (at + length k) (length d) (omega arith), w.ends)

module _ (d : List ℕ) (at : ℕ) (s : List ℕ) (from n : ℕ) where
  pub folded_none : length s < from + n → d ≡ put_folded d at s from n
  unfolding put_folded
  folded_none h = rw (lt-leb (from + n) (length s) h)

  pub folded_put : from + n ≤ length s → put_folded d at s from n ≡ put d at (folded_part s from n)
  unfolding put_folded
  folded_put h = rw (le-leb (from + n) (length s) h)

  pub folded_written : from + n ≤ length s → {e : List ℕ} → e ≡ put_folded d at s from n → {end : ℕ} → at + n ≡ end → end ≤ length d
      → Written d at at (folded_part s from n) end end e
  folded_written has is ends room =
      put_written d at (folded_part s from n) (is ∙ folded_put has) (omega (arith, part_length s from n has)) room

-- ---- to the front

pub put_front : (d k : List ℕ) → put d 0 k ≡ cond (leb (length k) (length d)) (overlay k d) d
unfolding put
put_front d k = rw zero-add

pub put_overlay : (d k : List ℕ) → length k ≤ length d → put d 0 k ≡ overlay k d
put_overlay d k h = put_front d k ∙ rw (le-leb (length k) (length d) h)

-- the octets of s from an index on
pub folded_overlay : (d s : List ℕ) (from n : ℕ) → from + n ≡ length s → n ≤ length d
    → put_folded d 0 s from n ≡ overlay (folded (drop from s)) d
folded_overlay d s from n all room =
    folded_put d 0 s from n (omega arith)
    ∙ put_overlay d (folded_part s from n) (omega (arith, part_length s from n (omega arith)))
    ∙ ap (λ (k : List ℕ). overlay k d) (part_rest s from n (omega arith))

-- ---- octets copied one by one

-- i of the n octets k are copied
pub record Copied (before : List ℕ) (at : ℕ) (k : List ℕ) (n : ℕ) (after : List ℕ) (i : ℕ) : Type 0 where
  pub count : length k ≡ n
  pub partly : Partly before at k (drop i k) (at + i) (at + i) after

pub copied_none : (d : List ℕ) (at : ℕ) (k : List ℕ) {n : ℕ} → length k ≡ n → at + n ≤ length d → Copied d at k n d 0
copied_none d at k e h = record { count = e; partly = rw (add-zero at) (partly_none d at k (omega arith) (omega arith) (omega arith)) }

module _ {d : List ℕ} {at : ℕ} {k : List ℕ} {n : ℕ} {e : List ℕ} {i : ℕ} (c : Copied d at k n e i) where
  -- the octet x is stored at the index j
  pub copied_more : (j x : ℕ) → i < n → j ≡ at + i → x ≡ get_or k i 0 → Copied d at k n (set e j x) (i + 1)
  copied_more j x h ej ex =
      record {
        count = c.count;
        partly =
            partly_more c.partly (x ∷ []) (drop-cons k i 0 (omega arith) ∙ rw (ex, add-one i))
            (rw ej (written_octet e (at + i) x (omega arith) (omega arith))) (omega arith);
      }

  pub copied_written : n ≤ i → Written d at at k (at + n) (at + n) e
  copied_written h =
      let w = partly_all c.partly (drop_of_length-le k {i = i} (omega arith)) in
      let same : i ≡ n = omega (arith, w.ends) in
      rw same at w

  pub copied_all : n ≤ i → e ≡ put d at k
  copied_all h = written_put d at k (copied_written h)

-- ---- octets moved to the front of their own list

module _ (s : List ℕ) (from n : ℕ) where
  pub kept_none : length s < from + n → s ≡ kept s from n
  unfolding kept
  kept_none h = rw (lt-leb (from + n) (length s) h)

  module _ (has : from + n ≤ length s) where
    pub kept_length : length (take n (drop from s)) ≡ n
    kept_length = length-take-le n (drop from s) (omega (arith, length-drop from s))

    pub kept_put : kept s from n ≡ put s 0 (take n (drop from s))
    unfolding kept
    kept_put = rw (le-leb (from + n) (length s) has)

    -- the octet to move next is not written over yet
    pub kept_octet : {d : List ℕ} {i : ℕ} → Copied s 0 (take n (drop from s)) n d i → i < n
        → get_or d (from + i) 0 ≡ get_or (take n (drop from s)) i 0
    kept_octet {d} {i} c h =
        let e : from + i ≡ 0 + i + from = omega arith in
        rw (get_or-take n (drop from s) i 0 h, get_or-drop from s i 0, e, ← get_or-drop (0 + i) d from 0, c.partly.written.back)
        (get_or-drop (0 + i) s from 0)
