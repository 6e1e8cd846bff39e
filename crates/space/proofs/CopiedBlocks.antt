-- Octets put in blocks. A block may begin among the octets that are put already, so that the last one ends where they end
-- (`copying_block`).
use mathlib.Core.Path.{◌≡◌, sym, ap, ◌∙◌}
use mathlib.Core.List.{List, []}
use Prim.Native.Nat.{ℕ, ◌+◌, ◌-◌, ◌≤◌, ◌<◌}
use native.Mathlib.Nat.{add-zero}
use native.Mathlib.Omega.{arith}
use lib.ListN.{length, take, drop, set, get_or, length-drop}
use lib.Seq.{take-add, take_all, length-take-le, get_or-take, get_or-drop}
use Rattle.space.specs.Private.Put.{put}
use Rattle.space.specs.Private.Written.{Written}
use Rattle.space.proofs.Written.{written_part, written_behind, written_none}
use Rattle.space.proofs.Putting.{put_written, written_put, Copied, copied_none, copied_more, copied_all}
use Rattle.space.proofs.Taken.{Taken, taken_fewer}

-- ---- blocks

-- the first i octets of s are put
pub record Copying (before : List ℕ) (at : ℕ) (s after : List ℕ) (i : ℕ) : Type 0 where
  pub room : at + length s ≤ length before
  pub within : i ≤ length s
  pub written : Written before at at (take i s) (at + i) (at + i) after

pub copying_none : (d : List ℕ) (at : ℕ) (s : List ℕ) → at + length s ≤ length d → Copying d at s d 0
copying_none d at s h =
    record { room = h; within = omega arith; written = rw (add-zero at) (written_none d (omega arith) (omega arith) (omega arith)) }

module _ {d : List ℕ} {at : ℕ} {s e : List ℕ} {i : ℕ} (c : Copying d at s e i) where
  pub copying_all : length s ≤ i → e ≡ put d at s
  copying_all h = written_put d at (take i s) c.written ∙ ap (put d at) (take_all i s h)

  -- w octets are put over those from the j-th on
  pub copying_block : (j w : ℕ) {f : List ℕ} → f ≡ put e (at + j) (take w (drop j s)) → {m : ℕ}
      → (j ≤ i) × (i ≤ j + w) × (j + w ≡ m) × (m ≤ length s) → Copying d at s f m
  copying_block j w {f} block {m} h =
      let all : j + (i - j) ≡ i = omega arith in
      let sum : j + w ≡ m = omega arith in
      let count = length-take-le w (drop j s) (omega (arith, length-drop j s)) in
      let next = put_written e (at + j) (take w (drop j s)) block {end = at + m} (omega arith) (omega (arith, c.written.size)) in
      let front = written_part c.written [] (take j s) (take (i - j) (drop j s))
      (sym (take-add j (i - j) s) ∙ ap (λ (n : ℕ). take n s) all) {first = at} {last = at + j} (omega arith)
      (omega (arith, length-take-le j s (omega arith))) in
      record {
        room = c.room;
        within = omega arith;
        written = rw (← take-add j w s, sum) at (written_behind front next (omega arith));
      }

-- and then w octets over those from the k-th on
pub copying_blocks : {d : List ℕ} {at : ℕ} {s e : List ℕ} {i : ℕ} → Copying d at s e i → (j k w : ℕ) {f g : List ℕ}
    → f ≡ put e (at + j) (take w (drop j s)) → g ≡ put f (at + k) (take w (drop k s)) → {m : ℕ}
    → (j ≤ i) × (i ≤ j + w) × (j ≤ k) × (k ≤ j + w) × (k + w ≡ m) × (m ≤ length s) → Copying d at s g m
copying_blocks c j k w first next h = copying_block (copying_block c j w first {m = j + w} (omega arith)) k w next (omega arith)

-- which are the last ones
pub copying_last : {d : List ℕ} {at : ℕ} {s e : List ℕ} {i : ℕ} → Copying d at s e i → (j k w : ℕ) {f g : List ℕ}
    → f ≡ put e (at + j) (take w (drop j s)) → g ≡ put f (at + k) (take w (drop k s))
    → (j ≤ i) × (i ≤ j + w) × (j ≤ k) × (k ≤ j + w) × (k + w ≡ length s) → g ≡ put d at s
copying_last {s = s} c j k w first last h = copying_all (copying_blocks c j k w first last {m = length s} (omega arith)) (omega arith)

module _ (d : List ℕ) (at : ℕ) (s : List ℕ) where
  -- two blocks of w octets, the first ones and the last ones
  pub copied_ends : (w : ℕ) {e f : List ℕ} → e ≡ put d (at + 0) (take w (drop 0 s)) → (k : ℕ) → f ≡ put e (at + k) (take w (drop k s))
      → (k + w ≡ length s) × (k ≤ w) × (at + length s ≤ length d) → f ≡ put d at s
  copied_ends w first k last h = copying_last (copying_none d at s (omega arith)) 0 k w first last (omega arith)

  -- up to three octets: the first, the middle and the last
  pub copied_few : {e f g : List ℕ} → e ≡ put d (at + 0) (take 1 (drop 0 s)) → (j : ℕ) → f ≡ put e (at + j) (take 1 (drop j s))
      → (k : ℕ) → g ≡ put f (at + k) (take 1 (drop k s))
      → (j ≤ 1) × (j ≤ k) × (k ≤ j + 1) × (k + 1 ≡ length s) × (at + length s ≤ length d) → g ≡ put d at s
  copied_few first j middle k last h =
      let one = copying_block (copying_none d at s (omega arith)) 0 1 first {m = 1} (omega arith) in
      copying_last one j k 1 middle last (omega arith)

  pub copied_nothing : (length s ≡ 0) × (at + length s ≤ length d) → d ≡ put d at s
  copied_nothing h = copying_all (copying_none d at s (omega arith)) (omega arith)

-- ---- a block

-- the n octets of s from the index `from` on stand in an array, and the first k of them are copied
pub record Block (before : List ℕ) (at : ℕ) (s : List ℕ) (from n : ℕ) (t after : List ℕ) (k : ℕ) : Type 0 where
  pub taken : Taken (λ (l : ℕ). get_or s (from + l) 0) t n
  pub copied : Copied before at (take n (drop from s)) n after k

pub block_none : (d : List ℕ) (at : ℕ) (s : List ℕ) (from n : ℕ) {t : List ℕ} {m : ℕ} → Taken (λ (l : ℕ). get_or s (from + l) 0) t m
    → (n ≤ m) × (at + n ≤ length d) × (from + n ≤ length s) → Block d at s from n t d 0
block_none d at s from n c h =
    record {
      taken = taken_fewer c (omega arith);
      copied =
          copied_none d at (take n (drop from s)) (length-take-le n (drop from s) (omega (arith, length-drop from s))) (omega arith);
    }

module _ {d : List ℕ} {at : ℕ} {s : List ℕ} {from n : ℕ} {t e : List ℕ} {k : ℕ} (c : Block d at s from n t e k) where
  -- the octet that stands next in the array is stored at the index p
  pub block_more : k < n → (p : ℕ) → p ≡ at + k → Block d at s from n t (set e p (get_or t (15 - k) 0)) (k + 1)
  block_more h p ep =
      record {
        taken = c.taken;
        copied =
            copied_more c.copied p _ h ep (c.taken.octet k h ∙ sym (get_or-take n (drop from s) k 0 h ∙ get_or-drop from s k 0));
      }

  pub block_all : n ≤ k → e ≡ put d at (take n (drop from s))
  block_all h = copied_all c.copied h
