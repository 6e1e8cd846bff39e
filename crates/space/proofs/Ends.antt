-- The last octets of a list put before an index, and maybe some more that stand before them: where they have room, those
-- that were asked for stand there (`end_written`).
use mathlib.Core.Path.{◌≡◌, refl, sym, ap, ◌∙◌}
use mathlib.Core.List.{List, [], ◌++◌, append-nil}
use mathlib.Core.Bool.{Bool, true, false, cond}
use Prim.Native.Nat.{ℕ, ◌+◌, ◌-◌, ◌≤◌, ◌<◌, min, max}
use native.Mathlib.Omega.{arith}
use borrow.Author.Tests.{le-leb, lt-leb, leb-true}
use lib.Dec.{leb}
use lib.ListN.{length, drop}
use Rattle.space.specs.Fold.{folded}
use Rattle.space.specs.Private.Put.{folded_part, put_folded, end_count, put_end}
use Rattle.space.specs.Private.Written.{Written}
use Rattle.space.proofs.Written.{written_part}
use Rattle.space.proofs.Putting.{part_length, part_rest, folded_written}
use Rattle.space.proofs.FoldedBlocks.{part_split}

module _ (rest size end : ℕ) where
  pub end_few : min size end < 16 → rest ≡ end_count rest size end
  unfolding end_count
  end_few h = rw (lt-leb 16 (min size end) h)

  pub end_many : 16 ≤ min size end → {n : ℕ} → n ≡ max rest 16 → n ≡ end_count rest size end
  unfolding end_count
  end_many h e = rw (le-leb 16 (min size end) h) e

  counted : (b : Bool) → leb 16 (min size end) ≡ b
      → (rest ≤ cond b (max rest 16) rest) × (cond b (max rest 16) rest ≤ max rest (min size end))
  counted true e = omega (arith, leb-true 16 (min size end) e)
  counted false e = omega arith

  pub end_least : rest ≤ end_count rest size end
  unfolding end_count
  end_least = (counted (leb 16 (min size end)) refl).0

  pub end_most : end_count rest size end ≤ max rest (min size end)
  unfolding end_count
  end_most = (counted (leb 16 (min size end)) refl).1

  pub end_whole : {n : ℕ} → n ≡ end_count rest size end → rest ≤ size → n ≤ size
  end_whole is h = omega (arith, end_most)

module _ (d : List ℕ) (end : ℕ) (s : List ℕ) (from : ℕ) {n rest : ℕ} (is : n ≡ end_count rest (length s) end) (r : rest ≡ length s - from)
  where
    pub end_put : n ≤ end → put_folded d (end - n) s (length s - n) n ≡ put_end d end s from
    unfolding put_end
    end_put h = rw (← r, ← is, le-leb n end h)

    pub end_none : end < n → d ≡ put_end d end s from
    unfolding put_end
    end_none h = rw (← r, ← is, lt-leb n end h)

-- the last n octets, with `more` of them before those that were asked for
last_written : (d : List ℕ) (at : ℕ) (s : List ℕ) (begin more rest : ℕ) {end : ℕ} → begin + (more + rest) ≡ length s
    → at + (more + rest) ≡ end
    → end ≤ length d → {e : List ℕ} → e ≡ put_folded d at s begin (more + rest)
    → Written d at (at + more) (folded (drop (begin + more) s)) end end e
last_written d at s begin more rest all ends room is =
    let k = folded (drop (begin + more) s) in
    let front = folded_part s begin more in
    let last : folded_part s (begin + more) rest ≡ k = part_rest s (begin + more) rest (omega arith) in
    let count : length k ≡ rest = sym (ap length last) ∙ part_length s (begin + more) rest (omega arith) in
    let parts : front ++ k ≡ folded_part s begin (more + rest) = rw (← last) (sym (part_split s begin more rest)) in
    written_part (folded_written d at s begin (more + rest) (omega arith) is ends room) front k [] (append-nil (front ++ k) ∙ parts)
    (omega (arith, part_length s begin more (omega arith))) (omega arith)

pub end_written : (d : List ℕ) (end : ℕ) (s : List ℕ) (from : ℕ) → from ≤ length s → length s - from ≤ end → end ≤ length d
    → {e : List ℕ} → e ≡ put_end d end s from
    → Written d (end - end_count (length s - from) (length s) end) (end - (length s - from)) (folded (drop from s)) end end e
end_written d end s from has fits room {e} is =
    let rest = length s - from in
    let n = end_count rest (length s) end in
    let least : rest ≤ n = end_least rest (length s) end in
    let whole : n ≤ length s = omega (arith, end_most rest (length s) end) in
    let room-before : n ≤ end = omega (arith, end_most rest (length s) end) in
    let begin : length s - n + (n - rest) ≡ from = omega arith in
    let at : end - n + (n - rest) ≡ end - rest = omega arith in
    let count : n - rest + rest ≡ n = omega arith in
    rw (begin, at)
    at (last_written d (end - n) s (length s - n) (n - rest) rest (omega arith) (omega arith) room
    (is ∙ sym (end_put d end s from refl refl (omega arith)) ∙ ap (put_folded d (end - n) s (length s - n)) (sym count)))
