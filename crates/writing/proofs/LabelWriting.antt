-- A changed label as it is written: the octets that it keeps, few of them as a block whose end is written over (`kept_block`), and then the
-- octet behind them and the length octet before them (`label_put`).
use mathlib.Core.Path.{◌≡◌, refl, sym, ap, ◌∙◌}
use mathlib.Core.List.{List, [], ◌∷◌, ◌++◌, append_assoc}
use Prim.Native.Nat.{ℕ, ◌+◌, ◌-◌, ◌≤◌, ◌<◌}
use native.Mathlib.Omega.{arith}
use lib.ListN.{length, take, drop, set, replicate, length-append, length-replicate, take-append-drop}
use lib.Seq.{drop_at, drop-drop, length-take-le}
use Rattle.space.specs.Private.Put.{put, folded_part, put_folded}
use Rattle.space.specs.Private.Written.{Written}
use Rattle.space.proofs.Written.{written_wider, written_behind, written_before, written_part, written_space, written_none, written_octet}
use Rattle.space.proofs.Putting.{part_length, put_written, written_put, folded_written}
use Rattle.space.proofs.FoldedBlocks.{part_split}

module _ (d s : List ℕ) (at first kept : ℕ) where
  pub kept_none : kept ≤ 0 → at + 1 ≤ length d → Written d at at (folded_part s first kept) (at + kept) (at + kept + 1) d
  kept_none none room =
      let z : kept ≡ 0 = omega arith in
      let e : at + 0 ≡ at = omega arith in
      rw (z, e) (written_none d (omega arith) (omega arith) room)

  pub kept_exactly : {e : List ℕ} → e ≡ put_folded d at s first kept → first + kept ≤ length s → at + kept + 1 ≤ length d
      → Written d at at (folded_part s first kept) (at + kept) (at + kept + 1) e
  kept_exactly is has room = written_wider (folded_written d at s first kept has is refl (omega arith)) (omega arith) (omega arith) room

  -- a block of 16, and the octets g behind it written again
  pub kept_block : (g : ℕ) {e f : List ℕ} → e ≡ put_folded d at s first 16 → f ≡ put e (at + kept + 1) (replicate 16 g) → kept < 16
      → first + 16 ≤ length s → at + kept + 17 ≤ length d → take 16 (drop (at + kept + 1) d) ≡ replicate 16 g
      → Written d at at (folded_part s first kept) (at + kept) (at + kept + 1) f
  kept_block g {e} {f} is made few has room stood =
      let k : List ℕ = folded_part s first kept in
      let k1 : List ℕ = folded_part s first (kept + 1) in
      let behind : List ℕ = replicate 16 g in
      let after : List ℕ = drop (at + kept + 17) d in
      let count : length behind ≡ 16 = length-replicate 16 g in
      let one : length k1 ≡ kept + 1 = part_length s first (kept + 1) (omega arith) in
      let block = folded_written d at s first 16 has is {end = at + 16} refl (omega arith) in
      let all : kept + 1 + (15 - kept) ≡ 16 = omega arith in
      let split : k1 ++ folded_part s (first + (kept + 1)) (15 - kept) ≡ folded_part s first 16 =
      sym (part_split s first (kept + 1) (15 - kept)) ∙ ap (folded_part s first) all in
      let label = written_part block [] k1 (folded_part s (first + (kept + 1)) (15 - kept)) split {first = at} {last = at + kept + 1}
      (omega arith) (omega arith) in
      let again = put_written e (at + kept + 1) behind made {end = at + kept + 17} (omega arith) (omega (arith, block.size)) in
      let whole : Written d at at (k1 ++ behind) (at + kept + 17) (at + kept + 17) f = written_behind label again (omega arith) in
      let w = written_part whole [] k (folded_part s (first + kept) 1 ++ behind)
      (sym (append_assoc k (folded_part s (first + kept) 1) behind) ∙ ap (λ (l : List ℕ). l ++ behind) (sym (part_split s first kept 1)))
      {first = at} {last = at + kept} (omega arith) (omega (arith, part_length s first kept (omega arith))) in
      let front : length (take at d ++ k1) ≡ at + kept + 1 = simp length-append (omega (arith, length-take-le at d (omega arith))) in
      let now : drop (at + kept + 1) f ≡ behind ++ after =
      ap (drop (at + kept + 1)) (written_space whole ∙ simp append_assoc)
      ∙ drop_at (take at d ++ k1) (behind ++ after) (at + kept + 1) front in
      let sum : at + kept + 1 + 16 ≡ at + kept + 17 = omega arith in
      let then : drop (at + kept + 1) d ≡ behind ++ after =
      sym (take-append-drop 16 (drop (at + kept + 1) d))
      ∙ rw (stood, drop-drop 16 (at + kept + 1) d, sum) in
      record {
        begins = w.begins;
        ends = w.ends;
        within = omega arith;
        room = omega arith;
        size = w.size;
        front = w.front;
        octets = w.octets;
        back = now ∙ sym then;
      }

-- the octet behind the octets k, and the length octet before them
pub label_put : {d k e : List ℕ} (at kept o z : ℕ) → Written d (at + 1) (at + 1) k (at + 1 + kept) (at + 1 + kept + 1) e
    → set (set e (at + 1 + kept) o) at z ≡ put d at (z ∷ k ++ o ∷ [])
label_put {d} {k} {e} at kept o z w =
    let octet = written_octet e (at + 1 + kept) o {end = at + 1 + kept + 1} refl (omega (arith, w.size, w.room)) in
    let label = written_behind w octet (omega arith) in
    let size = written_octet (set e (at + 1 + kept) o) at z {end = at + 1} refl (omega (arith, label.size, w.room)) in
    written_put d at (z ∷ k ++ o ∷ []) (written_before label size (omega arith))
