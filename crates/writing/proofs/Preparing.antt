-- What stands in a space before a label is written to it: the greatest labels and the octets that pad the label (`prepared_left`,
-- `prepared_filled`, `prepared_sized`).
use mathlib.Core.Path.{◌≡◌, refl, sym, ap, ◌∙◌}
use mathlib.Core.List.{List, ◌++◌, append_assoc}
use Prim.Native.Nat.{ℕ, zero, suc, ◌+◌, ◌-◌, ◌≤◌, ◌<◌}
use native.Mathlib.Omega.{arith}
use lib.ListN.{length, take, drop, replicate, length-append, length-replicate, length-drop, replicate-append-replicate}
use lib.Seq.{take_at, drop_at}
use Rattle.space.specs.Private.Put.{put}
use Rattle.space.proofs.Putting.{put_overlay}
use Rattle.plan.specs.Private.Greatest.{greatest_octets}
use Rattle.writing.specs.Private.Prepared.{sizes, Prepared}
use Rattle.plan.proofs.FrontLabels.{greatest_length, greatest_none}
use Rattle.writing.proofs.LengthOctets.{sizes_greatest}

module _ (g front tail start : ℕ) (d : List ℕ) (fits : front + tail ≤ start) (room : start ≤ length d) where
  prepared_of : {e : List ℕ} → e ≡ greatest_octets g front ++ replicate (start - front) g ++ drop start d → Prepared g front tail start d e
  prepared_of {e} is =
      let labels : List ℕ = greatest_octets g front in
      let pad : ℕ = tail - 1 in
      let free : ℕ = start - front - pad in
      let count : start - front ≡ free + pad = omega arith in
      let octets : replicate (start - front) g ≡ replicate free g ++ replicate pad g =
      ap (λ (n : ℕ). replicate n g) count ∙ sym (replicate-append-replicate free pad g) in
      let parts : e ≡ (labels ++ replicate free g) ++ (replicate pad g ++ drop start d) = is ∙ rw octets (simp append_assoc) in
      let size : length (labels ++ replicate free g) ≡ start - pad =
      simp length-append (omega (arith, greatest_length g front, length-replicate free g)) in
      record {
        size =
            ap length parts
            ∙ simp length-append
            (omega (arith, greatest_length g front, length-replicate free g, length-replicate pad g, length-drop start d));
        labels =
            ap (take front) (is ∙ append_assoc labels (replicate (start - front) g) (drop start d))
            ∙ take_at labels (replicate (start - front) g ++ drop start d) front (greatest_length g front);
        padding = ap (drop (start - pad)) parts ∙ drop_at (labels ++ replicate free g) (replicate pad g ++ drop start d) (start - pad) size;
      }

  -- nothing is to be written
  pub prepared_left : front + tail ≤ 1 → (front ≡ 1 → ⊥) → Prepared g front tail start d d
  prepared_left few some =
      let none : front ≡ 0 = go front few some in
      let unpadded : tail - 1 ≡ 0 = omega arith in
      let all : start - 0 ≡ start = omega arith in
      record { size = refl; labels = rw none (sym (greatest_none g)); padding = rw (unpadded, all) }
    where
      go : (n : ℕ) → n + tail ≤ 1 → (n ≡ 1 → ⊥) → n ≡ 0
      go zero h ne = refl
      go (suc zero) h ne = absurd (ne refl)
      go (suc (suc n)) h ne = absurd (omega arith)

  filled : {e : List ℕ} → e ≡ put d 0 (replicate start g) → e ≡ replicate start g ++ drop start d
  filled made =
      let size : length (replicate start g) ≡ start = length-replicate start g in
      made ∙ put_overlay d (replicate start g) (omega arith) ∙ rw size

  -- the octet g is written, and there are no labels in front
  pub prepared_filled : {e : List ℕ} → e ≡ put d 0 (replicate start g) → front ≤ 0 → Prepared g front tail start d e
  prepared_filled made z =
      let none : front ≡ 0 = omega arith in
      let all : start - 0 ≡ start = omega arith in
      prepared_of (filled made ∙ rw (none, greatest_none g, all))

  -- and then the length octets of the labels in front
  pub prepared_sized : {e f : List ℕ} → e ≡ put d 0 (replicate start g) → f ≡ sizes 3 front front e → 1 ≤ front → front ≤ 256
      → Prepared g front tail start d f
  prepared_sized {e} {f} made sized some few =
      let others : List ℕ = replicate (start - front) g ++ drop start d in
      let count : start ≡ front + (start - front) = omega arith in
      let octets : replicate start g ≡ replicate front g ++ replicate (start - front) g =
      ap (λ (n : ℕ). replicate n g) count ∙ sym (replicate-append-replicate front (start - front) g) in
      let parts : e ≡ replicate front g ++ others =
      filled made ∙ rw octets (append_assoc (replicate front g) (replicate (start - front) g) (drop start d)) in
      prepared_of
      (sized ∙ ap (sizes 3 front front) parts ∙ sizes_greatest g front 3 front others some (omega arith) refl
      ∙ sym (append_assoc (greatest_octets g front) (replicate (start - front) g) (drop start d)))

-- the octets that pad a label stand there
pub prepared_padding : {g front tail start : ℕ} {d e : List ℕ} → Prepared g front tail start d e → (kept : ℕ)
    → start ≡ front + (kept + tail + 1) → 16 < tail → take 16 (drop (front + 1 + kept + 1) e) ≡ replicate 16 g
prepared_padding {g} {front} {tail} {start} {d} {e} p kept is many =
    let at : front + 1 + kept + 1 ≡ start - (tail - 1) = omega arith in
    let count : tail - 1 ≡ 16 + (tail - 17) = omega arith in
    let pad : replicate (tail - 1) g ≡ replicate 16 g ++ replicate (tail - 17) g =
    ap (λ (n : ℕ). replicate n g) count ∙ sym (replicate-append-replicate 16 (tail - 17) g) in
    ap (λ (n : ℕ). take 16 (drop n e)) at
    ∙ ap (take 16)
    (p.padding ∙ ap (λ (l : List ℕ). l ++ drop start d) pad ∙ append_assoc (replicate 16 g) (replicate (tail - 17) g) (drop start d))
    ∙ take_at (replicate 16 g) (replicate (tail - 17) g ++ drop start d) 16 (length-replicate 16 g)
