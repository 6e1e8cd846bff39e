-- The steps to the predecessor lower the last octet of the canonical sequence, and go on with the greatest that fits (`lowered_law`).
use mathlib.Core.Path.{◌≡◌, refl, sym, ap, ◌∙◌}
use mathlib.Core.List.{List, [], ◌∷◌, ◌++◌, append-nil, append_assoc}
use mathlib.Core.Option.{Option, none, some}
use mathlib.Core.Bool.{Bool, true, false}
use Prim.Native.Nat.{ℕ, zero, suc, ◌+◌, ◌-◌, ◌≤◌, ◌<◌, min}
use native.Mathlib.Nat.{zero-add, suc-add}
use native.Mathlib.Omega.{arith}
use lib.ListN.{length, replicate, length-append, length-replicate}
use lib.Dec.{T}
use Rattle.order.proofs.Room.{room_within, room_at}
use Rattle.order.specs.Sequence.{closed, sequence}
use Rattle.order.specs.Place.{Place, at, within, room, octet, legal}
use Rattle.order.proofs.Members.{Labels, Octet, Octets, of_open}
use Rattle.zone.specs.Alphabet.{below}
use Rattle.zone.specs.Ring.{prefer, when, or_else, cap, fill, top, sink, lower, predecessor}
use Rattle.zone.specs.Zone.{size}
use Rattle.zone.specs.Steps.{greatest, deepest, padded, lowered}
use Rattle.zone.proofs.Bridge.{sequence_size, labels_valid}
use Rattle.zone.proofs.Walk.{walk, Front, valid_front, lower_front, when_true}
use Rattle.zone.proofs.Spelling.{opened, closed_opened, opened_closed, sequence_cons, sequence_cons_append, walk_sequence}
use Rattle.zone.proofs.Deepest.{fill_label, fill_labels_law}

none_found : (b : Bool) (x : ℕ) (m : Option (List ℕ)) → prefer x (when b none) m ≡ m
none_found true x m = refl
none_found false x m = refl

module _ (allowed : ℕ → Bool) where
  -- ---- the last octet of a label

  lower_last : (q : Place) (m o : ℕ) → Octet allowed o → T (room (suc (suc m)) q)
      → lower allowed (suc (suc m)) q (suc o ∷ 0 ∷ []) ≡ some (fill allowed (suc (suc m)) q (below allowed o))
  unfolding lower sink
  lower_last (at zero) m o h e = absurd e
  lower_last (at (suc d)) m o h e = let k : min o 256 ≡ o = omega (arith, h.0) in rw (none_found (octet allowed o) (suc o), k)
  lower_last (within d zero) m o h e = absurd e
  lower_last (within d (suc r)) m o h e = let k : min o 256 ≡ o = omega (arith, h.0) in rw (none_found (octet allowed o) (suc o), k)

  -- after the octets l of the same label
  lower_label : (l : List ℕ) (o m d r : ℕ) → Octets allowed l → Octet allowed o
      → lower allowed (length l + suc (suc m)) (within d (length l + suc r)) (closed (l ++ o ∷ []) [])
      ≡ some (opened l (fill allowed (suc (suc m)) (within d (suc r)) (below allowed o)))
  unfolding lower closed opened
  lower_label [] o m d r h k = rw (zero-add (suc (suc m)), zero-add (suc r)) (lower_last (within d (suc r)) m o k tt)
  lower_label (x ∷ l) o m d r h k =
      rw (
        suc-add (length l) (suc (suc m)),
        suc-add (length l) (suc r),
        lower_label l o m d r h.1 k,
        when_true (legal allowed (suc (length l + suc (suc m))) (within d (suc (length l + suc r))) (suc x))
            (some (opened l (fill allowed (suc (suc m)) (within d (suc r)) (below allowed o))))
            (of_open allowed (suc (length l + suc (suc m))) (within d (suc (length l + suc r))) x
            (rw (room_within (suc (length l + suc (suc m))) d (suc (length l + suc r)) (omega arith) (omega arith)) tt, h.0)),
      )

  -- what stands after the parent's labels, where the label was l and one more octet, which is lowered to the octet given
  sunk : ℕ → ℕ → Option ℕ → List ℕ → List ℕ
  sunk m d (some p) l = opened l (suc p ∷ fill allowed (suc m) (within d (62 - length l)) (cap allowed (suc m) (within d (62 - length l))))
  sunk m d none [] = []
  sunk m d none (x ∷ l) = closed (x ∷ l) (top allowed (suc m) (at d))

  sunk_nil : (m d : ℕ) (p : Option ℕ) → fill allowed (suc (suc m)) (at (suc d)) p ≡ sunk m d p []
  unfolding sunk fill opened
  sunk_nil m d (some p) = refl
  sunk_nil m d none = refl

  sunk_cons : (x m d : ℕ) (l : List ℕ) (p : Option ℕ)
      → suc x ∷ opened l (fill allowed (suc (suc m)) (within d (suc (61 - length l))) p) ≡ sunk m d p (x ∷ l)
  unfolding sunk fill opened closed top
  sunk_cons x m d l (some p) =
      let e : 61 - length l ≡ 62 - suc (length l) = omega arith in
      ap (λ (r : ℕ). suc x ∷ opened l (suc p ∷ fill allowed (suc m) (within d r) (cap allowed (suc m) (within d r)))) e
  sunk_cons x m d l none = ap (λ (t : List ℕ). suc x ∷ t) (opened_closed l (top allowed (suc m) (at d)))

  lower_first : (l : List ℕ) (o m d : ℕ) → Octets allowed l → Octet allowed o → length l ≤ 62
      → lower allowed (length l + suc (suc m)) (at (suc d)) (closed (l ++ o ∷ []) []) ≡ some (sunk m d (below allowed o) l)
  unfolding lower closed opened
  lower_first [] o m d h k b =
      rw (zero-add (suc (suc m))) (lower_last (at (suc d)) m o k tt ∙ ap some (sunk_nil m d (below allowed o)))
  lower_first (x ∷ l) o m d h k b =
      let e : 62 ≡ length l + suc (61 - length l) = omega arith in
      let found : lower allowed (length l + suc (suc m)) (within d 62) (closed (l ++ o ∷ []) [])
      ≡ some (opened l (fill allowed (suc (suc m)) (within d (suc (61 - length l))) (below allowed o)))
      = ap (λ (r : ℕ). lower allowed (length l + suc (suc m)) (within d r) (closed (l ++ o ∷ []) [])) e
      ∙ lower_label l o m d (61 - length l) h.1 k in
      rw (suc-add (length l) (suc (suc m)), found)
      (ap (λ (c : Option (List ℕ)). prefer (suc x) c (sink allowed (suc (length l + suc (suc m))) (at (suc d)) (suc x)))
      (when_true (legal allowed (suc (length l + suc (suc m))) (at (suc d)) (suc x))
      (some (opened l (fill allowed (suc (suc m)) (within d (suc (61 - length l))) (below allowed o))))
      (of_open allowed (suc (length l + suc (suc m))) (at (suc d)) x
      (rw (room_at (suc (length l + suc (suc m))) (suc d) (omega arith) (omega arith)) tt, h.0)))
      ∙ ap some (sunk_cons x m d l (below allowed o)))

  -- ---- the predecessor of at most d labels, the apex aside

  module _ (has-greatest : below allowed 256 ≡ some (greatest allowed)) (n d : ℕ) where
    sunk_law : (l : List ℕ) (ls : List (List ℕ)) (p : Option ℕ) → 2 + length l + size ls ≤ n → length ls < d → length l ≤ 62
        → sequence ls ++ sunk (n - (2 + length l + size ls)) (d - suc (length ls)) p l ≡ sequence (lowered allowed n d p l ls)
    unfolding sunk closed
    sunk_law [] ls none b few h = append-nil (sequence ls)
    sunk_law (x ∷ l) ls none b few h =
        let e : n - size ((x ∷ l) ∷ ls) ≡ suc (n - (2 + length (x ∷ l) + size ls)) = omega arith in
        rw (← e) (sym (sequence_cons_append (x ∷ l) ls (top allowed (n - size ((x ∷ l) ∷ ls)) (at (d - suc (length ls)))))
        ∙ sym (fill_labels_law allowed has-greatest (d - suc (length ls)) (n - size ((x ∷ l) ∷ ls)) ((x ∷ l) ∷ ls)))
    sunk_law l ls (some p) b few h =
        ap (λ (t : List ℕ). sequence ls ++ opened l (suc p ∷ t)) (fill_label allowed has-greatest m j (62 - length l))
        ∙ ap (λ (t : List ℕ). sequence ls ++ t) (sym (closed_opened l (p ∷ pad) (top allowed (m - k) (at j))))
        ∙ sym (sequence_cons_append (l ++ p ∷ pad) ls (top allowed (m - k) (at j)))
        ∙ ap (λ (i : ℕ). sequence ((l ++ p ∷ pad) ∷ ls) ++ top allowed i (at j)) left
        ∙ sym (fill_labels_law allowed has-greatest j (n - size ((l ++ p ∷ pad) ∷ ls)) ((l ++ p ∷ pad) ∷ ls))
        ∙ ap (λ (t : List ℕ). sequence (deepest allowed n d (t ∷ ls))) (sym whole)
      where
        m : ℕ
        m = n - (2 + length l + size ls)

        j : ℕ
        j = d - suc (length ls)

        k : ℕ
        k = min (62 - length l) m

        pad : List ℕ
        pad = replicate k (greatest allowed)

        left : m - k ≡ n - size ((l ++ p ∷ pad) ∷ ls)
        left = omega (arith, length-append l (p ∷ pad), length-replicate k (greatest allowed))

        count : min (63 - length (l ++ p ∷ [])) (n - size ((l ++ p ∷ []) ∷ ls)) ≡ k
        count = omega (arith, length-append l (p ∷ []))

        whole : padded allowed n (l ++ p ∷ []) ls ≡ l ++ p ∷ pad
        whole = ap (λ (i : ℕ). (l ++ p ∷ []) ++ replicate i (greatest allowed)) count ∙ append_assoc l (p ∷ []) pad

    pub lowered_law : (l : List ℕ) (o : ℕ) (ls : List (List ℕ)) → Octets allowed l → Octet allowed o → length l ≤ 62 → Labels allowed ls
        → length ls < d → 2 + length l + size ls ≤ n
        → predecessor allowed n (at d) (sequence ((l ++ o ∷ []) ∷ ls)) ≡ sequence (lowered allowed n d (below allowed o) l ls)
    unfolding predecessor
    lowered_law l o ls h k b v few fits =
        ap (λ (m : Option (List ℕ)). or_else m (top allowed n (at d))) found ∙ sunk_law l ls (below allowed o) fits few b
      where
        m : ℕ
        m = n - (2 + length l + size ls)

        j : ℕ
        j = d - suc (length ls)

        e : n ≡ length (sequence ls) + (length l + suc (suc m))
        e = omega (arith, sequence_size ls)

        front : Front allowed (at d) (sequence ls) (length l + suc (suc m))
        front =
            valid_front allowed (sequence ls) (length l + suc (suc m)) (at d)
            (labels_valid allowed (length (sequence ls) + (length l + suc (suc m))) d ls v (omega arith) (omega (arith, sequence_size ls)))

        last : lower allowed (length l + suc (suc m)) (walk (at d) (sequence ls)) (closed (l ++ o ∷ []) [])
            ≡ some (sunk m j (below allowed o) l)
        last =
            let g : d - length ls ≡ suc j = omega arith in
            rw (walk_sequence allowed ls d v (omega arith), g) (lower_first l o m j h k b)

        found : lower allowed n (at d) (sequence ((l ++ o ∷ []) ∷ ls)) ≡ some (sequence ls ++ sunk m j (below allowed o) l)
        found =
            ap (lower allowed n (at d)) (sequence_cons (l ++ o ∷ []) ls)
            ∙ ap (λ (i : ℕ). lower allowed i (at d) (sequence ls ++ closed (l ++ o ∷ []) [])) e
            ∙ lower_front allowed (sequence ls) (length l + suc (suc m)) (at d) (closed (l ++ o ∷ []) []) (sunk m j (below allowed o) l)
            front last
