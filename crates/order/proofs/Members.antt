-- The valid sequences are those of the names that the limits allow: labels of 1 to 63 octets of the alphabet, at most d of them, in at
-- most n symbols (`member_valid`, `valid_member`).
use mathlib.Core.Path.{◌≡◌, refl, ap}
use mathlib.Core.List.{List, [], ◌∷◌, ◌++◌, reverse, reverse-cons}
use mathlib.Core.Bool.{Bool}
use Prim.Native.Nat.{ℕ, zero, suc, ◌≤◌, ◌<◌}
use native.Mathlib.Omega.{arith}
use lib.ListN.{length}
use lib.Dec.{T, ltb, ltb→lt, lt→ltb}
use lib.Ieee.Fits.{and_i, and_l, and_r}
use Rattle.order.specs.Sequence.{closed, symbols}
use Rattle.order.specs.Place.{Place, at, within, room, octet, legal, Valid}
use Rattle.order.proofs.Sequences.{length_closed}

module _ (allowed : ℕ → Bool) where
  -- The tests, read as facts.
  abbrev pub Octet : ℕ → Type 0
  Octet o = (o < 256) × T (allowed o)

  abbrev pub Open : ℕ → Place → ℕ → Type 0
  Open n q o = T (room n q) × Octet o

  pub open_of : (n : ℕ) (q : Place) (o : ℕ) → T (legal allowed n q (suc o)) → Open n q o
  open_of n q o h =
      let e = and_r (room n q) (octet allowed o) h in
      (and_l (room n q) (octet allowed o) h, (ltb→lt o 256 (and_l (ltb o 256) (allowed o) e), and_r (ltb o 256) (allowed o) e))

  pub of_open : (n : ℕ) (q : Place) (o : ℕ) → Open n q o → T (legal allowed n q (suc o))
  of_open n q o h = and_i (room n q) (octet allowed o) h.0 (and_i (ltb o 256) (allowed o) (lt→ltb o 256 h.1.0) h.1.1)

  abbrev pub Octets : List ℕ → Type 0
  Octets [] = Unit {0}
  Octets (o ∷ l) = Octet o × Octets l

  abbrev pub Labels : List (List ℕ) → Type 0
  Labels [] = Unit {0}
  Labels (l ∷ ls) = (1 ≤ length l) × (length l ≤ 63) × Octets l × Labels ls

  pub labels_append : (ls ms : List (List ℕ)) → Labels ls → Labels ms → Labels (ls ++ ms)
  labels_append [] ms h k = k
  labels_append (l ∷ ls) ms h k = (h.0, h.1, h.2, labels_append ls ms h.3 k)

  pub labels_reverse : (ls : List (List ℕ)) → Labels ls → Labels (reverse ls)
  labels_reverse [] h = tt
  labels_reverse (l ∷ ls) h =
      rw (reverse-cons l ls) (labels_append (reverse ls) (l ∷ []) (labels_reverse ls h.3) (h.0, h.1, h.2, tt))

  -- the names of the zone
  pub record Member (n d : ℕ) (ls : List (List ℕ)) : Type 0 where
    pub labels : Labels ls
    pub depth : length ls ≤ d
    pub size : length (symbols ls) ≤ n

  closed_valid : (l k : List ℕ) (n d r : ℕ) → Octets l → length l ≤ r → length (closed l k) ≤ n
      → ((m : ℕ) → length k ≤ m → Valid allowed m (at d) k)
      → Valid allowed n (within d r) (closed l k)
  unfolding closed
  closed_valid [] k zero d r o h b f = absurd (omega arith)
  closed_valid [] k (suc n) d r o h b f = (tt, f n (omega arith))
  closed_valid (x ∷ l) k zero d r o h b f = absurd (omega arith)
  closed_valid (x ∷ l) k (suc zero) d r o h b f = absurd (omega (arith, length_closed l k))
  closed_valid (x ∷ l) k (suc (suc n)) d zero o h b f = absurd (omega arith)
  closed_valid (x ∷ l) k (suc (suc n)) d (suc r) o h b f =
      (of_open (suc (suc n)) (within d (suc r)) x (tt, o.0), closed_valid l k (suc n) d r o.1 (omega arith) (omega arith) f)

  member_valid_at : (ls : List (List ℕ)) (n d : ℕ) → Labels ls → length ls ≤ d → length (symbols ls) ≤ n
      → Valid allowed n (at d) (symbols ls)
  unfolding symbols closed
  member_valid_at [] n d h b s = tt
  member_valid_at ([] ∷ ls) n d h b s = absurd (omega arith)
  member_valid_at ((x ∷ l) ∷ ls) n zero h b s = absurd (omega arith)
  member_valid_at ((x ∷ l) ∷ ls) zero (suc d) h b s = absurd (omega arith)
  member_valid_at ((x ∷ l) ∷ ls) (suc zero) (suc d) h b s = absurd (omega (arith, length_closed l (symbols ls)))
  member_valid_at ((x ∷ l) ∷ ls) (suc (suc n)) (suc d) h b s = (
    of_open (suc (suc n)) (at (suc d)) x (tt, h.2.0),
    closed_valid l (symbols ls) (suc n) d 62 h.2.1 (omega arith) (omega arith)
        (λ m c. member_valid_at ls m d h.3 (omega arith) c),
  )

  pub member_valid : (n d : ℕ) (ls : List (List ℕ)) → Member n d ls → Valid allowed n (at d) (symbols ls)
  member_valid n d ls h = member_valid_at ls n d h.labels h.depth h.size

  -- Read back: what stands at a place.
  Read : Place → List ℕ → Type 0
  Read (at d) s = (ls : List (List ℕ)) × (symbols ls ≡ s) × Labels ls × (length ls ≤ d)
  Read (within d r) s =
      (l : List ℕ) × (ls : List (List ℕ)) × (closed l (symbols ls) ≡ s) × Octets l × (length l ≤ r) × Labels ls × (length ls ≤ d)

  read : (s : List ℕ) (n : ℕ) (q : Place) → Valid allowed n q s → Read q s × (length s ≤ n)
  unfolding Read symbols closed
  read [] n (at d) v = (([], refl, tt, omega arith), omega arith)
  read [] n (within d r) v = absurd v
  read (x ∷ s) zero q v = absurd v
  read (zero ∷ s) (suc n) (at d) v = absurd v.0
  read (zero ∷ s) (suc n) (within d r) v =
      let h = read s n (at d) v.1 in
      (([], h.0.0, ap (λ (t : List ℕ). 0 ∷ t) h.0.1, tt, omega arith, h.0.2, h.0.3), omega (arith, h.1))
  read (suc o ∷ s) (suc zero) q v = absurd v.0
  read (suc o ∷ s) (suc (suc n)) (at zero) v = absurd v.0
  read (suc o ∷ s) (suc (suc n)) (at (suc d)) v =
      let h = read s (suc n) (within d 62) v.1 in (
        (
          (o ∷ h.0.0) ∷ h.0.1,
          ap (λ (t : List ℕ). suc o ∷ t) h.0.2,
          (omega arith, omega (arith, h.0.4), ((open_of (suc (suc n)) (at (suc d)) o v.0).1, h.0.3), h.0.5),
          omega (arith, h.0.6),
        ),
        omega (arith, h.1),
      )
  read (suc o ∷ s) (suc (suc n)) (within d zero) v = absurd v.0
  read (suc o ∷ s) (suc (suc n)) (within d (suc r)) v =
      let h = read s (suc n) (within d r) v.1 in (
        (
          o ∷ h.0.0,
          h.0.1,
          ap (λ (t : List ℕ). suc o ∷ t) h.0.2,
          ((open_of (suc (suc n)) (within d (suc r)) o v.0).1, h.0.3),
          omega (arith, h.0.4),
          h.0.5,
          h.0.6,
        ),
        omega (arith, h.1),
      )

  -- A valid sequence is that of a name of the zone.
  pub valid_member : (n d : ℕ) (s : List ℕ) → Valid allowed n (at d) s → (ls : List (List ℕ)) × (symbols ls ≡ s) × Member n d ls
  unfolding Read
  valid_member n d s v =
      let h = read s n (at d) v in
      (h.0.0, h.0.1, record { labels = h.0.2; depth = h.0.3; size = rw h.0.1 h.1 })
