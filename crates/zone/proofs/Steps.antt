-- For every name at or under the apex within the limit, of any number of labels, the steps give the neighbours of the ring
-- (`successor_steps_lem`, `predecessor_steps_lem`), and so the nearest members of the zone (`Zones.antt`).
use mathlib.Core.Path.{◌≡◌, refl, sym, ap, ◌∙◌}
use mathlib.Core.List.{List, [], ◌∷◌, ◌++◌, reverse}
use mathlib.Core.Option.{Option, none, some}
use mathlib.Core.Bool.{Bool, true, false, cond}
use Prim.Native.Nat.{ℕ, zero, suc, ◌-◌, ◌≤◌, ◌<◌}
use native.Mathlib.Nat.{sub-zero}
use native.Mathlib.Omega.{arith}
use borrow.Author.Tests.{ltb-true, ltb-false}
use lib.ListN.{length, take, drop, get_or, length-append, length-drop}
use lib.Dec.{T, ltb}
use Rattle.facts.proofs.Lists.{take_last}
use Rattle.name.specs.Labels.{Sizes}
use Rattle.order.specs.Sequence.{symbols, sequence, labels}
use Rattle.order.specs.Place.{at, Valid}
use Rattle.order.proofs.Canonical.{sequence_labels, sequence_injective}
use Rattle.order.proofs.Members.{Octet, Octets, Labels}
use Rattle.zone.specs.Alphabet.{from, below}
use Rattle.zone.specs.Ring.{lower, successor, predecessor}
use Rattle.zone.specs.Zone.{size, AllSpelled, successor_of, predecessor_of}
use Rattle.zone.specs.Steps.{or_zero, least, greatest, last_labels, lowered, successor_steps, predecessor_steps}
use Rattle.zone.proofs.Octets.{Min, Max, from_law, below_law}
use Rattle.zone.proofs.Cut.{cut, successor_cut, predecessor_cut}
use Rattle.zone.proofs.Bridge.{spelled_labels, labels_valid}
use Rattle.zone.proofs.Spelling.{cut_sequence}
use Rattle.zone.proofs.Climb.{deeper_law}
use Rattle.zone.proofs.Deepest.{fill_labels_law}
use Rattle.zone.proofs.Lowered.{lowered_law}

-- ---- the last labels

module _ (allowed : ℕ → Bool) where
  drop_labels : (k : ℕ) (ls : List (List ℕ)) → Labels allowed ls → Labels allowed (drop k ls)
  drop_labels zero ls h = h
  drop_labels (suc k) [] h = tt
  drop_labels (suc k) (l ∷ ls) h = drop_labels k ls h.3

drop_size : (k : ℕ) (ls : List (List ℕ)) → size (drop k ls) ≤ size ls
drop_size zero ls = omega arith
drop_size (suc k) [] = omega arith
drop_size (suc k) (l ∷ ls) = omega (arith, drop_size k ls)

pub last_all : (d : ℕ) (ls : List (List ℕ)) → length ls ≤ d → last_labels d ls ≡ ls
last_all d ls h = let e : length ls - d ≡ 0 = omega arith in rw e

last_few : (d : ℕ) (ls : List (List ℕ)) → length (last_labels d ls) ≤ d
last_few d ls = omega (arith, length-drop (length ls - d) ls)

-- ---- the last octet

octets_last : (allowed : ℕ → Bool) (l : List ℕ) (o : ℕ) → Octets allowed (l ++ o ∷ []) → Octets allowed l × Octet allowed o
octets_last allowed [] o h = (tt, h.0)
octets_last allowed (x ∷ l) o h = let r = octets_last allowed l o h.1 in ((h.0, r.0), r.1)

-- ---- an alphabet with an octet has a least one and a greatest one

module _ (allowed : ℕ → Bool) (a : ℕ) (octet : Octet allowed a) where
  pub least_found : from allowed 0 ≡ some (least allowed)
  unfolding least
  least_found = go (from allowed 0) (from_law allowed 0)
    where
      go : (m : Option ℕ) → Min (λ p. (0 ≤ p) × Octet allowed p) m → m ≡ some (or_zero m)
      go (some o) h = refl
      go none h = absurd (h a (omega arith, octet))

  pub greatest_found : below allowed 256 ≡ some (greatest allowed)
  unfolding greatest
  greatest_found = go (below allowed 256) (below_law allowed 256)
    where
      go : (m : Option ℕ) → Max (λ p. (p < 256) × T (allowed p)) m → m ≡ some (or_zero m)
      go (some o) h = refl
      go none h = absurd (h a octet)

  -- ---- the steps

  module _ (n d : ℕ) where
    successor_sequence : (ls : List (List ℕ)) → Labels allowed ls → size ls ≤ n
        → successor allowed n (at d) (sequence ls) ≡ sequence (successor_steps allowed n d ls)
    unfolding successor_steps
    successor_sequence ls h fits =
        go (ltb d (length ls)) refl ∙ deeper_law allowed least_found n (last_labels d ls) d (drop_labels allowed (length ls - d) ls h)
        (last_few d ls) (omega (arith, drop_size (length ls - d) ls))
      where
        go : (b : Bool) → ltb d (length ls) ≡ b
            → successor allowed n (at d) (sequence ls) ≡ successor allowed n (at d) (sequence (last_labels d ls))
        go true e =
            successor_cut allowed n d (sequence ls)
            ∙ ap (successor allowed n (at d)) (cut_sequence d ls (omega (arith, ltb-true d (length ls) e)))
        go false e = rw (last_all d ls (ltb-false d (length ls) e))

    pub successor_steps_lem : (ls : List (List ℕ)) → Sizes ls → AllSpelled allowed ls → size ls ≤ n
        → successor_steps allowed n d ls ≡ successor_of allowed n d ls
    unfolding successor_of
    successor_steps_lem ls v h fits =
        sym (ap (λ (s : List ℕ). reverse (labels s)) (successor_sequence ls (spelled_labels allowed ls v h) fits)
        ∙ sequence_labels (successor_steps allowed n d ls))

    -- of more labels than d: its last labels
    predecessor_deep : (ls : List (List ℕ)) → Labels allowed ls → size ls ≤ n → d < length ls
        → predecessor allowed n (at d) (sequence ls) ≡ sequence (last_labels d ls)
    predecessor_deep ls h fits k = predecessor_cut allowed n d (sequence ls) (rw e valid) other ∙ e
      where
        e : cut d (sequence ls) ≡ sequence (last_labels d ls)
        e = cut_sequence d ls (omega arith)

        valid : Valid allowed n (at d) (sequence (last_labels d ls))
        valid =
            labels_valid allowed n d (last_labels d ls) (drop_labels allowed (length ls - d) ls h) (last_few d ls)
            (omega (arith, drop_size (length ls - d) ls))

        other : cut d (sequence ls) ≡ sequence ls → ⊥
        other g = omega (arith, last_few d ls, ap length (sequence_injective (last_labels d ls) ls (sym e ∙ g)))

    -- of at most d labels: its last octet is lowered
    predecessor_near : (l : List ℕ) (ls : List (List ℕ)) → Labels allowed (l ∷ ls) → size (l ∷ ls) ≤ n → length ls < d
        → predecessor allowed n (at d) (sequence (l ∷ ls))
        ≡ sequence (lowered allowed n d (below allowed (get_or l (length l - 1) 0)) (take (length l - 1) l) ls)
    predecessor_near l ls h fits k =
        ap (λ (x : List ℕ). predecessor allowed n (at d) (sequence (x ∷ ls))) (sym e)
        ∙ lowered_law allowed greatest_found n d init o ls parts.0 parts.1 (omega (arith, h.1, count)) h.3 k
        (omega (arith, count))
      where
        init : List ℕ
        init = take (length l - 1) l

        o : ℕ
        o = get_or l (length l - 1) 0

        e : init ++ o ∷ [] ≡ l
        e = take_last l 0 h.0

        parts : Octets allowed init × Octet allowed o
        parts = octets_last allowed init o (rw e h.2)

        count : suc (length init) ≡ length l
        count = omega (arith, ap length e, length-append init (o ∷ []))

    predecessor_sequence : (ls : List (List ℕ)) → Labels allowed ls → size ls ≤ n
        → predecessor allowed n (at d) (sequence ls) ≡ sequence (predecessor_steps allowed n d ls)
    unfolding predecessor lower predecessor_steps symbols
    predecessor_sequence [] h fits =
        sym (fill_labels_law allowed greatest_found (d - 0) (n - 0) [] ∙ rw (sub-zero n, sub-zero d))
    predecessor_sequence (l ∷ ls) h fits = go (ltb d (length (l ∷ ls))) refl
      where
        go : (b : Bool) → ltb d (length (l ∷ ls)) ≡ b
            → predecessor allowed n (at d) (sequence (l ∷ ls))
            ≡ sequence
            (cond b (last_labels d (l ∷ ls)) (lowered allowed n d (below allowed (get_or l (length l - 1) 0)) (take (length l - 1) l) ls))
        go true e = predecessor_deep (l ∷ ls) h fits (ltb-true d (length (l ∷ ls)) e)
        go false e = predecessor_near l ls h fits (omega (arith, ltb-false d (length (l ∷ ls)) e))

    pub predecessor_steps_lem : (ls : List (List ℕ)) → Sizes ls → AllSpelled allowed ls → size ls ≤ n
        → predecessor_steps allowed n d ls ≡ predecessor_of allowed n d ls
    unfolding predecessor_of
    predecessor_steps_lem ls v h fits =
        sym (ap (λ (s : List ℕ). reverse (labels s)) (predecessor_sequence ls (spelled_labels allowed ls v h) fits)
        ∙ sequence_labels (predecessor_steps allowed n d ls))
