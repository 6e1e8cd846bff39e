-- From names to sequences: labels above the apex are a member's exactly when their canonical sequence is valid (`member_valid`,
-- `valid_member`), and the canonical order of the whole names is the order of these sequences (`precedes_sequence`, `sequence_precedes`).
use mathlib.Core.Path.{◌≡◌, refl, sym, ap, ◌∙◌}
use mathlib.Core.List.{List, [], ◌∷◌, ◌++◌, reverse, reverse-append, reverse-reverse}
use mathlib.Core.Logic.{inl, inr}
use mathlib.Core.Bool.{Bool}
use Prim.Native.Nat.{ℕ, ◌+◌, ◌≤◌}
use native.Mathlib.Omega.{arith}
use lib.ListN.{length, length-append, length-reverse}
use Rattle.name.specs.Labels.{wire, Sizes}
use Rattle.order.specs.Order.{◌⊏◌, FromRight, Before}
use Rattle.order.specs.Sequence.{symbols, sequence, labels}
use Rattle.order.specs.Place.{at, Valid}
use Rattle.order.proofs.Lexicographic.{lex_irreflexive}
use Rattle.order.proofs.Canonical.{sequence_length, sequence_order, sequence_order_back, sequence_labels}
use Rattle.order.proofs.Members
use Rattle.zone.specs.Zone.{size, Spelled, AllSpelled, spare, Member, Precedes}

-- ---- lengths

pub wire_size : (ls : List (List ℕ)) → length (wire ls) ≡ size ls + 1
wire_size [] = omega arith
wire_size (l ∷ ls) = omega (arith, length-append l (wire ls), wire_size ls)

pub wire_append : (ls ms : List (List ℕ)) → length (wire (ls ++ ms)) ≡ size ls + length (wire ms)
wire_append [] ms = omega arith
wire_append (l ∷ ls) ms = omega (arith, length-append l (wire (ls ++ ms)), wire_append ls ms)

pub sequence_size : (ls : List (List ℕ)) → length (sequence ls) ≡ size ls
sequence_size ls = omega (arith, sequence_length ls, wire_size ls)

-- ---- order

from_right_front : (ts ls ms : List (List ℕ)) → FromRight ls ms → FromRight (ts ++ ls) (ts ++ ms)
from_right_front [] ls ms h = h
from_right_front (t ∷ ts) ls ms h = inr (refl, from_right_front ts ls ms h)

from_right_unfront : (ts ls ms : List (List ℕ)) → FromRight (ts ++ ls) (ts ++ ms) → FromRight ls ms
from_right_unfront [] ls ms h = h
from_right_unfront (t ∷ ts) ls ms (inl h) = absurd (lex_irreflexive t h)
from_right_unfront (t ∷ ts) ls ms (inr h) = from_right_unfront ts ls ms h.1

-- common last labels do not matter
pub before_tail : (ls ms ts : List (List ℕ)) → Before ls ms → Before (ls ++ ts) (ms ++ ts)
before_tail ls ms ts h =
    rw (reverse-append ls ts, reverse-append ms ts) (from_right_front (reverse ts) (reverse ls) (reverse ms) h)

pub before_untail : (ls ms ts : List (List ℕ)) → Before (ls ++ ts) (ms ++ ts) → Before ls ms
before_untail ls ms ts h =
    from_right_unfront (reverse ts) (reverse ls) (reverse ms) (rw (reverse-append ls ts, reverse-append ms ts) at h)

-- ---- labels, leftmost first or rightmost first

module _ (allowed : ℕ → Bool) where
  pub spelled_octets : (l : List ℕ) → Spelled allowed l → Members.Octets allowed l
  spelled_octets [] h = tt
  spelled_octets (o ∷ l) h = ((h.0, h.1), spelled_octets l h.2)

  pub octets_spelled : (l : List ℕ) → Members.Octets allowed l → Spelled allowed l
  octets_spelled [] h = tt
  octets_spelled (o ∷ l) h = (h.0.0, h.0.1, octets_spelled l h.1)

  pub spelled_labels : (ls : List (List ℕ)) → Sizes ls → AllSpelled allowed ls → Members.Labels allowed ls
  spelled_labels [] v h = tt
  spelled_labels (l ∷ ls) v h = (v.0, v.1, spelled_octets l h.0, spelled_labels ls v.2 h.1)

  pub labels_sizes : (ls : List (List ℕ)) → Members.Labels allowed ls → Sizes ls
  labels_sizes [] h = tt
  labels_sizes (l ∷ ls) h = (h.0, h.1, labels_sizes ls h.3)

  pub labels_spelled : (ls : List (List ℕ)) → Members.Labels allowed ls → AllSpelled allowed ls
  labels_spelled [] h = tt
  labels_spelled (l ∷ ls) h = (octets_spelled l h.2, labels_spelled ls h.3)

  -- ---- valid sequences

  pub labels_valid : (n d : ℕ) (ls : List (List ℕ)) → Members.Labels allowed ls → length ls ≤ d → size ls ≤ n
      → Valid allowed n (at d) (sequence ls)
  labels_valid n d ls h few fits =
      Members.member_valid allowed n d (reverse ls) (record {
        labels = Members.labels_reverse allowed ls h;
        depth = rw (length-reverse ls) few;
        size = rw (sequence_size ls) fits;
      })

  -- a valid sequence is that of its labels
  pub record Read (n d : ℕ) (s : List ℕ) (ls : List (List ℕ)) : Type 0 where
    pub back : sequence ls ≡ s
    pub labels : Members.Labels allowed ls
    pub few : length ls ≤ d
    pub fits : size ls ≤ n

  pub valid_labels : (n d : ℕ) (s : List ℕ) → Valid allowed n (at d) s → Read n d s (reverse (labels s))
  valid_labels n d s v =
      let h = Members.valid_member allowed n d s v in
      let ms : List (List ℕ) = reverse h.0 in
      let b : sequence ms ≡ s = ap symbols (reverse-reverse h.0) ∙ h.1 in
      let e : reverse (labels s) ≡ ms = ap (λ (t : List ℕ). reverse (labels t)) (sym b) ∙ sequence_labels ms in
      rw e (record {
        back = b;
        labels = Members.labels_reverse allowed h.0 h.2.labels;
        few = rw (length-reverse h.0) h.2.depth;
        fits = omega (arith, sequence_size ms, ap length b, ap length h.1, h.2.size);
      })

module _ (allowed : ℕ → Bool) (limit depth : ℕ) (apex : List (List ℕ)) where
  pub precedes_sequence : (ls ms : List (List ℕ)) → Precedes allowed limit depth apex ls ms → sequence ls ⊏ sequence ms
  precedes_sequence ls ms h = sequence_order ls ms (before_untail ls ms apex h)

  pub sequence_precedes : (ls ms : List (List ℕ)) → sequence ls ⊏ sequence ms → Precedes allowed limit depth apex ls ms
  sequence_precedes ls ms h = before_tail ls ms apex (sequence_order_back ls ms h)

  pub member_valid : (ls : List (List ℕ)) → Member allowed limit depth apex ls → Valid allowed (spare limit apex) (at depth) (sequence ls)
  member_valid ls h =
      labels_valid allowed (spare limit apex) depth ls (spelled_labels allowed ls h.sizes h.octets) h.few
      (omega (arith, h.fits, wire_append ls apex))

  -- where the apex is no longer than the limit
  pub valid_member : length (wire apex) ≤ limit → (s : List ℕ) → Valid allowed (spare limit apex) (at depth) s
      → (sequence (reverse (labels s)) ≡ s) × Member allowed limit depth apex (reverse (labels s))
  valid_member fits s v =
      let h = valid_labels allowed (spare limit apex) depth s v in (
        h.back,
        record {
          sizes = labels_sizes allowed (reverse (labels s)) h.labels;
          octets = labels_spelled allowed (reverse (labels s)) h.labels;
          few = h.few;
          fits = omega (arith, h.fits, wire_append (reverse (labels s)) apex);
        },
      )
