-- Sorting keys order names as the canonical order does and tell them apart (`key_order`, `key_order_back`, `key_injective`); two names
-- have one key exactly when their folded octets are equal (`keys_equal`, `equal_keys`).
use mathlib.Core.Path.{◌≡◌, sym, ap, ◌∙◌}
use mathlib.Core.List.{List, reverse}
use Prim.Native.Nat.{ℕ}
use Rattle.std.specs.Prelude.{Ok}
use Rattle.name.specs.Wire.{reading_of}
use Rattle.name.specs.Labels.{wire, labels_of}
use Rattle.space.specs.Fold.{folded}
use Rattle.name.proofs.Folding.{folded_idempotent, folded_is_wire, folded_labels_lem, folded_whole}
use Rattle.order.specs.Order.{◌⊏◌, Before, folded_labels}
use Rattle.order.specs.Sequence.{sequence}
use Rattle.order.proofs.Canonical.{sequence_order, sequence_order_back, sequence_injective}
use Rattle.key.specs.Key.{key_of}
use Rattle.key.proofs.Codes.{code, key_is_code, code_order, code_order_back, code_injective}

-- ---- labels, the leftmost first

pub key_is_sequence_code : (ls : List (List ℕ)) → key_of ls ≡ code (sequence ls)
key_is_sequence_code ls = key_is_code (reverse ls)

pub key_order : (ls ms : List (List ℕ)) → Before ls ms → key_of ls ⊏ key_of ms
key_order ls ms h =
    rw (key_is_sequence_code ls, key_is_sequence_code ms) (code_order (sequence ls) (sequence ms) (sequence_order ls ms h))

pub key_order_back : (ls ms : List (List ℕ)) → key_of ls ⊏ key_of ms → Before ls ms
key_order_back ls ms h =
    sequence_order_back ls ms (code_order_back (sequence ls) (sequence ms) (rw (key_is_sequence_code ls, key_is_sequence_code ms) at h))

pub key_injective : (ls ms : List (List ℕ)) → key_of ls ≡ key_of ms → ls ≡ ms
key_injective ls ms e =
    sequence_injective ls ms
    (code_injective (sequence ls) (sequence ms) (sym (key_is_sequence_code ls) ∙ e ∙ key_is_sequence_code ms))

-- ---- names

module _ (s t : List ℕ) (v : reading_of s ≡ Ok tt) (w : reading_of t ≡ Ok tt) where
  pub keys_equal : key_of (folded_labels s) ≡ key_of (folded_labels t) → folded s ≡ folded t
  keys_equal e =
      folded_is_wire s v ∙ ap wire (key_injective (folded_labels s) (folded_labels t) e) ∙ sym (folded_is_wire t w)

  pub equal_keys : folded s ≡ folded t → key_of (folded_labels s) ≡ key_of (folded_labels t)
  equal_keys e = ap key_of (sym (folded_labels_lem s v) ∙ ap labels_of e ∙ folded_labels_lem t w)

pub key_of_folded : (s : List ℕ) → reading_of s ≡ Ok tt → key_of (folded_labels (folded s)) ≡ key_of (folded_labels s)
key_of_folded s v = equal_keys (folded s) s (folded_whole s v) v (folded_idempotent s)
