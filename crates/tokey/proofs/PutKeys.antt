-- A name's key written label by label from its end: what holds at the place of a label (`Passing`), and when all labels are written.
use mathlib.Core.Path.{◌≡◌, sym, ap, ◌∙◌}
use mathlib.Core.List.{List, [], ◌∷◌, ◌++◌, map, append-nil, append_assoc}
use Prim.Native.Nat.{ℕ, ◌+◌, ◌≤◌, ◌<◌}
use native.Mathlib.Omega.{arith}
use lib.ListN.{length, length-append, length-drop, drop, get_or}
use Rattle.std.specs.Prelude.{Ok}
use Rattle.space.specs.Octets.{overlay}
use Rattle.name.specs.Wire.{reading_of}
use Rattle.name.specs.Labels.{labels_of}
use Rattle.name.specs.Private.Standing.{Standing}
use Rattle.space.specs.Fold.{folded}
use Rattle.space.specs.Private.Put.{folded_part}
use Rattle.space.specs.Private.Written.{Written, Room}
use Rattle.space.proofs.Written.{written_none, written_before, written_front}
use Rattle.name.proofs.LabelSteps.{Here, here, counted, stands}
use Rattle.order.specs.Order.{folded_labels}
use Rattle.key.specs.Key.{label_key, right_key, key_of}
use Rattle.key.specs.Small.{small_in, small}
use Rattle.key.proofs.KeyLength.{labels_key_length, small_folded_label}
use Rattle.tokey.proofs.KeyParts.{key_first, label_key_some}

-- the labels before the place p are written, from the index `end` on, and the key of the others takes what is before
pub record Passing (s before : List ℕ) (len p end : ℕ) (after : List ℕ) : Type 0 where
  pub standing : Standing s p 0
  pub size : end ≡ length (key_of (folded_labels (drop p s)))
  pub tail : List ℕ
  pub joins : key_of (folded_labels (drop p s)) ++ tail ≡ key_of (folded_labels s)
  pub written : Written before end end tail len len after

pub passing_none : {s d : List ℕ} {len : ℕ} → reading_of s ≡ Ok tt → len ≡ length (key_of (folded_labels s)) → len ≤ length d
    → Passing s d len 0 len d
passing_none {s} {d} e size room =
    record {
      standing = stands s e;
      size = size;
      tail = [];
      joins = append-nil (key_of (folded_labels s));
      written = written_none d (omega arith) (omega arith) room;
    }

module _ {s d : List ℕ} {len p end : ℕ} {a : List ℕ} (w : Passing s d len p end a) where
  pub passing_all : end ≤ 0 → a ≡ overlay (key_of (folded_labels s)) d
  passing_all h = go (key_of (folded_labels (drop p s))) (omega (arith, w.size)) w.joins
    where
      go : (k : List ℕ) → length k ≡ 0 → k ++ w.tail ≡ key_of (folded_labels s) → a ≡ overlay (key_of (folded_labels s)) d
      go [] z e =
          let n : end ≡ 0 = omega arith in
          rw (← e) (written_front (rw n at w.written) (omega arith))
      go (x ∷ k) z e = absurd (omega arith)

  -- a label stands at the place p
  module _ (more : 0 < end) where
    passing_here : Here s p 1
    unfolding right_key
    passing_here = here s p 1 (counted w.standing 1 (go (labels_of (drop p s)) w.size)) (omega arith)
      where
        go : (ls : List (List ℕ)) → end ≡ length (key_of (map folded ls)) → 1 ≤ length ls
        go [] e = absurd (omega arith)
        go (l ∷ ls) e = omega arith

    passing_label : folded_part s (p + 1) (get_or s p 0) ≡ folded passing_here.label
    passing_label = rw passing_here.octet (ap folded passing_here.octets)

    passing_rest : folded_labels (drop (p + 1 + get_or s p 0) s) ≡ map folded passing_here.rest
    passing_rest = rw passing_here.octet (ap (λ (ls : List (List ℕ)). map folded ls) passing_here.after)

    -- the key of what is left is that of the labels behind this one, and this one's
    passing_key : key_of (folded_labels (drop p s))
        ≡ key_of (folded_labels (drop (p + 1 + get_or s p 0) s)) ++ label_key (folded_part s (p + 1) (get_or s p 0)) []
    passing_key =
        rw (passing_label, passing_rest, passing_here.is)
        (key_first (folded passing_here.label) (map folded passing_here.rest))

    passing_size : end
        ≡ length (key_of (folded_labels (drop (p + 1 + get_or s p 0) s))) + length (label_key (folded_part s (p + 1) (get_or s p 0)) [])
    passing_size = w.size ∙ ap length passing_key ∙ length-append (key_of (folded_labels (drop (p + 1 + get_or s p 0) s))) _

    pub passing_within : p + 1 + get_or s p 0 < length s
    passing_within = rw passing_here.octet passing_here.within

    pub passing_some : 1 ≤ get_or s p 0
    passing_some = rw passing_here.octet passing_here.some

    pub passing_room : Room a end (label_key (folded_part s (p + 1) (get_or s p 0)) [])
    passing_room = record { fits = omega (arith, passing_size); within = omega arith }

    pub passing_plain : end + (p + 1) ≡ length s → small_in (folded_part s (p + 1) (get_or s p 0)) ≡ 0
    passing_plain h =
        let k = labels_key_length (labels_of (drop p s)) w.standing.sizes in
        omega (
          arith,
          k,
          w.size,
          ap length w.standing.back,
          length-drop p s,
          ap small passing_here.is,
          ap small_in passing_label,
          small_folded_label passing_here.label,
          passing_within,
        )

    module _ {at : ℕ} {b : List ℕ} (v : Written a at at (label_key (folded_part s (p + 1) (get_or s p 0)) []) end end b) where
      pub passing_less : at < end
      passing_less = omega (arith, label_key_some (folded_part s (p + 1) (get_or s p 0)) [])

      pub passing_next : Passing s d len (p + 1 + get_or s p 0) at b
      passing_next =
          record {
            standing = rw passing_here.octet (counted passing_here.next 0 (omega arith));
            size = omega (arith, passing_size);
            tail = label_key (folded_part s (p + 1) (get_or s p 0)) [] ++ w.tail;
            joins =
                sym (append_assoc (key_of (folded_labels (drop (p + 1 + get_or s p 0) s))) _ w.tail)
                ∙ ap (λ (k : List ℕ). k ++ w.tail) (sym passing_key)
                ∙ w.joins;
            written = written_before w.written v (omega arith);
          }
