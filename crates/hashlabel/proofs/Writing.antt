-- How the writer and the reader of a label meet their promises: a hash and its label are regrouped one into the other, and the digits of a
-- label are spelled.
use mathlib.Core.Path.{◌≡◌, refl, sym, ap, ◌∙◌}
use mathlib.Core.List.{List, [], map}
use mathlib.Core.Bool.{Bool, true, false}
use Prim.Native.Nat.{ℕ, ◌*◌, ◌^◌, ◌≤◌, ◌<◌}
use native.Mathlib.Omega.{arith}
use borrow.Author.Tests.{eq-eqb, ne_eqb}
use lib.Dec.{lit<, lit≤}
use lib.ListN.{length, take}
use lib.Seq.{take_at}
use Rattle.space.specs.Octets.{overlay}
use Rattle.name.specs.Answer.{answer, refusal}
use Rattle.hash.specs.Digits.{value, digits, are_digits}
use Rattle.hash.specs.Label.{character, label_of, label_digits, hash_of}
use Rattle.hash.specs.Answers.{read_label_of}
use Rattle.hash.specs.Private.Below.{Below}
use Rattle.hashlabel.specs.Private.Grouping.{Regroups}
use Rattle.hash.proofs.Digits.{below_tested, tested_below, digits_length, digits_below}
use Rattle.hash.proofs.Label.{label_length, label_digits_length}
use Rattle.hashlabel.proofs.Spelling.{overlay_again}

-- 40 bits are a group of a hash and a group of its label
module _ (s space : List ℕ) where
  regroups : (base n other m : ℕ) → base ^ n ≡ other ^ m → base ^ n ≤ 2 ^ 40 → 0 < base → (0 < other) × (other ≤ 256)
      → length s ≡ 4 * n → Below base s → 4 * m ≤ length space → Regroups base n other m s space
  regroups base n other m same small positive octet e h room = record {
    read = e;
    room = room;
    below = h;
    same = same;
    small = small;
    positive = positive;
    other_positive = octet.0;
    other_high = octet.1;
  }

  pub to_label : length s ≡ 20 → Below 256 s → 32 ≤ length space → Regroups 256 5 32 8 s space
  to_label = regroups 256 5 32 8 refl (lit≤ tt) (lit< tt) (lit< tt, lit≤ tt)

  pub to_hash : length s ≡ 32 → Below 32 s → 20 ≤ length space → Regroups 32 8 256 5 s space
  to_hash = regroups 32 8 256 5 refl (lit≤ tt) (lit< tt) (lit< tt, lit≤ tt)

module _ (hash space : List ℕ) {d : List ℕ} (e : d ≡ overlay (digits 32 32 (value 256 hash)) space) where
  -- the digits that are to be spelled
  pub front_digits : take 32 d ≡ digits 32 32 (value 256 hash)
  front_digits = rw e (take_at (digits 32 32 (value 256 hash)) _ 32 (digits_length 32 32 (value 256 hash)))

  pub front_below : Below 32 (take 32 d)
  front_below = rw front_digits (digits_below 32 32 (value 256 hash) (omega arith))

  pub label_spelled : {f : List ℕ} → f ≡ overlay (map character (take 32 d)) d → f ≡ overlay (label_of hash) space
  unfolding label_of
  label_spelled ef =
      ef ∙ rw (front_digits, e) (overlay_again (label_of hash) (digits 32 32 (value 256 hash)) space
      (label_length hash ∙ sym (digits_length 32 32 (value 256 hash))))

-- what the test of the digits told
pub tested_right : (found : List ℕ) {array : List ℕ} {r : Bool} → array ≡ found → r ≡ are_digits 32 array → r ≡ true → Below 32 found
tested_right found ea er e = below_tested 32 found (rw (← ea) (sym er ∙ e))

pub tested_wrong : (found : List ℕ) {array : List ℕ} {r : Bool} → array ≡ found → r ≡ are_digits 32 array → r ≡ false
    → are_digits 32 found ≡ false
tested_wrong found ea er e = rw (← ea) (sym er ∙ e)

module _ (label : List ℕ) where
  pub other_length : (length label ≡ 32 → ⊥) → read_label_of label ≡ refusal 17 []
  other_length h = rw (ne_eqb (length label) 32 h)

  module _ (e : length label ≡ 32) where
    pub other_character : are_digits 32 (label_digits label) ≡ false → read_label_of label ≡ refusal 17 []
    other_character h = rw (eq-eqb (length label) 32 e, h)

    pub label_taken : Below 32 (label_digits label) → read_label_of label ≡ answer (hash_of label)
    label_taken h = rw (eq-eqb (length label) 32 e, tested_below 32 (label_digits label) h)

    pub hash_written : (ds space : List ℕ) {f : List ℕ} → ds ≡ label_digits label → f ≡ overlay (digits 256 20 (value 32 ds)) space
        → f ≡ overlay (hash_of label) space
    unfolding hash_of
    hash_written ds space eds ef = ef ∙ rw eds

    pub digits_size : {ds : List ℕ} → ds ≡ label_digits label → length ds ≡ 32
    digits_size eds = ap length eds ∙ label_digits_length label ∙ e
